-- Sheets whose page is read from a file, drawn from the bottom up on a canvas at the page's corner.
-- Assumes nothing.
use Rattle.std.specs.Prelude.{ℕ, List, replicate}
use Rattle.plan.specs.Page.{Page, blank_page}
use Rattle.reader.specs.Reading.{page_at, read_page}
use Rattle.raster.specs.Blends.{grey_blended, tint_blended, paper_blended}
use Rattle.raster.specs.Meanings.{Meaning, uniform}
use Rattle.raster.specs.Samples.{from_bytes, from_triples, from_bits, cover_of}
use Rattle.raster.specs.declared.covers.Cover.{Cover}
use Rattle.raster.specs.declared.greys.Grey.{Grey}
use Rattle.raster.specs.declared.papers.Paper.{Paper}
use Rattle.raster.specs.declared.papers.Paper.TheVariants.{Blank, Ink}
use Rattle.raster.specs.declared.tints.Tint.{Tint}
use Rattle.cells.specs.declared.rectangles.Rectangle.{Rectangle}
use Rattle.cells.specs.declared.stored.Cell.{Cell}
use Rattle.canvas.specs.Views.{View, opened}
use Rattle.linked.specs.Stacks.{stacked}

-- the first page of a file, or a blank one where it cannot be read
abbrev pub first_page : List ℕ → Page
first_page file = read_page (page_at 0 file) blank_page

-- a rectangle at the page's corner
abbrev pub corner : ℕ → ℕ → Rectangle
corner wide high = record { left = 0; top = 0; right = wide; bottom = high }

-- memory for the most cells that a canvas has
abbrev pub room : {C : Type 0} → C → List (Cell C)
room colour = replicate 65536 (record { colour = colour; level = 0 })

-- a canvas opened at the corner of a file's first page, with the first objects laid on it
abbrev pub drawn_sheet : {C : Type 0} → (C → C → Cover → C) → List ℕ → ℕ → ℕ → List (Cell C) → C → ℕ → Meaning Cover → Meaning C → View C
drawn_sheet blended file wide high memory colour count mask image =
    stacked blended (opened (first_page file) (corner wide high) memory colour) count (corner wide high) mask image

-- byte covers over one grey, on white
abbrev pub grey_sheet : List ℕ → ℕ → ℕ → ℕ → List ℕ → ℕ → View Grey
grey_sheet file wide high count covers shade =
    drawn_sheet grey_blended file wide high (room (record { shade = 255 })) (record { shade = 255 }) count (from_bytes cover_of wide high covers) (uniform wide high (record { shade = shade }))

-- byte covers over tints, on white
abbrev pub tint_sheet : List ℕ → ℕ → ℕ → ℕ → List ℕ → List ℕ → View Tint
tint_sheet file wide high count covers tints =
    drawn_sheet tint_blended file wide high (room (record { red = 255; green = 255; blue = 255 })) (record { red = 255; green = 255; blue = 255 }) count (from_bytes cover_of wide high covers) (from_triples wide high tints)

-- bit covers over ink, on blank paper
abbrev pub paper_sheet : List ℕ → ℕ → ℕ → ℕ → List ℕ → View Paper
paper_sheet file wide high count covers =
    drawn_sheet paper_blended file wide high (room Blank) Blank count (from_bits wide high covers) (uniform wide high Ink)
