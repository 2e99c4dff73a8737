-- A small sheet, and what the definitions say of it.
-- The page is 4 wide and 2 high, grey 200. Object 0 covers columns 1 and 2 of both rows with grey 0 at cover 128; object 1 begins at
-- column 2 of row 1 with grey 30 at full cover, and its mask and image have one place. The canvas is the page.
-- Assumes nothing.
use Rattle.std.specs.Prelude.{◌≡◌, ℕ, ◌+◌, false, List, [], ◌∷◌, map, replicate, Some, None, Ok, Err, Result}
use Rattle.plan.specs.Page.{Page, blank_resolution}
use Rattle.plan.specs.declared.layout.Objects.TheVariants.{Separate}
use Rattle.plan.specs.declared.layout.Object.{Object}
use Rattle.plan.specs.declared.layout.Row.{Row}
use Rattle.raster.specs.Blends.{grey_blended, paper_blended}
use Rattle.raster.specs.Meanings.{uniform, arrived}
use Rattle.raster.specs.declared.covers.Cover.{Cover}
use Rattle.raster.specs.declared.greys.Grey.{Grey}
use Rattle.raster.specs.declared.papers.Paper.TheVariants.{Blank, Ink}
use Rattle.cells.specs.declared.rectangles.Rectangle.{Rectangle}
use Rattle.cells.specs.declared.refusals.Refusal.{Refusal}
use Rattle.cells.specs.declared.refusals.Refusal.TheVariants.{OutOfTurn, ImageMissing}
use Rattle.cells.specs.declared.stored.Cell.{Cell}
use Rattle.canvas.specs.Views.{View, opened, lay_answer, laid, levels_wiped, wiped, standing, finished, cell_at}

abbrev pub grey : ℕ → Grey
grey shade = record { shade = shade }

abbrev pub cover : ℕ → Cover
cover amount = record { amount = amount }

-- a window by its left, top, right and bottom
abbrev pub window : ℕ → ℕ → ℕ → ℕ → Rectangle
window left top right bottom = record { left = left; top = top; right = right; bottom = bottom }

abbrev pub whole_page : Rectangle
whole_page = window 0 0 4 2

-- an object with no offset
abbrev pub object : Object
object = record { objid = 0; nocodestream = false; ovoff = 0; ohoff = 0; off = 0; len = 0; dr = 0 }

-- a row by its LObjID, LHoff, LVoff, LWidth and LHeight
abbrev pub row : ℕ → ℕ → ℕ → ℕ → ℕ → Row
row id across down wide high =
    record {
      layout = record { lobjid = id; lheight = high; lwidth = wide; lvoff = down; lhoff = across };
      objects = Separate object object;
    }

abbrev pub page : Page
page =
    record {
      header = record { pageid = 0; pheight = 2; pwidth = 4; or = 0; pcolor = 0; collection = None };
      resolution = blank_resolution;
      rows = row 0 1 0 2 2 ∷ row 1 2 1 5 1 ∷ [];
    }

-- what memory holds before a canvas is opened on it does not matter: here each cell is grey 7 at level 9
abbrev pub memory : List (Cell Grey)
memory = replicate 8 (record { colour = grey 7; level = 9 })

-- the canvas as it is opened
abbrev pub begun : View Grey
begun = opened page whole_page memory (grey 200)

-- what a lay of object 0 answers, and what it leaves
abbrev pub answer0 : View Grey → Rectangle → Result (ℕ × ℕ) Refusal
answer0 v w = lay_answer v 0 w (uniform 2 2 (cover 128)) (uniform 2 2 (grey 0))

abbrev pub after0 : View Grey → Rectangle → View Grey
after0 v w = laid grey_blended v 0 w (uniform 2 2 (cover 128)) (uniform 2 2 (grey 0))

-- what a lay of object 1 answers, and what it leaves
abbrev pub answer1 : View Grey → Rectangle → Result (ℕ × ℕ) Refusal
answer1 v w = lay_answer v 1 w (uniform 1 1 (cover 255)) (uniform 1 1 (grey 30))

abbrev pub after1 : View Grey → Rectangle → View Grey
after1 v w = laid grey_blended v 1 w (uniform 1 1 (cover 255)) (uniform 1 1 (grey 30))

-- what a lay of object 0 answers while its image has arrived only up to row 1
abbrev pub answer0_early : View Grey → Rectangle → Result (ℕ × ℕ) Refusal
answer0_early v w = lay_answer v 0 w (uniform 2 2 (cover 128)) (arrived 1 (uniform 2 2 (grey 0)))

-- the shades of a canvas, row after row
abbrev pub shades : View Grey → List ℕ
shades v = map (λ cell. cell.colour.shade) v.cells

-- object 0 on the two left columns, then on the others and once more on the second, then object 1 everywhere
abbrev pub left : View Grey
left = after0 begun (window 0 0 2 2)

abbrev pub both : View Grey
both = after0 left (window 1 0 4 2)

abbrev pub done : View Grey
done = after1 both whole_page

-- the worked cases
pub record WorkedCases : Type 0 where
  -- grey 200 under 0 at cover 128 is 100, and 100 under 0 at 128 is 50
  pub grey_once : grey_blended (grey 200) (grey 0) (cover 128) ≡ grey 100
  pub grey_twice : grey_blended (grey 100) (grey 0) (cover 128) ≡ grey 50
  -- paper 0 under 1 is 0 at cover 127 and 1 at 128
  pub paper_below : paper_blended Blank Ink (cover 127) ≡ Blank
  pub paper_above : paper_blended Blank Ink (cover 128) ≡ Ink
  -- the finished rows
  pub rows : shades (after1 (after0 begun whole_page) whole_page) ≡ 200 ∷ 100 ∷ 100 ∷ 200 ∷ 200 ∷ 100 ∷ 30 ∷ 200 ∷ []
  -- lay 0 on (0, 0, 2, 2): 4 raised, 0 passed
  pub first_lay : answer0 begun (window 0 0 2 2) ≡ Ok (4, 0)
  -- then lay 1 on the page: refused at (2, 0), level 0
  pub too_early : answer1 left whole_page ≡ Err (OutOfTurn (record { column = 2; row = 0 }) 0)
  -- instead lay 0 on (1, 0, 4, 2): 4 raised, 2 passed, and column 1 is 100, not 50
  pub overlapping : answer0 left (window 1 0 4 2) ≡ Ok (4, 2)
  pub once_top : cell_at both 1 0 ≡ Some (record { colour = grey 100; level = 1 })
  pub once_bottom : cell_at both 1 1 ≡ Some (record { colour = grey 100; level = 1 })
  -- then lay 1 on the page: 8 raised, 0 passed, and the rows are the finished ones
  pub second_lay : answer1 both whole_page ≡ Ok (8, 0)
  pub same_rows : shades done ≡ 200 ∷ 100 ∷ 100 ∷ 200 ∷ 200 ∷ 100 ∷ 30 ∷ 200 ∷ []
  pub all_finished : finished done ≡ 8
  -- then wipe (2, 0, 3, 2): 4; and 4 + 4 + 8 = 4 + 12
  pub wipe : levels_wiped done (window 2 0 3 2) ≡ Ok 4
  pub stands : standing (wiped done (window 2 0 3 2) (grey 200)) ≡ 12
  pub balance : 4 + 4 + 8 ≡ 4 + standing (wiped done (window 2 0 3 2) (grey 200))
  -- a new canvas with object 0's image under arrival from row 1: lay 0 on the page is refused at (1, 1) for want of the image
  pub image_missing : answer0_early begun whole_page ≡ Err (ImageMissing (record { column = 1; row = 1 }))
  -- and on (3, 0, 4, 2), where the object is not, it raises 2
  pub beside_it : answer0_early begun (window 3 0 4 2) ≡ Ok (2, 0)
