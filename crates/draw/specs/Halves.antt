-- A canvas drawn by two windows that meet.
-- Assumes nothing.
use Rattle.std.specs.Prelude.{ℕ, List}
use Rattle.plan.specs.Page.{Page}
use Rattle.raster.specs.Meanings.{Meaning}
use Rattle.raster.specs.declared.covers.Cover.{Cover}
use Rattle.cells.specs.declared.rectangles.Rectangle.{Rectangle}
use Rattle.cells.specs.declared.stored.Cell.{Cell}
use Rattle.canvas.specs.Views.{View, opened, laid}

-- what lies left of a column
abbrev pub left_of : Rectangle → ℕ → Rectangle
left_of area middle = record { left = area.left; top = area.top; right = middle; bottom = area.bottom }

-- what lies right of it
abbrev pub right_of : Rectangle → ℕ → Rectangle
right_of area middle = record { left = middle; top = area.top; right = area.right; bottom = area.bottom }

-- object 0 laid on the left half and then on the right
abbrev pub halves : {C : Type 0} → (C → C → Cover → C) → Page → Rectangle → ℕ → List (Cell C) → C → Meaning Cover → Meaning C → View C
halves blended page area middle memory colour mask image =
    laid blended (laid blended (opened page area memory colour) 0 (left_of area middle) mask image) 0 (right_of area middle) mask image
