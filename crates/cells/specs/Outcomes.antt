-- What the calls on a window answer and leave: refused, they leave everything as it was.
-- Assumes nothing.
use Rattle.std.specs.Prelude.{ℕ, cond, List, Some, None, Ok, Err, Option, Result}
use Rattle.raster.specs.declared.covers.Cover.{Cover}
use Rattle.raster.specs.declared.touches.Touch.{Touch}
use Rattle.cells.specs.Gathers.{changed, total, first, or_else}
use Rattle.cells.specs.Passes.{fresh, laid_cell, at_level, above_level, level_of, out_of_turn, missing}
use Rattle.cells.specs.Shows.{show_answer, show_buffer}
use Rattle.cells.specs.Windows.{granted}
use Rattle.cells.specs.declared.rectangles.Rectangle.{Rectangle}
use Rattle.cells.specs.declared.refusals.Refusal.{Refusal}
use Rattle.cells.specs.declared.refusals.Refusal.TheVariants.{Window}
use Rattle.cells.specs.declared.stored.Cell.{Cell}

-- why the object `k` cannot be laid on a window, if anything is in the way: the window's tests come first, then a cell
-- below level `k`, then a touch that is not there yet
unfoldable pub in_the_way : {C : Type 0} → ℕ → (ℕ → ℕ → Touch C) → Rectangle → Rectangle → List (Cell C) → Option Refusal
in_the_way k touch area window cells =
    cond (granted area window) (or_else (first area window (out_of_turn k) cells) (first area window (missing k touch) cells)) (Some Window)

-- how many cells are raised and how many are passed over, if nothing is in the way
abbrev pub lay_counts : {C : Type 0} → ℕ → Rectangle → Rectangle → List (Cell C) → Option Refusal → Result (ℕ × ℕ) Refusal
lay_counts k area window cells (Some refusal) = Err refusal
lay_counts k area window cells None = Ok (total area window (at_level k) cells, total area window (above_level k) cells)

-- the cells with the object laid on them, if nothing is in the way
abbrev pub laid_cells : {C : Type 0} → (C → C → Cover → C) → ℕ → (ℕ → ℕ → Touch C) → Rectangle → Rectangle → List (Cell C) → Option Refusal → List (Cell C)
laid_cells blended k touch area window cells (Some refusal) = cells
laid_cells blended k touch area window cells None = changed area window (laid_cell blended k touch) cells

-- the sum of the former levels of a window that is wiped
abbrev pub wipe_answer : {C : Type 0} → Rectangle → Rectangle → List (Cell C) → Result ℕ Refusal
wipe_answer area window cells = cond (granted area window) (Ok (total area window level_of cells)) (Err Window)

-- the cells after a window is wiped
abbrev pub wiped_cells : {C : Type 0} → C → Rectangle → Rectangle → List (Cell C) → List (Cell C)
wiped_cells colour area window cells = cond (granted area window) (changed area window (fresh colour) cells) cells

-- how many cells of a window that is shown are finished
abbrev pub shown_answer : {C : Type 0} → ℕ → ℕ → Rectangle → Rectangle → List (Cell C) → List ℕ → Result ℕ Refusal
shown_answer size full area window cells buffer = cond (granted area window) (show_answer size full area window cells buffer) (Err Window)

-- the buffer after a window is shown
abbrev pub shown_buffer : {C : Type 0} → (C → List ℕ) → ℕ → Rectangle → Rectangle → List (Cell C) → List ℕ → List ℕ
shown_buffer shown size area window cells buffer = cond (granted area window) (show_buffer shown size area window cells buffer) buffer
