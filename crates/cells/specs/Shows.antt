-- What a window shows.
-- Assumes nothing.
use Rattle.std.specs.Prelude.{ℕ, ◌*◌, Bool, cond, List, length, Ok, Err, Result, nat_le}
use Rattle.std.specs.List.{flat_map}
use Rattle.raster.specs.Shown.{put}
use Rattle.cells.specs.Gathers.{total, listed}
use Rattle.cells.specs.Passes.{at_level, shown_cell}
use Rattle.cells.specs.Windows.{wide, high}
use Rattle.cells.specs.declared.rectangles.Rectangle.{Rectangle}
use Rattle.cells.specs.declared.refusals.Refusal.{Refusal}
use Rattle.cells.specs.declared.refusals.Refusal.TheVariants.{Buffer}
use Rattle.cells.specs.declared.stored.Cell.{Cell}

-- whether a buffer is long enough for a window's colours, of which each shows as `size` bytes
abbrev pub long_enough : Rectangle → ℕ → List ℕ → Bool
long_enough window size buffer = nat_le (wide window * high window * size) (length buffer)

-- the colours of the cells in a window, row after row
unfoldable pub shown_window : {C : Type 0} → (C → List ℕ) → Rectangle → Rectangle → List (Cell C) → List ℕ
shown_window shown area window cells = listed area window (shown_cell shown) cells

-- how many cells of the window are finished, at the level `full`
abbrev pub show_answer : {C : Type 0} → ℕ → ℕ → Rectangle → Rectangle → List (Cell C) → List ℕ → Result ℕ Refusal
show_answer size full area window cells buffer = cond (long_enough window size buffer) (Ok (total area window (at_level full) cells)) (Err Buffer)

-- the buffer with the window's colours at its beginning
abbrev pub show_buffer : {C : Type 0} → (C → List ℕ) → ℕ → Rectangle → Rectangle → List (Cell C) → List ℕ → List ℕ
show_buffer shown size area window cells buffer = cond (long_enough window size buffer) (put buffer 0 (shown_window shown area window cells)) buffer

-- the colours of cells, one after another
abbrev pub shown_cells : {C : Type 0} → (C → List ℕ) → List (Cell C) → List ℕ
shown_cells shown cells = flat_map (λ cell. shown cell.colour) cells
