-- Runs: how a canvas comes about, and what holds of every one.
-- Assumes nothing.
use Rattle.std.specs.Prelude.{◌≡◌, ℕ, ◌+◌, true, List, length, is_some, Some, Ok, Err, Result}
use Rattle.raster.specs.Meanings.{Meaning}
use Rattle.raster.specs.declared.covers.Cover.{Cover}
use Rattle.cells.specs.Windows.{holds}
use Rattle.cells.specs.declared.rectangles.Rectangle.{Rectangle}
use Rattle.cells.specs.declared.refusals.Refusal.{Refusal}
use Rattle.cells.specs.declared.stored.Cell.{Cell}
use Rattle.canvas.specs.Sheets.{Sheet, Handed, colour_to, visible, Agree}
use Rattle.canvas.specs.Views.{View, opened, lay_answer, laid, levels_wiped, wiped, shown_from, standing, cell_at}

-- how many cells a lay reported raised: a refused one counts 0
abbrev pub raised_by : Result (ℕ × ℕ) Refusal → ℕ
raised_by (Ok counts) = counts.0
raised_by (Err refusal) = 0

-- the levels that a wipe reported: a refused one counts 0
abbrev pub wiped_by : Result ℕ Refusal → ℕ
wiped_by (Ok levels) = levels
wiped_by (Err refusal) = 0

-- the canvases that come about on a sheet, each with the total that its lays reported raised and the total that its
-- wipes reported: opened on the sheet's page with its page colour, on any rectangle and any memory, and then laid on,
-- wiped and shown any number of times, in any order, granted or refused, with sources that belong to the sheet
pub data Run {C : Type 0} (blended : C → C → Cover → C) (sheet : Sheet C) : View C → ℕ → ℕ → Type 0 where
  opening : (area : Rectangle) (memory : List (Cell C)) → Run blended sheet (opened sheet.page area memory sheet.colour) 0 0
  laying : {v : View C} {up down : ℕ} (k : ℕ) (window : Rectangle) (mask : Meaning Cover) (image : Meaning C) → Handed sheet k mask image →
      Run blended sheet v up down → Run blended sheet (laid blended v k window mask image) (up + raised_by (lay_answer v k window mask image)) down
  wiping : {v : View C} {up down : ℕ} (window : Rectangle) →
      Run blended sheet v up down → Run blended sheet (wiped v window sheet.colour) up (down + wiped_by (levels_wiped v window))
  showing : {v : View C} {up down : ℕ} → Run blended sheet v up down → Run blended sheet (shown_from v) up down

-- a cell of a canvas at a position
abbrev pub Stands : {C : Type 0} → View C → ℕ → ℕ → Cell C → Type 0
Stands v column row cell = cell_at v column row ≡ Some cell

-- two finished cells, each at a position of its own sheet, have equal colours if the sheets agree there from a full
-- cover upward
abbrev pub Alike : {C : Type 0} → Sheet C → View C → Sheet C → View C → Type 0
Alike {C} one v other w =
    (column row : ℕ) (cell : Cell C) → Stands v column row cell → cell.level ≡ length v.page.rows →
    (column' row' : ℕ) (cell' : Cell C) → Stands w column' row' cell' → cell'.level ≡ length w.page.rows →
    Agree (visible one column row) (visible other column' row') → cell.colour ≡ cell'.colour

-- what holds of a canvas that came about on a sheet, with its two totals
pub record Faithful {C : Type 0} (blended : C → C → Cover → C) (sheet : Sheet C) (v : View C) (up down : ℕ) : Type 0 where
  -- every position of the canvas has a cell
  pub whole : (column row : ℕ) → holds v.area column row ≡ true → is_some (cell_at v column row) ≡ true
  -- every cell at level L holds the colour to level L of the sheet at its position
  pub colours : (column row : ℕ) (cell : Cell C) → Stands v column row cell → cell.colour ≡ colour_to blended sheet cell.level column row
  -- what was reported raised is what was reported wiped and what stands now
  pub balanced : up ≡ down + standing v
  -- finished cells of any other canvas that came about likewise are alike
  pub alike : (other : Sheet C) (w : View C) (up' down' : ℕ) → Run blended other w up' down' → Alike sheet v other w

-- the promise over whole runs
abbrev pub Promise : {C : Type 0} → (C → C → Cover → C) → Type 0
Promise {C} blended = (sheet : Sheet C) (v : View C) (up down : ℕ) → Run blended sheet v up down → Faithful blended sheet v up down
