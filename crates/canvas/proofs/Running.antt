-- What every run keeps.
-- Assumes nothing.
use Rattle.std.proofs.Common.{◌≡◌, ℕ, ◌+◌, Bool, true, false, cond, eqb, List, Some, None, sym, refl, ap, ◌∙◌, ap₂, zero-add, arith}
use Rattle.std.specs.List.{slice_get}
use Rattle.std.proofs.lemmas.Bool.{eqb-true, true≢false}
use Rattle.plan.specs.declared.layout.Row.{Row}
use Rattle.raster.specs.Meanings.{Meaning}
use Rattle.raster.specs.Touches.{touch_at}
use Rattle.raster.specs.declared.covers.Cover.{Cover}
use Rattle.raster.specs.declared.touches.Touch.{Touch}
use Rattle.cells.specs.Gathers.{gathered_from, change_at, gather_at, changed, total, first}
use Rattle.cells.specs.Passes.{laid_over, fresh, laid_cell, at_level, level_of, missing, missing_touch}
use Rattle.cells.specs.Windows.{column_at, row_at, inside, granted}
use Rattle.cells.specs.declared.rectangles.Rectangle.{Rectangle}
use Rattle.cells.specs.declared.stored.Cell.{Cell}
use Rattle.cells.proofs.Places.{Held, held_from, held_test, granted-from}
use Rattle.cells.proofs.Steps.{gathered_none}
use Rattle.canvas.proofs.Each.{Each, each_all, each_changed, each_none, sum_changed, sum_both}
use Rattle.canvas.proofs.Stacking.{colour-next}
use Rattle.canvas.proofs.Touching.{same-touch}
use Rattle.canvas.specs.Placements.{placement_of}
use Rattle.canvas.specs.Sheets.{Sheet, Belongs, colour_to}

-- a cell holds the sheet's colour to its level, if it lies in the area
abbrev pub Sound : {C : Type 0} → (C → C → Cover → C) → Sheet C → Rectangle → ℕ → Cell C → Type 0
Sound blended sheet area i cell =
    inside area area i ≡ true → cell.colour ≡ colour_to blended sheet cell.level (column_at area i) (row_at area i)

-- a window's cell is the area's
pub in_area : (area window : Rectangle) → granted area window ≡ true → (i : ℕ) → inside area window i ≡ true → inside area area i ≡ true
unfolding inside
in_area area window grant i h =
    let g = granted-from area window grant in
    let w = held_from window (column_at area i) (row_at area i) h in
    let held : Held area (column_at area i) (row_at area i)
    = record {
      left = omega (arith, w.left, g.across.begins);
      right = omega (arith, w.right, g.across.ends);
      top = omega (arith, w.top, g.down.begins);
      bottom = omega (arith, w.bottom, g.down.ends);
    } in
    held_test area (column_at area i) (row_at area i) held

-- a cell that is raised holds the colour to the next level
module _ {C : Type 0} (blended : C → C → Cover → C) (sheet : Sheet C) (area window : Rectangle) (k : ℕ) (r : Row) (there : slice_get sheet.page.rows k ≡ Some r)
    (mask : Meaning Cover) (image : Meaning C) (masks : Belongs mask (sheet.mask k)) (images : Belongs image (sheet.image k)) where
  abbrev touch : ℕ → ℕ → Touch C
  touch = touch_at (placement_of r) mask image

  raised-sound : (i : ℕ) (cell : Cell C) (b : Bool) → eqb cell.level k ≡ b → Sound blended sheet area i cell →
      cond b (missing_touch (column_at area i) (row_at area i) (touch (column_at area i) (row_at area i))) None ≡ None →
      Sound blended sheet area i
      (cond b (record { colour = laid_over blended cell.colour (touch (column_at area i) (row_at area i)); level = k + 1 }) cell)
  raised-sound i cell true is sound has within =
      let same = same-touch (column_at area i) (row_at area i) (placement_of r) mask (sheet.mask k) image (sheet.image k) masks images has in
      let level = eqb-true cell.level k is in
      ap₂ (laid_over blended) (sound within ∙ ap (λ n. colour_to blended sheet n (column_at area i) (row_at area i)) level) same
      ∙ sym (colour-next blended sheet k r (column_at area i) (row_at area i) there)
  raised-sound i cell false is sound has within = sound within

  laid-sound : (i : ℕ) (cell : Cell C) (b : Bool) → Sound blended sheet area i cell →
      cond b (missing k touch (column_at area i) (row_at area i) cell) None ≡ None →
      Sound blended sheet area i (cond b (laid_cell blended k touch (column_at area i) (row_at area i) cell) cell)
  laid-sound i cell true sound has = raised-sound i cell (eqb cell.level k) refl sound has
  laid-sound i cell false sound has = sound

  pub each_laid : (cells : List (Cell C)) → first area window (missing k touch) cells ≡ None → Each (Sound blended sheet area) 0 cells →
      Each (Sound blended sheet area) 0 (changed area window (laid_cell blended k touch) cells)
  unfolding first changed change_at gather_at
  each_laid cells none each =
      each_changed (Sound blended sheet area) _ (Sound blended sheet area) _ 0 cells
      (λ j x sound has. laid-sound j x (inside area window j) sound has) each
      (each_none _ 0 cells none)

-- a cell that is wiped holds the page colour
module _ {C : Type 0} (blended : C → C → Cover → C) (sheet : Sheet C) (area window : Rectangle) where
  wiped-sound : (i : ℕ) (cell : Cell C) (b : Bool) → Sound blended sheet area i cell →
      Sound blended sheet area i (cond b (fresh sheet.colour (column_at area i) (row_at area i) cell) cell)
  wiped-sound i cell true sound = λ within. refl
  wiped-sound i cell false sound = sound

  pub each-wiped : (cells : List (Cell C)) → Each (Sound blended sheet area) 0 cells →
      Each (Sound blended sheet area) 0 (changed area window (fresh sheet.colour) cells)
  unfolding changed change_at
  each-wiped cells each =
      each_changed (Sound blended sheet area) (λ j x. Unit {0}) (Sound blended sheet area) _ 0 cells
      (λ j x sound u. wiped-sound j x (inside area window j) sound) each (each_all _ 0 cells (λ j x. tt))

  -- all cells of the area are wiped, whatever they were
  fresh-sound : (i : ℕ) (cell : Cell C) (b : Bool) → inside area area i ≡ b →
      Sound blended sheet area i (cond b (fresh sheet.colour (column_at area i) (row_at area i) cell) cell)
  fresh-sound i cell true is = λ within. refl
  fresh-sound i cell false is = λ within. absurd (true≢false (sym within ∙ is))

  pub each-fresh : (cells : List (Cell C)) → Each (Sound blended sheet area) 0 (changed area area (fresh sheet.colour) cells)
  unfolding changed change_at
  each-fresh cells =
      each_changed (λ j x. Unit {0}) (λ j x. Unit {0}) (Sound blended sheet area) _ 0 cells
      (λ j x u v. fresh-sound j x (inside area area j) refl) (each_all _ 0 cells (λ j x. tt)) (each_all _ 0 cells (λ j x. tt))

-- the levels that stand after a lay are those before it and the cells that it raised
module _ {C : Type 0} (area window : Rectangle) (grant : granted area window ≡ true) where
  raised-level : (blended : C → C → Cover → C) (k : ℕ) (touch : ℕ → ℕ → Touch C) (column row : ℕ) (cell : Cell C) (b : Bool) → eqb cell.level k ≡ b →
      level_of column row (cond b (record { colour = laid_over blended cell.colour (touch column row); level = k + 1 }) cell)
      ≡ level_of column row cell + cond b 1 0
  raised-level blended k touch column row cell true is = ap (λ n. n + 1) (sym (eqb-true cell.level k is))
  raised-level blended k touch column row cell false is = omega arith

  laid-level : (blended : C → C → Cover → C) (k : ℕ) (touch : ℕ → ℕ → Touch C) (i : ℕ) (cell : Cell C) (b : Bool) → inside area window i ≡ b →
      (a : Bool) → inside area area i ≡ a →
      cond a (level_of (column_at area i) (row_at area i) (cond b (laid_cell blended k touch (column_at area i) (row_at area i) cell) cell)) 0
      ≡ cond a (level_of (column_at area i) (row_at area i) cell) 0 + cond b (at_level k (column_at area i) (row_at area i) cell) 0
  laid-level blended k touch i cell true is true all = raised-level blended k touch (column_at area i) (row_at area i) cell (eqb cell.level k) refl
  laid-level blended k touch i cell true is false all = absurd (true≢false (sym (in_area area window grant i is) ∙ all))
  laid-level blended k touch i cell false is true all = omega arith
  laid-level blended k touch i cell false is false all = refl

  pub standing-laid : (blended : C → C → Cover → C) (k : ℕ) (touch : ℕ → ℕ → Touch C) (cells : List (Cell C)) →
      total area area level_of (changed area window (laid_cell blended k touch) cells) ≡ total area area level_of cells + total area window (at_level k) cells
  unfolding total changed change_at gather_at
  standing-laid blended k touch cells =
      sum_changed _ _ 0 cells ∙ sum_both _ _ _ 0 cells (λ j x. laid-level blended k touch j x (inside area window j) refl (inside area area j) refl)

  wiped-level : (colour : C) (i : ℕ) (cell : Cell C) (b : Bool) → inside area window i ≡ b → (a : Bool) → inside area area i ≡ a →
      cond a (level_of (column_at area i) (row_at area i) cell) 0
      ≡ cond a (level_of (column_at area i) (row_at area i) (cond b (fresh colour (column_at area i) (row_at area i) cell) cell)) 0
      + cond b (level_of (column_at area i) (row_at area i) cell) 0
  wiped-level colour i cell true is true all = omega arith
  wiped-level colour i cell true is false all = absurd (true≢false (sym (in_area area window grant i is) ∙ all))
  wiped-level colour i cell false is true all = omega arith
  wiped-level colour i cell false is false all = refl

  pub standing-wiped : (colour : C) (cells : List (Cell C)) →
      total area area level_of cells ≡ total area area level_of (changed area window (fresh colour) cells) + total area window level_of cells
  unfolding total changed change_at gather_at
  standing-wiped colour cells =
      sum_both _ (λ j x. gather_at 0 area (inside area area) level_of j (change_at area (inside area window) (fresh colour) j x)) _ 0 cells
      (λ j x. wiped-level colour j x (inside area window j) refl (inside area area j) refl)
      ∙ ap (λ n. n + gathered_from ◌+◌ 0 (gather_at 0 area (inside area window) level_of) 0 cells) (sym (sum_changed _ _ 0 cells))

-- fresh cells have no levels
pub standing-fresh : {C : Type 0} (area : Rectangle) (colour : C) (cells : List (Cell C)) → total area area level_of (changed area area (fresh colour) cells) ≡ 0
unfolding total changed change_at gather_at
standing-fresh area colour cells =
    sum_changed _ _ 0 cells ∙ gathered_none ◌+◌ 0 zero-add _ 0 cells (λ j x. none (inside area area j) (fresh colour (column_at area j) (row_at area j) x) x refl)
  where
    none : {C : Type 0} (b : Bool) (y x : Cell C) → y.level ≡ 0 → cond b (cond b y x).level 0 ≡ 0
    none true y x e = e
    none false y x e = refl
