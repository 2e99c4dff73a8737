-- A canvas that is opened.
-- Assumes nothing.
use Rattle.std.proofs.Common.{◌≡◌, ℕ, false, List, Ok, Err, Result, refl, arith}
use Rattle.std.proofs.lemmas.Bool.{cond-false, false_from_ne_true}
use Rattle.cells.specs.Gathers.{changed, change_at}
use Rattle.cells.specs.Passes.{fresh}
use Rattle.cells.specs.Windows.{inside, column_at, row_at}
use Rattle.cells.specs.declared.rectangles.Rectangle.{Rectangle}
use Rattle.cells.specs.declared.refusals.Refusal.{Refusal}
use Rattle.cells.specs.declared.stored.Cell.{Cell}
use Rattle.cells.proofs.Places.{held_from}
use Rattle.cells.proofs.Steps.{changed-kept}
use Rattle.canvas.specs.Views.{no_area, area_by, memory_by}

-- no cell lies in no area
none_inside : (i : ℕ) → inside no_area no_area i ≡ false
unfolding inside
none_inside i = false_from_ne_true _ (λ h. omega (arith, (held_from no_area (column_at no_area i) (row_at no_area i) h).right))

pub nothing_changed : {X : Type 0} (f : ℕ → ℕ → X → X) (xs : List X) → changed no_area no_area f xs ≡ xs
unfolding changed change_at
nothing_changed f xs = changed-kept _ 0 xs (λ j x. cond-false _ _ _ (none_inside j))

pub memory-is : {C : Type 0} (colour : C) (r : Rectangle) (memory : List (Cell C)) (answer : Result ℕ Refusal) →
    changed (area_by r answer) (area_by r answer) (fresh colour) memory ≡ memory_by colour r memory answer
memory-is colour r memory (Ok cells) = refl
memory-is colour r memory (Err refusal) = nothing_changed (fresh colour) memory
