-- A window without columns: it has no cell, however many rows it has.
-- Assumes nothing.
use Rattle.std.proofs.Common.{◌≡◌, ℕ, ◌+◌, ◌*◌, ◌≤◌, Bool, true, false, List, [], ◌++◌, None, Option, sym, refl, ap, ◌∙◌, zero-add, zero-mul, arith, nat_le}
use Rattle.std.proofs.lemmas.Bool.{cond-false, leb-true, le-leb, false_from_ne_true}
use Rattle.cells.specs.Gathers.{change_at, gather_at, changed, total, first, listed, or_else}
use Rattle.cells.specs.Passes.{shown_cell}
use Rattle.cells.specs.Shows.{long_enough, shown_window}
use Rattle.cells.specs.Windows.{wide, high, inside}
use Rattle.cells.specs.declared.rectangles.Rectangle.{Rectangle}
use Rattle.cells.specs.declared.stored.Cell.{Cell}
use Rattle.cells.proofs.Places.{held_from}
use Rattle.cells.proofs.Steps.{changed-kept, gathered_none}

-- a pane's window is the caller's, and the test of it said that there is no column
pub columns_none : (w window : Rectangle) (test : Bool) → w ≡ window → test ≡ nat_le w.right w.left → test ≡ true → nat_le window.right window.left ≡ true
columns_none w window test same is passed = ap (λ r. nat_le r.right r.left) (sym same) ∙ sym is ∙ passed

module _ (area window : Rectangle) (none : nat_le window.right window.left ≡ true) where
  outside : (i : ℕ) → inside area window i ≡ false
  unfolding inside
  outside i =
      false_from_ne_true _
      (λ h.
      let held = held_from window _ _ h in
      omega (arith, leb-true window.right window.left none, held.left, held.right))

  pub no_total : {X : Type 0} (f : ℕ → ℕ → X → ℕ) (xs : List X) → 0 ≡ total area window f xs
  unfolding total gather_at
  no_total f xs = sym (gathered_none ◌+◌ 0 zero-add _ 0 xs (λ i x. cond-false _ _ _ (outside i)))

  pub no_change : {X : Type 0} (f : ℕ → ℕ → X → X) (xs : List X) → xs ≡ changed area window f xs
  unfolding changed change_at
  no_change f xs = sym (changed-kept _ 0 xs (λ i x. cond-false _ _ _ (outside i)))

  pub no_first : {X Y : Type 0} (f : ℕ → ℕ → X → Option Y) (xs : List X) → None ≡ first area window f xs
  unfolding first gather_at
  no_first f xs = sym (gathered_none or_else None (λ y. refl) _ 0 xs (λ i x. cond-false _ _ _ (outside i)))

  nothing_listed : {X Y : Type 0} (f : ℕ → ℕ → X → List Y) (xs : List X) → listed area window f xs ≡ []
  unfolding listed gather_at
  nothing_listed f xs = gathered_none ◌++◌ [] (λ y. refl) _ 0 xs (λ i x. cond-false _ _ _ (outside i))

  pub nothing_shown : {C : Type 0} (shown : C → List ℕ) (xs : List (Cell C)) → shown_window shown area window xs ≡ []
  unfolding shown_window
  nothing_shown shown xs = nothing_listed (shown_cell shown) xs

  -- any buffer is long enough for it
  pub long : (size : ℕ) (buffer : List ℕ) → long_enough window size buffer ≡ true
  long size buffer =
      let narrow : wide window ≡ 0 = omega (arith, leb-true window.right window.left none) in
      let nothing : wide window * high window * size ≡ 0 = ap (λ n. n * high window * size) narrow ∙ ap (λ n. n * size) (zero-mul (high window)) ∙ zero-mul size in
      le-leb _ _ (omega arith)
