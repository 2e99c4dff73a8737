-- What is left to do in a window from a cell on: where a pass starts, one cell further, from row to row, and at the end.
-- Assumes nothing.
use Rattle.std.proofs.Common.{◌≡◌, ℕ, ◌+◌, ◌<◌, ◌≤◌, cond, ◌≢◌, ◌⊎◌, List, sym, ap, ◌∙◌, inl, inr, zero-add, arith}
use mathlib.Core.Path.{fun_ext}
use Rattle.std.proofs.lemmas.Bool.{cond-true, cond-false, cases_order}
use Rattle.cells.specs.Windows.{column_at, row_at, index_at, inside}
use Rattle.cells.specs.Gathers.{changed_from, gathered_from, change_at, gather_at}
use Rattle.cells.specs.declared.rectangles.Rectangle.{Rectangle}
use Rattle.cells.proofs.Places.{Held, Granted, Next, rest, next, rest-start, rest-before, rest_end, rest-row, inside-index, index_next, column-index, row-index}
use Rattle.cells.proofs.Steps.{changed_one, gathered_one, changed-kept, gathered_none, changed-step, gathered-step, gathered-past}

-- the cells from the `at`-th on that are in the window, changed
unfoldable pub changed_rest : {X : Type 0} → Rectangle → Rectangle → (ℕ → ℕ → X → X) → ℕ → List X → List X
changed_rest area window f at xs = changed_from (change_at area (rest area window at) f) 0 xs

-- what the cells from the `at`-th on that are in the window give
unfoldable pub gathered_rest : {X Y : Type 0} → (Y → Y → Y) → Y → Rectangle → Rectangle → (ℕ → ℕ → X → Y) → ℕ → List X → Y
gathered_rest join none area window f at xs = gathered_from join none (gather_at none area (rest area window at) f) 0 xs

module _ (area window : Rectangle) (ok : Granted area window) where
  module _ {X : Type 0} (f : ℕ → ℕ → X → X) where
    pub changed-first : (xs : List X) →
        changed_rest area window f (index_at area window.left window.top) xs ≡ changed_from (change_at area (inside area window) f) 0 xs
    unfolding changed_rest
    changed-first xs = ap (λ p. changed_from (change_at area p f) 0 xs) (fun_ext (rest-start area window ok))

    pub changed_row : (row : ℕ) → window.top ≤ row → (xs : List X) →
        changed_rest area window f (index_at area window.right row) xs ≡ changed_rest area window f (index_at area window.left (row + 1)) xs
    unfolding changed_rest
    changed_row row top xs = ap (λ p. changed_from (change_at area p f) 0 xs) (fun_ext (rest-row area window ok row top))

    pub changed-last : (xs : List X) → changed_rest area window f (index_at area window.left window.bottom) xs ≡ xs
    unfolding changed_rest change_at
    changed-last xs = changed-kept _ 0 xs (λ j x. cond-false _ _ _ (rest_end area window ok j))

  module _ {X Y : Type 0} (join : Y → Y → Y) (none : Y) (unit : (y : Y) → join none y ≡ y) (f : ℕ → ℕ → X → Y) where
    pub gathered-first : (xs : List X) →
        gathered_rest join none area window f (index_at area window.left window.top) xs ≡ gathered_from join none (gather_at none area (inside area window) f) 0 xs
    unfolding gathered_rest
    gathered-first xs = ap (λ p. gathered_from join none (gather_at none area p f) 0 xs) (fun_ext (rest-start area window ok))

    pub gathered-row : (row : ℕ) → window.top ≤ row → (xs : List X) →
        gathered_rest join none area window f (index_at area window.right row) xs ≡ gathered_rest join none area window f (index_at area window.left (row + 1)) xs
    unfolding gathered_rest
    gathered-row row top xs = ap (λ p. gathered_from join none (gather_at none area p f) 0 xs) (fun_ext (rest-row area window ok row top))

    pub gathered-last : (xs : List X) → gathered_rest join none area window f (index_at area window.left window.bottom) xs ≡ none
    unfolding gathered_rest gather_at
    gathered-last xs = gathered_none join none unit _ 0 xs (λ j x. cond-false _ _ _ (rest_end area window ok j))

    -- what comes from the `i`-th cell on doesn't look at a cell before, which is changed
    pub gathered-before : (at i : ℕ) → at < i → (h : X → X) (xs : List X) →
        gathered_rest join none area window f i (changed_one h at xs) ≡ gathered_rest join none area window f i xs
    unfolding gathered_rest gather_at
    gathered-before at i less h xs = gathered-past join none _ h at (λ x. cond-false _ _ _ (rest-before area window i at less)) 0 at xs (zero-add at)

  -- at a position of the window
  module _ (column row : ℕ) (held : Held window column row) where
    at : ℕ
    at = index_at area column row

    then_next : index_at area (column + 1) row ≡ at + 1
    unfolding at
    then_next = index_next area column row (omega (arith, ok.across.begins, held.left))

    there : Next area window at
    unfolding at
    there = next area window (index_at area column row) (inside-index area window ok column row held)

    column-there : column_at area at ≡ column
    unfolding at
    column-there =
        column-index area column row (omega (arith, ok.across.begins, held.left)) (omega (arith, ok.across.ends, held.right)) (omega (arith, ok.down.begins, held.top))

    row-there : row_at area at ≡ row
    unfolding at
    row-there =
        row-index area column row (omega (arith, ok.across.begins, held.left)) (omega (arith, ok.across.ends, held.right)) (omega (arith, ok.down.begins, held.top))

    -- neither picks a cell before, and both pick the same after
    picks : (j : ℕ) → j ≢ at → (j ≡ at) ⊎ ((j < at) ⊎ (at < j)) → rest area window at j ≡ rest area window (at + 1) j
    picks j ne (inl e) = absurd (ne e)
    picks j ne (inr (inl l)) = there.before j l ∙ sym (there.before-too j l)
    picks j ne (inr (inr l)) = there.after j l

    module _ {X : Type 0} (f : ℕ → ℕ → X → X) where
      pub changed-next : (xs : List X) →
          changed_rest area window f (index_at area column row) xs ≡ changed_rest area window f (index_at area (column + 1) row) (changed_one (f column row) (index_at area column row) xs)
      unfolding changed_rest change_at at
      changed-next xs =
          rw then_next
          (changed-step _ _ (f column row) at
          (λ x. cond-true _ _ _ there.here ∙ ap (λ c. f c (row_at area at) x) column-there ∙ ap (λ r. f column r x) row-there)
          (λ x. cond-false _ _ _ there.gone)
          (λ j x ne. ap (λ b. cond b (f (column_at area j) (row_at area j) x) x) (picks j ne (cases_order j at)))
          0 at xs (zero-add at))

    module _ {X Y : Type 0} (join : Y → Y → Y) (none : Y) (unit : (y : Y) → join none y ≡ y) (f : ℕ → ℕ → X → Y) where
      pub gathered_next : (xs : List X) →
          gathered_rest join none area window f (index_at area column row) xs
          ≡ join (gathered_one none (f column row) (index_at area column row) xs) (gathered_rest join none area window f (index_at area (column + 1) row) xs)
      unfolding gathered_rest gather_at at
      gathered_next xs =
          rw then_next
          (gathered-step join none unit _ _ (f column row) at
          (λ x. cond-true _ _ _ there.here ∙ ap (λ c. f c (row_at area at) x) column-there ∙ ap (λ r. f column r x) row-there)
          (λ x. cond-false _ _ _ there.gone)
          (λ j x l. cond-false _ _ _ (there.before j l))
          (λ j x l. cond-false _ _ _ (there.before-too j l))
          (λ j x l. ap (λ b. cond b (f (column_at area j) (row_at area j) x) none) (there.after j l))
          0 at xs (zero-add at))
