-- Lists whose elements are changed, or gathered from, by functions of an element and its index; then the same over the
-- cells of an area that lie in a window, by functions of an element and its position.
-- Assumes nothing.
use Rattle.std.specs.Prelude.{ℕ, suc, ◌+◌, Bool, cond, List, [], ◌∷◌, ◌++◌, Some, None, Option}
use Rattle.cells.specs.Windows.{column_at, row_at, inside}
use Rattle.cells.specs.declared.rectangles.Rectangle.{Rectangle}

-- each element changed, the first of which has index i
abbrev pub changed_from : {X : Type 0} → (ℕ → X → X) → ℕ → List X → List X
changed_from f i [] = []
changed_from f i (x ∷ xs) = f i x ∷ changed_from f (suc i) xs

-- what each element gives, put together in their order
abbrev pub gathered_from : {X Y : Type 0} → (Y → Y → Y) → Y → (ℕ → X → Y) → ℕ → List X → Y
gathered_from join none f i [] = none
gathered_from join none f i (x ∷ xs) = join (f i x) (gathered_from join none f (suc i) xs)

-- the first of two that is there
abbrev pub or_else : {Y : Type 0} → Option Y → Option Y → Option Y
or_else None other = other
or_else (Some y) other = Some y

-- the i-th element of an area, changed if it is picked
unfoldable pub change_at : {X : Type 0} → Rectangle → (ℕ → Bool) → (ℕ → ℕ → X → X) → ℕ → X → X
change_at area picked f i x = cond (picked i) (f (column_at area i) (row_at area i) x) x

-- what the i-th element of an area gives, if it is picked
unfoldable pub gather_at : {X Y : Type 0} → Y → Rectangle → (ℕ → Bool) → (ℕ → ℕ → X → Y) → ℕ → X → Y
gather_at none area picked f i x = cond (picked i) (f (column_at area i) (row_at area i) x) none

-- the cells of an area, those in a window changed
unfoldable pub changed : {X : Type 0} → Rectangle → Rectangle → (ℕ → ℕ → X → X) → List X → List X
changed area window f xs = changed_from (change_at area (inside area window) f) 0 xs

-- the sum over the cells in a window
unfoldable pub total : {X : Type 0} → Rectangle → Rectangle → (ℕ → ℕ → X → ℕ) → List X → ℕ
total area window f xs = gathered_from ◌+◌ 0 (gather_at 0 area (inside area window) f) 0 xs

-- the first of the cells in a window, top row first and left to right, that gives something
unfoldable pub first : {X Y : Type 0} → Rectangle → Rectangle → (ℕ → ℕ → X → Option Y) → List X → Option Y
first area window f xs = gathered_from or_else None (gather_at None area (inside area window) f) 0 xs

-- what the cells in a window give, one after another
unfoldable pub listed : {X Y : Type 0} → Rectangle → Rectangle → (ℕ → ℕ → X → List Y) → List X → List Y
listed area window f xs = gathered_from ◌++◌ [] (gather_at [] area (inside area window) f) 0 xs
