-- What holds of each element of a list with its index, and sums over lists that are changed.
-- Assumes nothing.
use Rattle.std.proofs.Common.{◌≡◌, ℕ, zero, suc, ◌+◌, List, [], ◌∷◌, length, Some, None, Option, refl, ap, subst, arith}
use Rattle.std.specs.List.{slice_get}
use Rattle.cells.specs.Gathers.{changed_from, gathered_from, or_else}

-- something holds of each element, the first of which has index i
abbrev pub Each : {X : Type 0} → (ℕ → X → Type 0) → ℕ → List X → Type 0
Each Q i [] = Unit {0}
Each Q i (x ∷ xs) = Q i x × Each Q (suc i) xs

pub each_all : {X : Type 0} (Q : ℕ → X → Type 0) (i : ℕ) (xs : List X) → ((j : ℕ) (x : X) → Q j x) → Each Q i xs
each_all Q i [] h = tt
each_all Q i (x ∷ xs) h = (h i x, each_all Q (suc i) xs h)

-- of two facts on each element, a third on each changed one
pub each_changed : {X : Type 0} (Q N R : ℕ → X → Type 0) (F : ℕ → X → X) (i : ℕ) (xs : List X) →
    ((j : ℕ) (x : X) → Q j x → N j x → R j (F j x)) → Each Q i xs → Each N i xs → Each R i (changed_from F i xs)
each_changed Q N R F i [] h q n = tt
each_changed Q N R F i (x ∷ xs) h q n = (h i x q.0 n.0, each_changed Q N R F (suc i) xs h q.1 n.1)

-- where none gives anything, each gives nothing
or-none : {Y : Type 0} (o p : Option Y) → or_else o p ≡ None → (o ≡ None) × (p ≡ None)
or-none None p e = (refl, e)
or-none (Some y) p e = absurd cc

pub each_none : {X Y : Type 0} (F : ℕ → X → Option Y) (i : ℕ) (xs : List X) → gathered_from or_else None F i xs ≡ None → Each (λ j x. F j x ≡ None) i xs
each_none F i [] e = tt
each_none F i (x ∷ xs) e = let p = or-none (F i x) (gathered_from or_else None F (suc i) xs) e in (p.0, each_none F (suc i) xs p.1)

-- what holds of each holds of the one at an index
pub each_nth : {X : Type 0} (Q : ℕ → X → Type 0) (i n at : ℕ) (xs : List X) (x : X) → i + n ≡ at → slice_get xs n ≡ Some x → Each Q i xs → Q at x
each_nth Q i n at [] x is e q = absurd cc
each_nth Q i zero at (y ∷ xs) x is e q =
    let same : y ≡ x = cc in
    let index : i ≡ at = omega arith in
    subst (λ z. Q at z) same (subst (λ j. Q j y) index q.0)
each_nth Q i (suc n) at (y ∷ xs) x is e q = each_nth Q (suc i) n at xs x (omega arith) e q.1

-- sums over a changed list
pub sum_changed : {X : Type 0} (G : ℕ → X → ℕ) (F : ℕ → X → X) (i : ℕ) (xs : List X) →
    gathered_from ◌+◌ 0 G i (changed_from F i xs) ≡ gathered_from ◌+◌ 0 (λ j x. G j (F j x)) i xs
sum_changed G F i [] = refl
sum_changed G F i (x ∷ xs) = ap (λ n. G i (F i x) + n) (sum_changed G F (suc i) xs)

-- a sum whose parts are sums of two
pub sum_both : {X : Type 0} (F G H : ℕ → X → ℕ) (i : ℕ) (xs : List X) → ((j : ℕ) (x : X) → F j x ≡ G j x + H j x) →
    gathered_from ◌+◌ 0 F i xs ≡ gathered_from ◌+◌ 0 G i xs + gathered_from ◌+◌ 0 H i xs
sum_both F G H i [] h = refl
sum_both F G H i (x ∷ xs) h = let e = h i x in let r = sum_both F G H (suc i) xs h in omega arith

-- a change keeps the length
pub changed-length : {X : Type 0} (F : ℕ → X → X) (i : ℕ) (xs : List X) → length (changed_from F i xs) ≡ length xs
changed-length F i [] = refl
changed-length F i (x ∷ xs) = ap suc (changed-length F (suc i) xs)
