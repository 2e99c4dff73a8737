-- Lists changed and gathered from by functions of the index: one index further.
-- Assumes nothing.
use Rattle.std.proofs.Common.{◌≡◌, ℕ, zero, suc, ◌+◌, ◌<◌, ◌≤◌, ◌≢◌, List, [], ◌∷◌, Some, None, Option, take, drop, sym, refl, ap, ◌∙◌, ap₂, arith}
use Rattle.std.specs.List.{slice_get}
use lib.Seq.{take-nil}
use Rattle.cells.specs.Gathers.{changed_from, gathered_from}

-- the element at one index changed, where there is one
abbrev pub changed_one : {X : Type 0} → (X → X) → ℕ → List X → List X
changed_one f n [] = []
changed_one f zero (x ∷ xs) = f x ∷ xs
changed_one f (suc n) (x ∷ xs) = x ∷ changed_one f n xs

-- what an element gives that may not be there
abbrev pub given : {X Y : Type 0} → Y → (X → Y) → Option X → Y
given none f None = none
given none f (Some x) = f x

-- what the element at one index gives, where there is one
abbrev pub gathered_one : {X Y : Type 0} → Y → (X → Y) → ℕ → List X → Y
gathered_one none f n xs = given none f (slice_get xs n)

-- functions that agree from an index on
pub changed-same : {X : Type 0} (F G : ℕ → X → X) (i : ℕ) (xs : List X) → ((j : ℕ) (x : X) → i ≤ j → F j x ≡ G j x) → changed_from F i xs ≡ changed_from G i xs
changed-same F G i [] same = refl
changed-same F G i (x ∷ xs) same = ap₂ ◌∷◌ (same i x (omega arith)) (changed-same F G (suc i) xs (λ j y h. same j y (omega arith)))

pub gathered-same : {X Y : Type 0} (join : Y → Y → Y) (none : Y) (F G : ℕ → X → Y) (i : ℕ) (xs : List X) → ((j : ℕ) (x : X) → i ≤ j → F j x ≡ G j x) →
    gathered_from join none F i xs ≡ gathered_from join none G i xs
gathered-same join none F G i [] same = refl
gathered-same join none F G i (x ∷ xs) same =
    ap₂ join (same i x (omega arith)) (gathered-same join none F G (suc i) xs (λ j y h. same j y (omega arith)))

-- a function that keeps every element
pub changed-kept : {X : Type 0} (F : ℕ → X → X) (i : ℕ) (xs : List X) → ((j : ℕ) (x : X) → F j x ≡ x) → changed_from F i xs ≡ xs
changed-kept F i [] kept = refl
changed-kept F i (x ∷ xs) kept = ap₂ ◌∷◌ (kept i x) (changed-kept F (suc i) xs kept)

-- a function that gives nothing
pub gathered_none : {X Y : Type 0} (join : Y → Y → Y) (none : Y) (unit : (y : Y) → join none y ≡ y) (F : ℕ → X → Y) (i : ℕ) (xs : List X) →
    ((j : ℕ) (x : X) → F j x ≡ none) → gathered_from join none F i xs ≡ none
gathered_none join none unit F i [] gives = refl
gathered_none join none unit F i (x ∷ xs) gives = ap₂ join (gives i x) (gathered_none join none unit F (suc i) xs gives) ∙ unit none

-- `F` changes one element more than `G`, the one at `at`
module _ {X : Type 0} (F G : ℕ → X → X) (f : X → X) (at : ℕ)
    (here : (x : X) → F at x ≡ f x)
    (gone : (x : X) → G at x ≡ x)
    (other : (j : ℕ) (x : X) → j ≢ at → F j x ≡ G j x) where
  pub changed-step : (i n : ℕ) (xs : List X) → i + n ≡ at → changed_from F i xs ≡ changed_from G i (changed_one f n xs)
  changed-step i n [] is = refl
  changed-step i zero (x ∷ xs) is =
      let e : i ≡ at = omega arith in
      ap₂ ◌∷◌ (ap (λ j. F j x) e ∙ here x ∙ sym (gone (f x)) ∙ ap (λ j. G j (f x)) (sym e))
      (changed-same F G (suc i) xs (λ j y h. other j y (omega arith)))
  changed-step i (suc n) (x ∷ xs) is = ap₂ ◌∷◌ (other i x (omega arith)) (changed-step (suc i) n xs (omega arith))

-- `F` gathers one element more than `G`, the one at `at`, and neither any before it
module _ {X Y : Type 0} (join : Y → Y → Y) (none : Y) (unit : (y : Y) → join none y ≡ y) (F G : ℕ → X → Y) (f : X → Y) (at : ℕ)
    (here : (x : X) → F at x ≡ f x)
    (gone : (x : X) → G at x ≡ none)
    (before : (j : ℕ) (x : X) → j < at → F j x ≡ none)
    (before-too : (j : ℕ) (x : X) → j < at → G j x ≡ none)
    (after : (j : ℕ) (x : X) → at < j → F j x ≡ G j x) where
  pub gathered-step : (i n : ℕ) (xs : List X) → i + n ≡ at →
      gathered_from join none F i xs ≡ join (gathered_one none f n xs) (gathered_from join none G i xs)
  gathered-step i n [] is = sym (unit none)
  gathered-step i zero (x ∷ xs) is =
      let e : i ≡ at = omega arith in
      ap₂ join (ap (λ j. F j x) e ∙ here x)
      (gathered-same join none F G (suc i) xs (λ j y h. after j y (omega arith))
      ∙ sym (ap (λ y. join y (gathered_from join none G (suc i) xs)) (ap (λ j. G j x) e ∙ gone x) ∙ unit (gathered_from join none G (suc i) xs)))
  gathered-step i (suc n) (x ∷ xs) is =
      ap (λ y. join y (gathered_from join none F (suc i) xs)) (before i x (omega arith))
      ∙ unit (gathered_from join none F (suc i) xs)
      ∙ gathered-step (suc i) n xs (omega arith)
      ∙ ap (join (gathered_one none f n xs))
      (sym (ap (λ y. join y (gathered_from join none G (suc i) xs)) (before-too i x (omega arith)) ∙ unit (gathered_from join none G (suc i) xs)))

-- a change of an element that gives nothing
pub gathered-past : {X Y : Type 0} (join : Y → Y → Y) (none : Y) (G : ℕ → X → Y) (f : X → X) (at : ℕ) → ((x : X) → G at x ≡ none) →
    (i n : ℕ) (xs : List X) → i + n ≡ at → gathered_from join none G i (changed_one f n xs) ≡ gathered_from join none G i xs
gathered-past join none G f at gone i n [] is = refl
gathered-past join none G f at gone i zero (x ∷ xs) is =
    let e : i ≡ at = omega arith in
    ap (λ y. join y (gathered_from join none G (suc i) xs)) (ap (λ j. G j (f x)) e ∙ gone (f x) ∙ sym (gone x) ∙ ap (λ j. G j x) (sym e))
gathered-past join none G f at gone i (suc n) (x ∷ xs) is = ap (join (G i x)) (gathered-past join none G f at gone (suc i) n xs (omega arith))

-- the first of the elements from the `at`-th on, and those after it
pub gathered-take : {X Y : Type 0} (join : Y → Y → Y) (none : Y) (unit : (y : Y) → join none y ≡ y) (F : ℕ → X → Y) (c n at : ℕ) (xs : List X) →
    gathered_from join none F c (take (suc n) (drop at xs)) ≡ join (gathered_one none (F c) at xs) (gathered_from join none F (suc c) (take n (drop (suc at) xs)))
gathered-take join none unit F c n zero [] = sym (unit _ ∙ ap (gathered_from join none F (suc c)) (take-nil n))
gathered-take join none unit F c n (suc at) [] = sym (unit _ ∙ ap (gathered_from join none F (suc c)) (take-nil n))
gathered-take join none unit F c n zero (x ∷ xs) = refl
gathered-take join none unit F c n (suc at) (x ∷ xs) = gathered-take join none unit F c n at xs
