-- The cells of one row, some elements of a list in their order: changed and gathered from by functions of the column.
-- Assumes nothing.
use Rattle.std.proofs.Common.{◌≡◌, ℕ, zero, suc, ◌+◌, ◌-◌, ◌<◌, ◌≤◌, min, ◌⊎◌, List, [], ◌∷◌, ◌++◌, length, get_or, set, take, drop, map, sym, refl, ap, ◌∙◌, ap₂, inl, inr, add-zero, zero-add, suc-add, arith, length-drop}
use Rattle.std.proofs.Math.Numerals.{suc-eq-add-one}
use lib.Seq.{take-nil, drop-nil, take-length, drop-length}
use borrow.Rule.Slice.PartMut.{put_mid}
use Rattle.std.specs.List.{sum_by}
use Rattle.std.proofs.lemmas.List.{take_all, drop_all, drop_more, drop-drop}
use Rattle.std.proofs.lemmas.List.Sums.{sum_by-cons, sum_by_more}
use Rattle.std.proofs.lemmas.Bool.{cases_lt}
use Rattle.cells.specs.Gathers.{changed_from, gathered_from}
use Rattle.cells.proofs.Steps.{changed_one}

-- functions that don't look at the column
pub changed-map : {X : Type 0} (f : X → X) (i : ℕ) (xs : List X) → changed_from (λ _. f) i xs ≡ map f xs
changed-map f i [] = refl
changed-map f i (x ∷ xs) = ap (λ ys. f x ∷ ys) (changed-map f (suc i) xs)

pub gathered-sum : {X : Type 0} (f : X → ℕ) (i : ℕ) (xs : List X) → gathered_from ◌+◌ 0 (λ _. f) i xs ≡ sum_by f xs
gathered-sum f i [] = refl
gathered-sum f i (x ∷ xs) = ap (λ n. f x + n) (gathered-sum f (suc i) xs) ∙ sym (sum_by-cons f x xs)

-- a loop that writes what a function of the column and the element gives over each element
over_suc : {X : Type 0} (F : ℕ → X → X) (c : ℕ) (xs ys : List X) (i : ℕ) (x : X) → i < length xs →
    ys ≡ changed_from F c (take i xs) ++ drop i xs → x ≡ get_or ys i x →
    set ys i (F (c + i) x) ≡ changed_from F c (take (suc i) xs) ++ drop (suc i) xs
over_suc F c [] ys i x h e at = absurd (omega arith)
over_suc F c (z ∷ xs) ys zero x h e at =
    let same : x ≡ z = at ∙ ap (λ l. get_or l 0 x) e in
    ap (λ l. set l 0 (F (c + 0) x)) e ∙ ap₂ (λ n y. F n y ∷ xs) (add-zero c) same
over_suc F c (z ∷ xs) ys (suc i) x h e at =
    let further : c + suc i ≡ suc c + i = omega arith in
    ap (λ l. set l (suc i) (F (c + suc i) x)) e
    ∙ ap (λ n. F c z ∷ set (changed_from F (suc c) (take i xs) ++ drop i xs) i (F n x)) further
    ∙ ap (λ l. F c z ∷ l) (over_suc F (suc c) xs _ i x (omega arith) refl (at ∙ ap (λ l. get_or l (suc i) x) e))

pub changed-over : {X : Type 0} (F : ℕ → X → X) (c : ℕ) (xs ys : List X) (i : ℕ) (x : X) → i < length xs →
    ys ≡ changed_from F c (take i xs) ++ drop i xs → x ≡ get_or ys i x →
    set ys i (F (c + i) x) ≡ changed_from F c (take (i + 1) xs) ++ drop (i + 1) xs
changed-over F c xs ys i x h e at = over_suc F c xs ys i x h e at ∙ ap (λ n. changed_from F c (take n xs) ++ drop n xs) (suc-eq-add-one i)

-- the element that such a loop reads is still what it was
pub over_reads : {X : Type 0} (F : ℕ → X → X) (c : ℕ) (xs ys : List X) (i : ℕ) (x : X) → i < length xs →
    ys ≡ changed_from F c (take i xs) ++ drop i xs → x ≡ get_or ys i x → x ≡ get_or xs i x
over_reads F c [] ys i x h e at = absurd (omega arith)
over_reads F c (z ∷ xs) ys zero x h e at = at ∙ ap (λ l. get_or l 0 x) e
over_reads F c (z ∷ xs) ys (suc i) x h e at = over_reads F (suc c) xs _ i x (omega arith) refl (at ∙ ap (λ l. get_or l (suc i) x) e)

-- a sum with one more element
pub sum_more : {X : Type 0} (f : X → ℕ) (xs : List X) (i : ℕ) (x : X) (s one : ℕ) → i < length xs → x ≡ get_or xs i x → s ≡ sum_by f (take i xs) → one ≡ f x →
    s + one ≡ sum_by f (take (i + 1) xs)
sum_more f xs i x s one h at s-is one-is = ap₂ ◌+◌ s-is (one-is ∙ ap f at) ∙ sym (sum_by_more f xs i x h)

-- some elements changed: `n` of them from the `at`-th on, of which the first stands at the column `c`
pub changed_span : {X : Type 0} → (ℕ → X → X) → ℕ → ℕ → ℕ → List X → List X
changed_span F c n at [] = []
changed_span F c n (suc at) (x ∷ xs) = x ∷ changed_span F c n at xs
changed_span F c zero zero (x ∷ xs) = x ∷ xs
changed_span F c (suc n) zero (x ∷ xs) = F c x ∷ changed_span F (suc c) n zero xs

pub span_none : {X : Type 0} (F : ℕ → X → X) (c at : ℕ) (xs : List X) → changed_span F c 0 at xs ≡ xs
unfolding changed_span
span_none F c zero [] = refl
span_none F c (suc at) [] = refl
span_none F c zero (x ∷ xs) = refl
span_none F c (suc at) (x ∷ xs) = ap (λ l. x ∷ l) (span_none F c at xs)

pub span_more : {X : Type 0} (F : ℕ → X → X) (c n at : ℕ) (xs : List X) →
    changed_span F c (suc n) at xs ≡ changed_span F (suc c) n (suc at) (changed_one (F c) at xs)
unfolding changed_span
span_more F c n zero [] = refl
span_more F c n (suc at) [] = refl
span_more F c n zero (x ∷ xs) = refl
span_more F c n (suc at) (x ∷ xs) = ap (λ l. x ∷ l) (span_more F c n at xs)

-- those elements, between the others
span_first : {X : Type 0} (F : ℕ → X → X) (c n : ℕ) (xs : List X) → changed_from F c (take n xs) ++ drop n xs ≡ changed_span F c n 0 xs
unfolding changed_span
span_first F c zero [] = refl
span_first F c (suc n) [] = refl
span_first F c zero (x ∷ xs) = refl
span_first F c (suc n) (x ∷ xs) = ap (λ l. F c x ∷ l) (span_first F (suc c) n xs)

pub span_parts : {X : Type 0} (F : ℕ → X → X) (c n at : ℕ) (xs : List X) →
    take at xs ++ (changed_from F c (take n (drop at xs)) ++ drop (at + n) xs) ≡ changed_span F c n at xs
unfolding changed_span
span_parts F c n zero xs = ap (λ m. changed_from F c (take n xs) ++ drop m xs) (zero-add n) ∙ span_first F c n xs
span_parts F c n (suc at) [] = ap₂ (λ l m. changed_from F c l ++ m) (take-nil n) (drop-nil (suc at + n))
span_parts F c n (suc at) (x ∷ xs) =
    ap (λ m. x ∷ (take at xs ++ (changed_from F c (take n (drop at xs)) ++ drop m (x ∷ xs)))) (suc-add at n)
    ∙ ap (λ l. x ∷ l) (span_parts F c n at xs)

-- a function that is the same from `m` on, at the lesser of `n` and `m`
clipped : {Y : Type 0} (F : ℕ → Y) (n m k : ℕ) → k ≡ min n m → ((j : ℕ) → m ≤ j → F j ≡ F m) → F k ≡ F n
clipped F n m k is past = way (cases_lt n m)
  where
    way : (n < m) ⊎ (m ≤ n) → F k ≡ F n
    way (inl less) = let e : k ≡ n = omega arith in ap F e
    way (inr more) = let e : k ≡ m = omega arith in ap F e ∙ sym (past n more)

-- the cells of a row that are in the memory: `wide` of them from the `start`-th on, or as many as there are
module _ {X : Type 0} (xs : List X) (start wide from to : ℕ) (from_is : from ≡ min start (length xs)) (to_is : to ≡ min (start + wide) (length xs)) where
  pub span_is : take (to - from) (drop from xs) ≡ take wide (drop start xs)
  span_is =
      let few : to - from ≡ min wide (length (drop from xs)) = omega (arith, length-drop from xs) in
      clipped (λ n. take n (drop from xs)) wide (length (drop from xs)) (to - from) few (λ n h. take_all n (drop from xs) h ∙ sym (take-length (drop from xs)))
      ∙ ap (take wide) (clipped (λ n. drop n xs) start (length xs) from from_is (λ n h. drop_all n xs h ∙ sym (drop-length xs)))

  -- what they are changed into, put in their place
  pub span_put : (F : ℕ → X → X) (c : ℕ) (ys : List X) → ys ≡ changed_from F c (take (to - from) (drop from xs)) →
      put_mid from (to - from) xs ys ≡ changed_span F c wide start xs
  span_put F c ys is =
      let ends : from + (to - from) ≡ to = omega arith in
      ap (λ l. take from xs ++ (l ++ drop (to - from) (drop from xs))) (is ∙ ap (changed_from F c) span_is)
      ∙ ap₂ (λ l m. l ++ (changed_from F c (take wide (drop start xs)) ++ m))
      (clipped (λ n. take n xs) start (length xs) from from_is (λ n h. take_all n xs h ∙ sym (take-length xs)))
      (drop-drop (to - from) from xs
      ∙ ap (λ n. drop n xs) ends
      ∙ clipped (λ n. drop n xs) (start + wide) (length xs) to to_is (λ n h. drop_all n xs h ∙ sym (drop-length xs)))
      ∙ span_parts F c wide start xs

-- how far a search along a row has come: what is left of it, with what was found, gives what the whole row gives
pub record Seeks {X Y : Type 0} (join : Y → Y → Y) (none : Y) (F : ℕ → X → Y) (c : ℕ) (xs : List X) (i : ℕ) (y y₀ : Y) : Type 0 where
  pub all : join y (gathered_from join none F (c + i) (drop i xs)) ≡ join y₀ (gathered_from join none F c xs)

module _ {X Y : Type 0} (join : Y → Y → Y) (none : Y) (F : ℕ → X → Y) (c : ℕ) (xs : List X) where
  pub seeks_none : (y : Y) → Seeks join none F c xs 0 y y
  seeks_none y = record { all = ap (λ n. join y (gathered_from join none F n xs)) (add-zero c) }

  -- said of an equal
  pub seeks_is : (i : ℕ) (y z y₀ : Y) → z ≡ y → Seeks join none F c xs i y y₀ → Seeks join none F c xs i z y₀
  seeks_is i y z y₀ same h = record { all = ap (λ x. join x (gathered_from join none F (c + i) (drop i xs))) same ∙ h.all }

  -- one more cell
  pub seeks_next : ((x y z : Y) → join (join x y) z ≡ join x (join y z)) → (i : ℕ) (x : X) (y y₀ one : Y) → i < length xs → x ≡ get_or xs i x → one ≡ F (c + i) x →
      Seeks join none F c xs i y y₀ → Seeks join none F c xs (i + 1) (join y one) y₀
  seeks_next regroup i x y y₀ one h is one-is before =
      let first : drop i xs ≡ x ∷ drop (i + 1) xs = drop_more xs i x h ∙ ap (λ z. z ∷ drop (i + 1) xs) (sym is) in
      record {
        all =
            regroup y one _
            ∙ ap₂ (λ z n. join y (join z (gathered_from join none F n (drop (i + 1) xs)))) one-is (omega arith)
            ∙ ap (λ l. join y (gathered_from join none F (c + i) l)) (sym first)
            ∙ before.all;
      }

  -- the end of the row
  pub seeks_end : ((y : Y) → join y none ≡ y) → (i : ℕ) (y y₀ : Y) → length xs ≤ i → Seeks join none F c xs i y y₀ → y ≡ join y₀ (gathered_from join none F c xs)
  seeks_end right i y y₀ past h =
      sym (right y) ∙ ap (λ l. join y (gathered_from join none F (c + i) l)) (sym (drop_all i xs past)) ∙ h.all
