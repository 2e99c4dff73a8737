-- How far a pass over a window has come: what is left to do, with what is done, is what the whole window gives.
-- Assumes nothing.
use Rattle.std.proofs.Common.{◌≡◌, ℕ, zero, suc, ◌+◌, ◌-◌, ◌*◌, ◌<◌, ◌≤◌, true, false, List, [], ◌++◌, length, take, drop, is_some, Some, None, Option, sym, refl, ap, ◌∙◌, ap₂, append_assoc, add-zero, add_assoc, zero-add, arith, length-take}
use mathlib.Core.Path.{fun_ext}
use Rattle.std.specs.List.{sum_by}
use Rattle.std.specs.Option.{option_or}
use Rattle.std.proofs.lemmas.List.{append-nil}
use Rattle.std.proofs.lemmas.Bool.{true≢false}
use Rattle.cells.specs.Windows.{index_at, inside, wide}
use Rattle.cells.specs.Gathers.{gathered_from, gather_at, changed, total, first, or_else}
use Rattle.cells.specs.declared.rectangles.Rectangle.{Rectangle}
use Rattle.cells.proofs.Lines.{gathered-sum, changed_span, span_none, span_more}
use Rattle.cells.proofs.Places.{Held, Granted, ordered, index_next}
use Rattle.cells.proofs.Rests.{changed_rest, gathered_rest, changed-first, changed_row, changed-last, changed-next, gathered-first, gathered-row, gathered-last, gathered_next, gathered-before}
use Rattle.cells.proofs.Steps.{changed_one, gathered_one, gathered-take}

-- what cells give is put together by a `join` that can be regrouped, and of which `none` is no part
pub record Joining {Y : Type 0} (join : Y → Y → Y) (none : Y) : Type 0 where
  pub left : (y : Y) → join none y ≡ y
  pub right : (y : Y) → join y none ≡ y
  pub regroup : (x y z : Y) → join (join x y) z ≡ join x (join y z)

pub sums : Joining ◌+◌ 0
sums = record { left = zero-add; right = add-zero; regroup = add_assoc }

pub lists : {Y : Type 0} → Joining {Y = List Y} ◌++◌ []
lists = record { left = λ y. refl; right = append-nil; regroup = append_assoc }

pub firsts : {Y : Type 0} → Joining {Y = Option Y} or_else None
firsts = record { left = λ y. refl; right = right; regroup = regroup }
  where
    right : {Y : Type 0} (y : Option Y) → or_else y None ≡ y
    right None = refl
    right (Some y) = refl

    regroup : {Y : Type 0} (x y z : Option Y) → or_else (or_else x y) z ≡ or_else x (or_else y z)
    regroup None y z = refl
    regroup (Some x) y z = refl

-- std's word for the first of two that is there
pub either_is : {Y : Type 0} (o p : Option Y) → option_or o p ≡ or_else o p
either_is None p = refl
either_is (Some y) p = refl

-- an option that is not there, or is
pub not_there : {Y : Type 0} (o : Option Y) → is_some o ≡ false → o ≡ None
not_there None h = refl
not_there (Some y) h = absurd (true≢false h)

pub is_there : {Y : Type 0} (o p : Option Y) → is_some o ≡ true → or_else o p ≡ o
is_there None p h = absurd (true≢false (sym h))
is_there (Some y) p h = refl

-- the cells of a row of a window that are in the memory
abbrev pub line : {X : Type 0} → Rectangle → Rectangle → ℕ → List X → List X
line area window row xs = take (wide window) (drop (index_at area window.left row) xs)

-- they are at most as many as the window has columns
pub few_cells : {X : Type 0} (area window : Rectangle) (row : ℕ) (xs cells : List X) → cells ≡ line area window row xs → length cells ≤ wide window
few_cells area window row xs cells is = omega (arith, ap length is, length-take (wide window) (drop (index_at area window.left row) xs))

-- how far a pass over a window has come, at the beginning of a row: what is put together, with what is left, is what the
-- whole window gives
pub record Joins {X Y : Type 0} (join : Y → Y → Y) (none : Y) (area window : Rectangle) (f : ℕ → ℕ → X → Y) (row : ℕ) (xs : List X) (y : Y) (xs₀ : List X) : Type 0 where
  pub all : join y (gathered_rest join none area window f (index_at area window.left row) xs)
      ≡ gathered_from join none (gather_at none area (inside area window) f) 0 xs₀

module _ {X Y : Type 0} (join : Y → Y → Y) (none : Y) (laws : Joining join none) (area window : Rectangle) (f : ℕ → ℕ → X → Y) (ok : Granted area window) where
  -- before the first row
  pub joins-none : (xs : List X) → Joins join none area window f window.top xs none xs
  joins-none xs = record { all = laws.left _ ∙ gathered-first area window ok join none laws.left f xs }

  -- said of an equal
  pub joins_is : (row : ℕ) (xs : List X) (y z : Y) (xs₀ : List X) → z ≡ y → Joins join none area window f row xs y xs₀ → Joins join none area window f row xs z xs₀
  joins_is row xs y z xs₀ same h = record { all = ap (λ x. join x (gathered_rest join none area window f (index_at area window.left row) xs)) same ∙ h.all }

  -- after the last
  pub joins-whole : (row : ℕ) → row ≡ window.bottom → (xs₀ : List X) (y : Y) (xs : List X) → Joins join none area window f row xs y xs₀ →
      y ≡ gathered_from join none (gather_at none area (inside area window) f) 0 xs₀
  joins-whole row edge xs₀ y xs h =
      sym (laws.right y)
      ∙ ap (join y)
      (sym (gathered-last area window ok join none laws.left f xs)
      ∙ sym (ap (λ n. gathered_rest join none area window f (index_at area window.left n) xs) edge))
      ∙ h.all

  -- what is left from a position on: the rest of its row, and what is left from the next row on
  pub gathered-run : (n column row : ℕ) → window.left ≤ column → column + n ≡ window.right → window.top ≤ row → row < window.bottom → (xs : List X) →
      gathered_rest join none area window f (index_at area column row) xs
      ≡ join (gathered_from join none (λ c. f c row) column (take n (drop (index_at area column row) xs))) (gathered_rest join none area window f (index_at area window.left (row + 1)) xs)
  gathered-run zero column row left edge top bottom xs =
      let right : column ≡ window.right = omega arith in
      ap (λ n. gathered_rest join none area window f (index_at area n row) xs) right
      ∙ gathered-row area window ok join none laws.left f row top xs
      ∙ sym (laws.left _)
  gathered-run (suc n) column row left edge top bottom xs =
      let held : Held window column row = omega arith in
      let at = index_at area column row in
      let further : index_at area (column + 1) row ≡ suc at = omega (arith, index_next area column row (omega (arith, ok.across.begins))) in
      let one : column + 1 ≡ suc column = omega arith in
      gathered_next area window ok column row held join none laws.left f xs
      ∙ ap (join (gathered_one none (f column row) at xs))
      (gathered-run n (column + 1) row (omega arith) (omega arith) top bottom xs
      ∙ ap₂ (λ c k. join (gathered_from join none (λ m. f m row) c (take n (drop k xs))) (gathered_rest join none area window f (index_at area window.left (row + 1)) xs)) one further)
      ∙ sym (laws.regroup _ _ _)
      ∙ ap (λ y. join y (gathered_rest join none area window f (index_at area window.left (row + 1)) xs)) (sym (gathered-take join none laws.left (λ c. f c row) column n at xs))

  -- what is left from the next row on doesn't look at the cells of this one, which are changed
  pub gathered-kept : (F : ℕ → X → X) (n column row : ℕ) → window.left ≤ column → column + n ≡ window.right → window.top ≤ row → (xs : List X) →
      gathered_rest join none area window f (index_at area window.left (row + 1)) (changed_span F column n (index_at area column row) xs)
      ≡ gathered_rest join none area window f (index_at area window.left (row + 1)) xs
  gathered-kept F zero column row left edge top xs = ap (gathered_rest join none area window f (index_at area window.left (row + 1))) (span_none F column _ xs)
  gathered-kept F (suc n) column row left edge top xs =
      let at = index_at area column row in
      let further : suc at ≡ index_at area (column + 1) row = omega (arith, index_next area column row (omega (arith, ok.across.begins))) in
      let one : suc column ≡ column + 1 = omega arith in
      let less : at < index_at area window.left (row + 1) = omega (arith, ordered area window ok row top 0, ok.across.begins) in
      ap (gathered_rest join none area window f (index_at area window.left (row + 1)))
      (span_more F column n at xs ∙ ap₂ (λ c k. changed_span F c n k (changed_one (F column) at xs)) one further)
      ∙ gathered-kept F n (column + 1) row (omega arith) (omega arith) top (changed_one (F column) at xs)
      ∙ gathered-before area window ok join none laws.left f at (index_at area window.left (row + 1)) less (F column) xs

  module _ (row : ℕ) (top : window.top ≤ row) (bottom : row < window.bottom) where
    -- one more row, of which the cells may be changed
    pub joins-line : (xs xs₁ : List X) (y one : Y) (xs₀ : List X) → one ≡ gathered_from join none (λ c. f c row) window.left (line area window row xs) →
        gathered_rest join none area window f (index_at area window.left (row + 1)) xs₁ ≡ gathered_rest join none area window f (index_at area window.left (row + 1)) xs →
        Joins join none area window f row xs y xs₀ → Joins join none area window f (row + 1) xs₁ (join y one) xs₀
    joins-line xs xs₁ y one xs₀ one-is kept before =
        record {
          all =
              ap₂ (λ o r. join (join y o) r) one-is kept
              ∙ laws.regroup y _ _
              ∙ ap (join y) (sym (gathered-run (wide window) window.left row (omega arith) (omega (arith, ok.across.runs)) top bottom xs))
              ∙ before.all;
        }

-- a pass that looks for the first cell that gives something
module _ {X Y : Type 0} (area window : Rectangle) (f : ℕ → ℕ → X → Option Y) (ok : Granted area window) where
  -- none did
  pub first-whole : (row : ℕ) → row ≡ window.bottom → (xs₀ : List X) (y : Option Y) (xs : List X) → Joins or_else None area window f row xs y xs₀ → y ≡ first area window f xs₀
  unfolding first
  first-whole row edge xs₀ y xs h = joins-whole or_else None firsts area window f ok row edge xs₀ y xs h

  -- one does, and none before it
  pub first_found : (row : ℕ) → window.top ≤ row → row < window.bottom → (xs : List X) (one : Option Y) (xs₀ : List X) →
      one ≡ gathered_from or_else None (λ c. f c row) window.left (line area window row xs) → is_some one ≡ true →
      Joins or_else None area window f row xs None xs₀ → one ≡ first area window f xs₀
  unfolding first
  first_found row top bottom xs one xs₀ one-is there before =
      sym (is_there one _ there) ∙ (joins-line or_else None firsts area window f ok row top bottom xs xs None one xs₀ one-is refl before).all

-- a sum of numbers that fit 32 bits, one of each row
pub record Sums {X : Type 0} (area window : Rectangle) (f : ℕ → ℕ → X → ℕ) (row : ℕ) (xs : List X) (s : ℕ) (xs₀ : List X) : Type 0 where
  pub sum : Joins ◌+◌ 0 area window f row xs s xs₀
  pub bound : s ≤ 4294967295 * (row - window.top)

-- the cells of the rows so far changed
pub record Changes {X : Type 0} (area window : Rectangle) (f : ℕ → ℕ → X → X) (row : ℕ) (xs xs₀ : List X) : Type 0 where
  pub cells : changed_rest area window f (index_at area window.left row) xs ≡ changed area window f xs₀

module _ {X : Type 0} (area window : Rectangle) (f : ℕ → ℕ → X → ℕ) (ok : Granted area window) where
  pub sums-none : (xs : List X) → Sums area window f window.top xs 0 xs
  sums-none xs = record { sum = joins-none ◌+◌ 0 sums area window f ok xs; bound = omega arith }

  pub sums-whole : (row : ℕ) → row ≡ window.bottom → (xs₀ : List X) (s : ℕ) (xs : List X) → Sums area window f row xs s xs₀ → s ≡ total area window f xs₀
  unfolding total
  sums-whole row edge xs₀ s xs h = joins-whole ◌+◌ 0 sums area window f ok row edge xs₀ s xs h.sum

  -- one more row, where what a cell gives does not depend on its position
  module _ (still : (column row : ℕ) → f column row ≡ f 0 0) (row : ℕ) (top : window.top ≤ row) (bottom : row < window.bottom)
      (xs cells : List X) (is : cells ≡ line area window row xs) where
    line-sum : sum_by (f 0 0) cells ≡ gathered_from ◌+◌ 0 (λ c. f c row) window.left (line area window row xs)
    line-sum =
        ap (sum_by (f 0 0)) is
        ∙ sym (gathered-sum (f 0 0) window.left (line area window row xs))
        ∙ ap (λ F. gathered_from ◌+◌ 0 F window.left (line area window row xs)) (sym (fun_ext (λ c. still c row)))

    pub sums-line : (s one : ℕ) (xs₀ : List X) → one ≡ sum_by (f 0 0) cells → one ≤ 4294967295 →
        (F : ℕ → X → X) (xs₁ : List X) → xs₁ ≡ changed_span F window.left (wide window) (index_at area window.left row) xs →
        Sums area window f row xs s xs₀ → Sums area window f (row + 1) xs₁ (s + one) xs₀
    sums-line s one xs₀ one-is small F xs₁ turned before =
        let kept = ap (gathered_rest ◌+◌ 0 area window f (index_at area window.left (row + 1))) turned
        ∙ gathered-kept ◌+◌ 0 sums area window f ok F (wide window) window.left row (omega arith) (omega (arith, ok.across.runs)) top xs in
        record {
          sum = joins-line ◌+◌ 0 sums area window f ok row top bottom xs xs₁ s one xs₀ (one-is ∙ line-sum) kept before.sum;
          bound = omega (arith, before.bound);
        }

    -- no cell is changed
    pub sums_same : (s one : ℕ) (xs₀ : List X) → one ≡ sum_by (f 0 0) cells → one ≤ 4294967295 →
        Sums area window f row xs s xs₀ → Sums area window f (row + 1) xs (s + one) xs₀
    sums_same s one xs₀ one-is small before =
        record {
          sum = joins-line ◌+◌ 0 sums area window f ok row top bottom xs xs s one xs₀ (one-is ∙ line-sum) refl before.sum;
          bound = omega (arith, before.bound);
        }

module _ {X : Type 0} (area window : Rectangle) (f : ℕ → ℕ → X → X) (ok : Granted area window) where
  pub changes-none : (xs : List X) → Changes area window f window.top xs xs
  unfolding changed
  changes-none xs = record { cells = changed-first area window ok f xs }

  pub changes-whole : (row : ℕ) → row ≡ window.bottom → (xs₀ xs : List X) → Changes area window f row xs xs₀ → xs ≡ changed area window f xs₀
  changes-whole row edge xs₀ xs h =
      sym (changed-last area window ok f xs)
      ∙ sym (ap (λ n. changed_rest area window f (index_at area window.left n) xs) edge)
      ∙ h.cells

  -- the rest of a row changed
  changed-run : (n column row : ℕ) → window.left ≤ column → column + n ≡ window.right → window.top ≤ row → row < window.bottom → (xs : List X) →
      changed_rest area window f (index_at area window.left (row + 1)) (changed_span (λ c. f c row) column n (index_at area column row) xs)
      ≡ changed_rest area window f (index_at area column row) xs
  changed-run zero column row left edge top bottom xs =
      let right : window.right ≡ column = omega arith in
      ap (changed_rest area window f (index_at area window.left (row + 1))) (span_none (λ c. f c row) column _ xs)
      ∙ sym (changed_row area window ok f row top xs)
      ∙ ap (λ n. changed_rest area window f (index_at area n row) xs) right
  changed-run (suc n) column row left edge top bottom xs =
      let held : Held window column row = omega arith in
      let at = index_at area column row in
      let further : suc at ≡ index_at area (column + 1) row = omega (arith, index_next area column row (omega (arith, ok.across.begins))) in
      let one : suc column ≡ column + 1 = omega arith in
      ap (changed_rest area window f (index_at area window.left (row + 1)))
      (span_more (λ c. f c row) column n at xs ∙ ap₂ (λ c k. changed_span (λ m. f m row) c n k (changed_one (f column row) at xs)) one further)
      ∙ changed-run n (column + 1) row (omega arith) (omega arith) top bottom (changed_one (f column row) at xs)
      ∙ sym (changed-next area window ok column row held f xs)

  -- one more row
  pub changes-line : (row : ℕ) → window.top ≤ row → row < window.bottom → (xs xs₁ xs₀ : List X) →
      xs₁ ≡ changed_span (λ c. f c row) window.left (wide window) (index_at area window.left row) xs →
      Changes area window f row xs xs₀ → Changes area window f (row + 1) xs₁ xs₀
  changes-line row top bottom xs xs₁ xs₀ turned before =
      record {
        cells =
            ap (changed_rest area window f (index_at area window.left (row + 1))) turned
            ∙ changed-run (wide window) window.left row (omega arith) (omega (arith, ok.across.runs)) top bottom xs
            ∙ before.cells;
      }
