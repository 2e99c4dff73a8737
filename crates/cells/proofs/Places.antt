-- Where cells lie: all reasoning on quotients and remainders, and on the tests of rectangles and windows.
-- Assumes nothing.
use Rattle.std.proofs.Common.{◌≡◌, ℕ, suc, ◌+◌, ◌-◌, ◌*◌, ◌/◌, ◌%◌, ◌<◌, ◌≤◌, Bool, true, false, ◌&&◌, ltb, leb, ◌⊎◌, sym, refl, ap, ◌∙◌, inl, inr, mul-le-mul_right, mod-lt, suc-mul, div-add-mod', arith}
use Rattle.std.proofs.lemmas.Nat.{div-mul-add, mod-mul-add}
use Rattle.std.proofs.lemmas.Bool.{and_parts, and_from, leb-true, ltb-true, le-leb, lt-ltb, lt-leb, cases_lt, and_left, false_from_ne_true}
use Rattle.cells.specs.Windows.{wide, holds, column_at, row_at, index_at, inside, spanned, granted}
use Rattle.cells.specs.declared.rectangles.Rectangle.{Rectangle}

-- two tests that pass together are equal
pub tests_equal : (x y : Bool) → (x ≡ true → y ≡ true) → (y ≡ true → x ≡ true) → x ≡ y
tests_equal true y f h = sym (f refl)
tests_equal false true f h = h refl
tests_equal false false f h = refl

-- a position lies in a rectangle
pub record Held (r : Rectangle) (column row : ℕ) : Type 0 where
  pub left : r.left ≤ column
  pub right : column < r.right
  pub top : r.top ≤ row
  pub bottom : row < r.bottom

pub held_from : (r : Rectangle) (column row : ℕ) → holds r column row ≡ true → Held r column row
held_from r column row h =
    let a = and_parts _ (ltb row r.bottom) h in
    let b = and_parts _ (leb r.top row) a.0 in
    let c = and_parts (leb r.left column) (ltb column r.right) b.0 in
    record {
      left = leb-true r.left column c.0;
      right = ltb-true column r.right c.1;
      top = leb-true r.top row b.1;
      bottom = ltb-true row r.bottom a.1;
    }

pub held_test : (r : Rectangle) (column row : ℕ) → Held r column row → holds r column row ≡ true
held_test r column row h =
    and_from _ _
    (and_from _ _ (and_from _ _ (le-leb r.left column h.left) (lt-ltb column r.right h.right)) (le-leb r.top row h.top))
    (lt-ltb row r.bottom h.bottom)

-- a window that passes its tests lies in the area
pub record Spans (low top from to : ℕ) : Type 0 where
  pub begins : low ≤ from
  pub runs : from ≤ to
  pub ends : to ≤ top

spans_from : (low top from to : ℕ) → spanned low top from to ≡ true → Spans low top from to
spans_from low top from to h =
    let a = and_parts _ (leb low from) h in
    let b = and_parts _ (leb to top) a.0 in
    let c = and_parts (leb from top) (leb from to) b.0 in
    record { begins = leb-true low from a.1; runs = leb-true from to c.1; ends = leb-true to top b.1 }

pub record Granted (area window : Rectangle) : Type 0 where
  pub across : Spans area.left area.right window.left window.right
  pub down : Spans area.top area.bottom window.top window.bottom

pub granted-from : (area window : Rectangle) → granted area window ≡ true → Granted area window
granted-from area window h =
    let p = and_parts (spanned area.left area.right window.left window.right) _ h in
    record { across = spans_from _ _ _ _ p.0; down = spans_from _ _ _ _ p.1 }

-- the cell at a position of the area lies there
module _ (area : Rectangle) (column row : ℕ) (left : area.left ≤ column) (right : column < area.right) (top : area.top ≤ row) where
  offset-less : column - area.left < wide area
  offset-less = omega arith

  pub column-index : column_at area (index_at area column row) ≡ column
  column-index =
      let e = mod-mul-add (row - area.top) (wide area) (column - area.left) offset-less in
      omega arith

  pub row-index : row_at area (index_at area column row) ≡ row
  row-index =
      let e = div-mul-add (row - area.top) (wide area) (column - area.left) offset-less in
      omega arith

-- the cell next to it, in the same row
pub index_next : (area : Rectangle) (column row : ℕ) → area.left ≤ column → index_at area (column + 1) row ≡ index_at area column row + 1
index_next area column row left = omega arith

-- a cell that lies in a window lies in the area, and which one it is follows from where it lies
pub record Lies (area window : Rectangle) (i : ℕ) : Type 0 where
  pub held : Held window (column_at area i) (row_at area i)
  pub whole : i ≡ i / wide area * wide area + i % wide area
  pub rest : i % wide area < wide area

module _ (area window : Rectangle) (ok : Granted area window) (i : ℕ) where
  pub lies : inside area window i ≡ true → Lies area window i
  unfolding inside
  lies h =
      let held = held_from window (column_at area i) (row_at area i) h in
      record { held = held; whole = sym (div-add-mod' i (wide area)); rest = rest held (cases_lt 0 (wide area)) }
    where
      rest : Held window (column_at area i) (row_at area i) → (0 < wide area) ⊎ (wide area ≤ 0) → i % wide area < wide area
      rest held (inl p) = mod-lt i p
      rest held (inr z) = absurd (omega (arith, held.right, ok.across.ends))

-- row `a` and offset `b` come at or before row `q` and offset `m`, of rows of `w` cells
order_same : (w a b q m : ℕ) → a ≤ q → b ≤ m → a * w + b ≤ q * w + m
order_same w a b q m rows offsets =
    let p : a * w ≤ q * w = mul-le-mul_right w rows in
    omega arith

-- a row ends where the next begins, or before a later one
order_rows : (w a q : ℕ) → a < q → a * w + w ≤ q * w
order_rows w a q rows =
    let p : suc a * w ≤ q * w = mul-le-mul_right w rows in
    omega (arith, suc-mul a w)

-- the cells in the window from the `at`-th on
unfoldable pub rest : Rectangle → Rectangle → ℕ → ℕ → Bool
rest area window at i = leb at i && inside area window i

-- none of them comes before
pub rest-before : (area window : Rectangle) (at i : ℕ) → i < at → rest area window at i ≡ false
unfolding rest
rest-before area window at i less = and_left _ _ (lt-leb at i less)

module _ (area window : Rectangle) (ok : Granted area window) where
  -- every cell of the window comes at or after its first
  first-least : (i : ℕ) → inside area window i ≡ true → index_at area window.left window.top ≤ i
  first-least i h =
      let l = lies area window ok i h in
      let w = wide area in
      let o = order_same w (window.top - area.top) (window.left - area.left) (i / w) (i % w) (omega (arith, l.held.top, ok.down.begins)) (omega (arith, l.held.left, ok.across.begins)) in
      omega (arith, l.whole)

  pub rest-start : (i : ℕ) → rest area window (index_at area window.left window.top) i ≡ inside area window i
  unfolding rest
  rest-start i =
      tests_equal _ _ (λ h. (and_parts (leb (index_at area window.left window.top) i) (inside area window i) h).1)
      (λ h. and_from _ _ (le-leb _ i (first-least i h)) h)

  -- no cell of the window comes after its last row
  pub rest_end : (i : ℕ) → rest area window (index_at area window.left window.bottom) i ≡ false
  unfolding rest
  rest_end i =
      false_from_ne_true _
      (λ h.
      let p = and_parts (leb (index_at area window.left window.bottom) i) (inside area window i) h in
      let l = lies area window ok i p.1 in
      let w = wide area in
      let late = leb-true (index_at area window.left window.bottom) i p.0 in
      let o = order_rows w (i / w) (window.bottom - area.top) (omega (arith, l.held.bottom, ok.down.begins)) in
      omega (arith, l.whole, l.rest))

-- no cell of the window lies between the end of one row and the beginning of the next
module _ (area window : Rectangle) (ok : Granted area window) (row : ℕ) (top : window.top ≤ row) (i : ℕ) where
  -- a cell in this row or above comes before the row's end
  early : Lies area window i → index_at area window.right row ≤ i → row_at area i ≤ row →
      (i / wide area < row - area.top) ⊎ (row - area.top ≤ i / wide area) → ⊥
  early l h below (inl up) =
      let o = order_rows (wide area) (i / wide area) (row - area.top) up in
      omega (arith, l.whole, l.rest)
  early l h below (inr same) =
      let e : i / wide area ≡ row - area.top = omega (arith, ok.down.begins) in
      let e2 : i / wide area * wide area ≡ (row - area.top) * wide area = ap (λ n. n * wide area) e in
      omega (arith, l.whole, l.held.right, ok.across.begins, ok.across.runs)

  late : Lies area window i → index_at area window.right row ≤ i → (row < row_at area i) ⊎ (row_at area i ≤ row) →
      index_at area window.left (row + 1) ≤ i
  late l h (inl above) =
      let w = wide area in
      let o = order_same w (row + 1 - area.top) (window.left - area.left) (i / w) (i % w) (omega (arith, l.held.top, ok.down.begins)) (omega (arith, l.held.left, ok.across.begins)) in
      omega (arith, l.whole)
  late l h (inr below) = absurd (early l h below (cases_lt (i / wide area) (row - area.top)))

  pub ordered : index_at area window.right row ≤ index_at area window.left (row + 1)
  ordered =
      let o = order_rows (wide area) (row - area.top) (row + 1 - area.top) (omega (arith, ok.down.begins)) in
      omega (arith, ok.across.begins, ok.across.runs, ok.across.ends)

  pub rest-row : rest area window (index_at area window.right row) i ≡ rest area window (index_at area window.left (row + 1)) i
  unfolding rest
  rest-row =
      tests_equal _ _
      (λ h.
      let p = and_parts (leb (index_at area window.right row) i) (inside area window i) h in
      let l = late (lies area window ok i p.1) (leb-true (index_at area window.right row) i p.0) (cases_lt row (row_at area i)) in
      and_from _ _ (le-leb (index_at area window.left (row + 1)) i l) p.1)
      (λ h.
      let p = and_parts (leb (index_at area window.left (row + 1)) i) (inside area window i) h in
      let a = leb-true (index_at area window.left (row + 1)) i p.0 in
      let o = ordered in
      and_from _ _ (le-leb (index_at area window.right row) i (omega arith)) p.1)

-- one cell further: only that cell is left out
pub record Next (area window : Rectangle) (at : ℕ) : Type 0 where
  pub here : rest area window at at ≡ true
  pub gone : rest area window (at + 1) at ≡ false
  pub before : (i : ℕ) → i < at → rest area window at i ≡ false
  pub before-too : (i : ℕ) → i < at → rest area window (at + 1) i ≡ false
  pub after : (i : ℕ) → at < i → rest area window at i ≡ rest area window (at + 1) i

pub next : (area window : Rectangle) (at : ℕ) → inside area window at ≡ true → Next area window at
unfolding rest
next area window at h =
    record {
      here = and_from _ _ (le-leb at at (omega arith)) h;
      gone = and_left _ _ (lt-leb (at + 1) at (omega arith));
      before = λ i l. and_left _ _ (lt-leb at i l);
      before-too = λ i l. and_left _ _ (lt-leb (at + 1) i (omega arith));
      after = λ i l. ap (λ b. b && inside area window i) (le-leb at i (omega arith) ∙ sym (le-leb (at + 1) i (omega arith)));
    }

-- a position of the window is a cell of it
pub inside-index : (area window : Rectangle) → Granted area window → (column row : ℕ) → Held window column row → inside area window (index_at area column row) ≡ true
unfolding inside
inside-index area window ok column row h =
    let left : area.left ≤ column = omega (arith, ok.across.begins, h.left) in
    let right : column < area.right = omega (arith, ok.across.ends, h.right) in
    let top : area.top ≤ row = omega (arith, ok.down.begins, h.top) in
    rw (column-index area column row left right top, row-index area column row left right top) (held_test window column row h)
