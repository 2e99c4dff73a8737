-- A pass that writes the colours of a window into a buffer.
-- Assumes nothing.
use Rattle.std.proofs.Common.{◌≡◌, ℕ, zero, suc, ◌+◌, ◌*◌, ◌<◌, ◌≤◌, List, [], ◌∷◌, ◌++◌, length, sym, refl, ap, ◌∙◌, ap₂, mul-le-mul_right, mul_assoc, suc-mul, mul_comm, zero-mul, arith}
use Rattle.std.proofs.lemmas.List.{length-append, append-nil, drop_all}
use Rattle.raster.specs.Shown.{put}
use Rattle.raster.proofs.Puts.{put-none, put-length, put-put}
use Rattle.cells.specs.Gathers.{gathered_from, listed}
use Rattle.cells.specs.Passes.{shown_cell}
use Rattle.cells.specs.Shows.{shown_cells, shown_window}
use Rattle.cells.specs.Windows.{index_at, wide, high}
use Rattle.cells.specs.declared.rectangles.Rectangle.{Rectangle}
use Rattle.cells.specs.declared.stored.Cell.{Cell}
use Rattle.cells.proofs.Places.{Granted}
use Rattle.cells.proofs.Passing.{line, few_cells, lists, gathered-run}
use Rattle.cells.proofs.Rests.{gathered_rest, gathered-first, gathered-last}

-- the bytes that are left, put from a place on, give what all give, put from the place where the writing began; and they
-- end in the same place, within the buffer
pub record Written (rest buffer : List ℕ) (to : ℕ) (all buffer₀ : List ℕ) (to₀ : ℕ) : Type 0 where
  pub bytes : put buffer to rest ≡ put buffer₀ to₀ all
  pub place : to + length rest ≡ to₀ + length all
  pub room : to + length rest ≤ length buffer

-- no bytes are written yet
pub written_none : (rest all buffer : List ℕ) (to : ℕ) → rest ≡ all → to + length all ≤ length buffer → Written rest buffer to all buffer to
written_none rest all buffer to same fits =
    let long = ap length same in
    record { bytes = ap (put buffer to) same; place = ap (λ n. to + n) long; room = omega arith }

module _ (rest buffer : List ℕ) (to : ℕ) (all buffer₀ : List ℕ) (to₀ : ℕ) (before : Written rest buffer to all buffer₀ to₀) where
  -- no bytes are left
  pub written_all : rest ≡ [] → (buffer ≡ put buffer₀ to₀ all) × (to ≡ to₀ + length all)
  written_all none =
      let long = ap length none in
      (sym (put-none buffer to) ∙ ap (put buffer to) (sym none) ∙ before.bytes, omega (arith, before.place))

  module _ (bytes rest₁ : List ℕ) (parts : rest ≡ bytes ++ rest₁) where
    -- there is room for the next bytes
    pub next_fits : to + length bytes ≤ length buffer
    next_fits = omega (arith, before.room, ap length parts ∙ length-append bytes rest₁)

    -- the next bytes are written
    pub written_next : (buffer₁ : List ℕ) (to₁ : ℕ) → buffer₁ ≡ put buffer to bytes → to₁ ≡ to + length bytes → Written rest₁ buffer₁ to₁ all buffer₀ to₀
    written_next buffer₁ to₁ put_is to_is =
        let long = ap length parts ∙ length-append bytes rest₁ in
        record {
          bytes =
              ap₂ (λ z n. put z n rest₁) put_is to_is
              ∙ put-put buffer bytes rest₁ to next_fits
              ∙ ap (put buffer to) (sym parts)
              ∙ before.bytes;
          place = omega (arith, before.place);
          room = omega (arith, before.room, ap length put_is, put-length buffer bytes to next_fits);
        }

-- bytes that fill a buffer
pub put_full : (buffer bytes : List ℕ) → length buffer ≡ length bytes → put buffer 0 bytes ≡ bytes
put_full buffer bytes same = ap (λ zs. bytes ++ zs) (drop_all (0 + length bytes) buffer (omega arith)) ∙ append-nil bytes

-- a run shows as many colours as it has cells
run_length : {C : Type 0} (shown : C → List ℕ) (size : ℕ) → ((c : C) → length (shown c) ≡ size) → (xs : List (Cell C)) → length (shown_cells shown xs) ≡ length xs * size
run_length shown size sized [] = sym (zero-mul size)
run_length shown size sized (x ∷ xs) =
    length-append (shown x.colour) (shown_cells shown xs) ∙ omega (arith, sized x.colour, run_length shown size sized xs, suc-mul (length xs) size)

-- the colours of a row, whatever its columns
gathered-shown : {C : Type 0} (shown : C → List ℕ) (i : ℕ) (xs : List (Cell C)) → gathered_from ◌++◌ [] (λ _ cell. shown cell.colour) i xs ≡ shown_cells shown xs
gathered-shown shown i [] = refl
gathered-shown shown i (x ∷ xs) = ap (λ l. shown x.colour ++ l) (gathered-shown shown (suc i) xs)

-- the bytes still to be written from a row on
unfoldable pub to_show : {C : Type 0} → (C → List ℕ) → Rectangle → Rectangle → ℕ → List (Cell C) → List ℕ
to_show shown area window row xs = gathered_rest ◌++◌ [] area window (shown_cell shown) (index_at area window.left row) xs

module _ {C : Type 0} (shown : C → List ℕ) (area window : Rectangle) (ok : Granted area window) where
  pub whole-window : (xs : List (Cell C)) → to_show shown area window window.top xs ≡ shown_window shown area window xs
  unfolding to_show shown_window listed
  whole-window xs = gathered-first area window ok ◌++◌ [] (λ y. refl) (shown_cell shown) xs

  pub nothing_left : (row : ℕ) → row ≡ window.bottom → (xs : List (Cell C)) → to_show shown area window row xs ≡ []
  unfolding to_show
  nothing_left row edge xs =
      ap (λ n. gathered_rest ◌++◌ [] area window (shown_cell shown) (index_at area window.left n) xs) edge
      ∙ gathered-last area window ok ◌++◌ [] (λ y. refl) (shown_cell shown) xs

  -- the colours of a row, and what is left from the next row on
  pub next_row : (row : ℕ) → window.top ≤ row → row < window.bottom → (xs cells : List (Cell C)) → cells ≡ line area window row xs →
      to_show shown area window row xs ≡ shown_cells shown cells ++ to_show shown area window (row + 1) xs
  unfolding to_show
  next_row row top bottom xs cells is =
      gathered-run ◌++◌ [] lists area window (shown_cell shown) ok (wide window) window.left row (omega arith) (omega (arith, ok.across.runs)) top bottom xs
      ∙ ap (λ l. l ++ gathered_rest ◌++◌ [] area window (shown_cell shown) (index_at area window.left (row + 1)) xs)
      (gathered-shown shown window.left (line area window row xs) ∙ ap (shown_cells shown) (sym is))

  -- a window shows at most as many colours as it has positions
  module _ (size : ℕ) (sized : (c : C) → length (shown c) ≡ size) (xs : List (Cell C)) where
    row-short : (row : ℕ) → window.top ≤ row → row < window.bottom →
        length (to_show shown area window row xs) ≤ wide window * size + length (to_show shown area window (row + 1) xs)
    row-short row top bottom =
        let run = line area window row xs in
        let few : length run ≤ wide window = few_cells area window row xs run refl in
        omega (
          arith,
          ap length (next_row row top bottom xs _ refl) ∙ length-append (shown_cells shown run) (to_show shown area window (row + 1) xs),
          run_length shown size sized run,
          mul-le-mul_right size few,
        )

    rows_short : (m row : ℕ) → window.top ≤ row → row + m ≡ window.bottom → length (to_show shown area window row xs) ≤ m * (wide window * size)
    rows_short zero row top edge = omega (arith, ap length (nothing_left row (omega arith) xs))
    rows_short (suc m) row top edge =
        let here = row-short row top (omega arith) in
        let there = rows_short m (row + 1) (omega arith) (omega arith) in
        omega (arith, suc-mul m (wide window * size))

    pub window-short : length (shown_window shown area window xs) ≤ wide window * high window * size
    window-short =
        let h = rows_short (high window) window.top (omega arith) (omega (arith, ok.down.runs)) in
        let e : wide window * high window * size ≡ high window * (wide window * size) = ap (λ n. n * size) (mul_comm (wide window) (high window)) ∙ mul_assoc (high window) (wide window) size in
        omega (arith, ap length (whole-window xs))
