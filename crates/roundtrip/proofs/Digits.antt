-- A number that is written in bytes and read again. Assumes nothing.
use Rattle.std.proofs.Common.{◌≡◌, ℕ, zero, suc, ◌+◌, ◌*◌, ◌/◌, ◌%◌, ◌^◌, List, [], ◌∷◌, ◌++◌, length, get_or, ℤ, sym, refl, ap, ◌∙◌, ap₂, append_assoc, mod-eq_of_lt, mul_comm, pow-suc, div-one, lit<, w8, SFits, to_z, of_z}
use native.Mathlib.Nat.{mod-one, one-le-pow}
use lib.Arith.{mod-mul}
use mir.Facts.{Fits-of_z}
use Rattle.std.proofs.lemmas.List.{get_or_at, length_push}
use Rattle.std.proofs.lemmas.Int.{to_z-of_z}
use Rattle.boxes.specs.Field.{field, digits}
use Rattle.roundtrip.specs.Fits.{InBytes}

-- the w bytes of a number, read where they stand, are the number's remainder by what w bytes can hold
digits-at : (w n : ℕ) (front : List ℕ) (at : ℕ) → length front ≡ at → field w at (front ++ digits w n) ≡ n % 256 ^ w
digits-at zero n front at is = sym (mod-one n)
digits-at (suc w) n front at is =
    let d = n / 256 ^ w % 256 in
    let here : get_or (front ++ (d ∷ digits w n)) at 0 ≡ d = get_or_at front d (digits w n) 0 at is in
    let front' = front ++ (d ∷ []) in
    let next : length front' ≡ at + 1 = length_push front d ∙ ap (λ k. k + 1) is in
    let later : field w (at + 1) (front ++ (d ∷ digits w n)) ≡ n % 256 ^ w = ap (field w (at + 1)) (sym (append_assoc front (d ∷ []) (digits w n))) ∙ digits-at w n front' (at + 1) next in
    ap₂ (λ a b. a * 256 ^ w + b) here later
    ∙ sym (ap (λ k. n % k) (pow-suc 256 w ∙ mul_comm (256 ^ w) 256) ∙ mod-mul n (lit< tt) (one-le-pow w 256 (lit< tt)))

-- a number that fits is read again as it was written
pub field-digits : (w n : ℕ) → InBytes w n → field w 0 (digits w n) ≡ n
field-digits w n fits = digits-at w n [] 0 refl ∙ mod-eq_of_lt fits

-- and so is a signed byte
pub signed_digits : (z : ℤ) → SFits w8 z → to_z w8 (of_z w8 z / 1 % 256) ≡ z
signed_digits z fits = ap (to_z w8) (ap (λ n. n % 256) (div-one (of_z w8 z)) ∙ mod-eq_of_lt (Fits-of_z fits).fits) ∙ to_z-of_z w8 z fits
