-- What stands in the part of an array of rows that is in use. Assumes nothing.
use Rattle.std.proofs.Common.{◌≡◌, ℕ, ◌<◌, ◌≤◌, List, length, get_or, take, Some, None, sym, ap, ◌∙◌, arith}
use Rattle.std.specs.List.{slice_get}
use Rattle.std.proofs.lemmas.List.{length-take-le, get_or-take}
use Rattle.std.proofs.lemmas.Option.{slice_get-get_or, slice_get_past}
use Rattle.plan.specs.Page.{page_of}
use Rattle.plan.specs.declared.lawful.Plan.{Plan}

module _ {X : Type 0} (xs : List X) (n : ℕ) (most : n ≤ length xs) where
  pub length-used : n ≡ length (take n xs)
  length-used = sym (length-take-le n xs most)

  pub nth-used : (k : ℕ) (d : X) → k < n → Some (get_or xs k d) ≡ slice_get (take n xs) k
  nth-used k d h =
      let e = length-used in
      let l : k < length (take n xs) = omega arith in
      ap Some (sym (get_or-take n xs k d h)) ∙ sym (slice_get-get_or (take n xs) k d l)

  pub nth-unused : (k : ℕ) → n ≤ k → None ≡ slice_get (take n xs) k
  nth-unused k h =
      let e = length-used in
      let l : length (take n xs) ≤ k = omega arith in
      sym (slice_get_past (take n xs) k l)

-- how many rows a plan has
pub count-rows : (p : Plan) → p.count ≡ length (page_of p).rows
count-rows p = length-used p.rows p.count (omega (arith, p.few, p.places))
