-- The bytes at a place, by each of them. Assumes nothing.
use Rattle.std.proofs.Common.{◌≡◌, ℕ, zero, suc, ◌+◌, ◌-◌, ◌<◌, ◌≤◌, List, [], ◌∷◌, length, get_or, take, drop, sym, refl, ap, ◌∙◌, add-zero, arith, length-take, get_or-drop}
use Rattle.std.proofs.lemmas.List.{get_or-take}
use Rattle.std.specs.List.{slice_range}
use Rattle.boxes.specs.Field.{part}

pub part-same : (n at : ℕ) (bs ys : List ℕ) → length ys ≡ n → ((k : ℕ) → k < n → get_or ys k 0 ≡ get_or bs (at + k) 0) → ys ≡ part n at bs
part-same zero at bs [] h f = refl
part-same zero at bs (y ∷ ys) h f = absurd (omega arith)
part-same (suc n) at bs [] h f = absurd (omega arith)
part-same (suc n) at bs (y ∷ ys) h f =
    let first : y ≡ get_or bs at 0 = f 0 (omega arith) ∙ ap (λ i. get_or bs i 0) (add-zero at) in
    let next : (k : ℕ) → at + 1 + k ≡ at + suc k = λ k. omega arith in
    let rest = part-same n (at + 1) bs ys (omega arith) (λ k l. f (suc k) (omega arith) ∙ ap (λ i. get_or bs i 0) (sym (next k))) in
    λ i. first i ∷ rest i

-- the first bytes of those from a place up to another
pub part-take-to : (n at end : ℕ) (bs rest : List ℕ) → n ≤ length rest → rest ≡ slice_range bs at end → take n rest ≡ part n at bs
part-take-to n at end bs rest h e =
    let l = length-take n rest in
    let all : length rest ≡ length (take (end - at) (drop at bs)) = ap length e in
    let most = length-take (end - at) (drop at bs) in
    part-same n at bs (take n rest) (omega arith) (λ k lt. get_or-take n rest k 0 lt ∙ ap (λ r. get_or r k 0) e ∙ get_or-take (end - at) (drop at bs) k 0 (omega arith) ∙ get_or-drop at bs k 0)

-- the first bytes of all those from a place on
pub part-take : (n at : ℕ) (bs rest : List ℕ) → n ≤ length rest → rest ≡ slice_range bs at (length bs) → take n rest ≡ part n at bs
part-take n at bs = part-take-to n at (length bs) bs
