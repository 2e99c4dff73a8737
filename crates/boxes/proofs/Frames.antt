-- What a granted header says of the box. Assumes nothing.
use Rattle.std.proofs.Common.{◌≡◌, ℕ, zero, suc, ◌+◌, ◌-◌, ◌*◌, ◌^◌, ◌<◌, ◌≤◌, Bool, true, false, cond, eqb, List, [], ◌∷◌, ◌++◌, length, get_or, take, drop, IfOk, Ok, Err, Result, sym, refl, ap, ◌∙◌, arith, lit≤, length-append, length-drop, get_or-drop, take_all, ltb-false, le-ltb}
use Rattle.std.proofs.lemmas.List.{get_or_append_left}
use Rattle.boxes.specs.Field.{field}
use Rattle.boxes.specs.Frame.{framed, framed_by, long_length, frame_tests, frame_made, type_code, short_length, header_size, box_size, Within}
use Rattle.boxes.specs.Tests.{Test, unless, first_failure, or_else, judged}
use Rattle.boxes.specs.declared.frame.Frame.{Frame}
use Rattle.boxes.specs.declared.reason.Reason.{Reason}

-- every test passes
abbrev pub Pass : List Test → Type 0
Pass [] = Unit {0}
Pass (t ∷ ts) = (t.0 ≡ false) × Pass ts

pub judged-ok : {A : Type 0} (ts : List Test) (x y : A) → judged ts x ≡ Ok y → Pass ts × (x ≡ y)
judged-ok [] x y e = (tt, cc)
judged-ok {A} (t ∷ ts) x y e = go (judged-ok ts x y) t.0 refl
  where
    go : (judged ts x ≡ Ok y → Pass ts × (x ≡ y)) → (b : Bool) → t.0 ≡ b → Pass (t ∷ ts) × (x ≡ y)
    go later true is = let e' = rw is at e in absurd cc
    go later false is = let e' = rw is at e in let rest = later e' in ((is, rest.0), rest.1)

at_least_eight : (b : Bool) → 8 ≤ cond b 16 8
at_least_eight true = lit≤ tt
at_least_eight false = lit≤ tt

-- a granted box has its header, and lies within what is left of its container
pub framed-within : (top : Bool) (bs : List ℕ) (f : Frame) → framed top bs ≡ Ok f → Within f (length bs)
framed-within top bs f e =
    let h = judged-ok (frame_tests top bs) (frame_made (type_code bs) (header_size bs) (box_size bs)) f e in
    let inside = ltb-false (length bs) (box_size bs) h.0.1.1.1.0 in
    let room = ltb-false (box_size bs) (header_size bs) h.0.1.1.1.1.0 in
    rw (sym h.1) (at_least_eight (eqb (short_length bs) 1), room, inside)

pub framed-made : (top : Bool) (bs : List ℕ) (r : Result Frame Reason) → r ≡ framed top bs → IfOk r (λ f. Within f (length bs))
framed-made top bs (Ok f) is = framed-within top bs f (sym is)
framed-made top bs (Err reason) is = tt

pub judged-pass : {A : Type 0} (ts : List Test) (x : A) → Pass ts → judged ts x ≡ Ok x
judged-pass [] x p = refl
judged-pass (t ∷ ts) x p = ap (λ b. or_else (unless b t.1 (first_failure ts)) x) p.0 ∙ judged-pass ts x p.1

-- a number at a place is the same in longer bytes
pub field-append : (w at : ℕ) (xs ys : List ℕ) → at + w ≤ length xs → field w at (xs ++ ys) ≡ field w at xs
field-append zero at xs ys h = refl
field-append (suc w) at xs ys h =
    let here : at < length xs = omega arith in
    let more : at + 1 + w ≤ length xs = omega arith in
    ap (λ b. b * 256 ^ w + field w (at + 1) (xs ++ ys)) (get_or_append_left xs ys 0 at here) ∙ ap (λ n. get_or xs at 0 * 256 ^ w + n) (field-append w (at + 1) xs ys more)

-- the size of a box that says its length is the same in longer bytes
box_size-append : (b : Bool) (xs ys : List ℕ) → eqb (short_length xs) 1 ≡ b → eqb (short_length xs) 0 ≡ false → short_length (xs ++ ys) ≡ short_length xs → cond b 16 8 ≤ length xs → box_size (xs ++ ys) ≡ box_size xs
box_size-append true xs ys is says same room =
    let long = field-append 8 8 xs ys room in
    rw (same, says, is) long
box_size-append false xs ys is says same room = rw (same, says, is) refl

-- a box that says its length is the same box in longer bytes
pub framed-append : (top : Bool) (xs ys : List ℕ) (f : Frame) → framed top xs ≡ Ok f → eqb (short_length xs) 0 ≡ false → framed top (xs ++ ys) ≡ Ok f
framed-append top xs ys f e says =
    let h = judged-ok (frame_tests top xs) (frame_made (type_code xs) (header_size xs) (box_size xs)) f e in
    let eight = ltb-false (length xs) 8 h.0.0 in
    let room = ltb-false (length xs) (header_size xs) h.0.1.0 in
    let inside = ltb-false (length xs) (box_size xs) h.0.1.1.1.0 in
    let longer = length-append xs ys in
    let four : 0 + 4 ≤ length xs = omega arith in
    let later : 4 + 4 ≤ length xs = omega arith in
    let short = field-append 4 0 xs ys four in
    let code = field-append 4 4 xs ys later in
    let header : header_size (xs ++ ys) ≡ header_size xs = ap (λ l. cond (eqb l 1) 16 8) short in
    let size = box_size-append (eqb (short_length xs) 1) xs ys refl says short room in
    let passes : Pass (frame_tests top (xs ++ ys)) = (
      le-ltb (length (xs ++ ys)) 8 (omega arith),
      (
        rw header (le-ltb (length (xs ++ ys)) (header_size xs) (omega arith)),
        (
          rw (short, says) refl,
          (rw size (le-ltb (length (xs ++ ys)) (box_size xs) (omega arith)), (rw (size, header) h.0.1.1.1.1.0, tt)),
        ),
      ),
    ) in
    judged-pass (frame_tests top (xs ++ ys)) (frame_made (type_code (xs ++ ys)) (header_size (xs ++ ys)) (box_size (xs ++ ys))) passes
    ∙ ap Ok ((λ i. frame_made (code i) (header i) (size i)) ∙ h.1)

-- a number at a place of what follows some bytes is the number at the place after them
field-drop : (w at n : ℕ) (bs : List ℕ) → field w at (drop n bs) ≡ field w (n + at) bs
field-drop zero at n bs = refl
field-drop (suc w) at n bs =
    let next : n + (at + 1) ≡ n + at + 1 = omega arith in
    ap (λ b. b * 256 ^ w + field w (at + 1) (drop n bs)) (get_or-drop n bs at 0)
    ∙ ap (λ m. get_or bs (n + at) 0 * 256 ^ w + m) (field-drop w (at + 1) n bs ∙ ap (λ k. field w k bs) next)

-- what is left of a container is eight bytes and the rest: the answer is by the two numbers of the eight and by the rest
pub framed-rest : (top : Bool) (code short : ℕ) (bs : List ℕ) → 8 ≤ length bs → code ≡ type_code bs → short ≡ short_length bs →
    framed_by top code short (field 8 0 (take (length bs - 8) (drop 8 bs))) (8 + length (take (length bs - 8) (drop 8 bs))) ≡ framed top bs
framed-rest top code short bs eight c s =
    let n = length-drop 8 bs in
    let is : take (length bs - 8) (drop 8 bs) ≡ drop 8 bs = take_all (length bs - 8) (drop 8 bs) (omega arith) in
    let long : field 8 0 (take (length bs - 8) (drop 8 bs)) ≡ long_length bs = ap (field 8 0) is ∙ field-drop 8 0 8 bs in
    let left : 8 + length (take (length bs - 8) (drop 8 bs)) ≡ length bs = omega (arith, ap length is) in
    λ i. framed_by top (c i) (s i) (long i) (left i)
