-- Bytes that are put into a buffer from a place on.
-- Assumes nothing.
use Rattle.std.proofs.Common.{◌≡◌, ℕ, ◌+◌, ◌≤◌, List, [], ◌++◌, length, take, drop, Ok, sym, ap, ◌∙◌, ap₂, append_assoc, add-zero, add_assoc, arith, length-append, length-drop, take-append-drop, drop-drop}
use borrow.Rule.Slice.PartMut.{put_mid}
use Rattle.std.proofs.lemmas.List.{take_at, drop_at, length-take-le}
use Rattle.std.proofs.lemmas.Bool.{le-leb, cond-true}
use Rattle.raster.specs.Shown.{put, room, put_answer, put_buffer}

-- where there is room, the bytes are put
pub put-answer : (buffer bytes : List ℕ) (at : ℕ) → at + length bytes ≤ length buffer → Ok (at + length bytes) ≡ put_answer buffer at bytes
put-answer buffer bytes at fits = sym (cond-true (room buffer at bytes) _ _ (le-leb _ _ fits))

pub put-buffer : (buffer bytes : List ℕ) (at : ℕ) → at + length bytes ≤ length buffer → put buffer at bytes ≡ put_buffer buffer at bytes
put-buffer buffer bytes at fits = sym (cond-true (room buffer at bytes) _ _ (le-leb _ _ fits))

-- what a copy into the part from `at` on leaves in the buffer
pub copied : (buffer bytes ys : List ℕ) (at k : ℕ) → ys ≡ bytes → k ≡ length bytes → put_mid at k buffer ys ≡ put buffer at bytes
copied buffer bytes ys at k same long = rw (same, long, drop-drop)

-- nothing put changes nothing
pub put-none : (buffer : List ℕ) (at : ℕ) → put buffer at [] ≡ buffer
put-none buffer at = rw add-zero (take-append-drop at buffer)

-- the buffer keeps its length
pub put-length : (buffer bytes : List ℕ) (at : ℕ) → at + length bytes ≤ length buffer → length (put buffer at bytes) ≡ length buffer
put-length buffer bytes at fits =
    let front : length (take at buffer) ≡ at = length-take-le at buffer (omega arith) in
    simp (length-append, length-drop) (omega arith)

-- bytes put right after others are put with them
pub put-put : (buffer xs ys : List ℕ) (at : ℕ) → at + length xs ≤ length buffer → put (put buffer at xs) (at + length xs) ys ≡ put buffer at (xs ++ ys)
put-put buffer xs ys at fits =
    let front = take at buffer ++ xs in
    let rest = drop (at + length xs) buffer in
    let long : length front ≡ at + length xs = length-append (take at buffer) xs ∙ ap (λ n. n + length xs) (length-take-le at buffer (omega arith)) in
    let whole : put buffer at xs ≡ front ++ rest = sym (append_assoc (take at buffer) xs rest) in
    let before : take (at + length xs) (put buffer at xs) ≡ front = ap (take (at + length xs)) whole ∙ take_at front rest (at + length xs) long in
    let ends : (at + length xs) + length ys ≡ at + length (xs ++ ys) = add_assoc at (length xs) (length ys) ∙ ap (λ n. at + n) (sym (length-append xs ys)) in
    let after : drop ((at + length xs) + length ys) (put buffer at xs) ≡ drop (at + length (xs ++ ys)) buffer =
    sym (drop-drop (length ys) (at + length xs) (put buffer at xs))
    ∙ ap (λ (l : List ℕ). drop (length ys) (drop (at + length xs) l)) whole
    ∙ ap (drop (length ys)) (drop_at front rest (at + length xs) long)
    ∙ drop-drop (length ys) (at + length xs) buffer
    ∙ ap (λ n. drop n buffer) ends in
    ap₂ (λ (f d : List ℕ). f ++ (ys ++ d)) before after ∙ simp append_assoc

-- the same where the second bytes are put if there is room
pub put_next : (buffer xs ys : List ℕ) (at : ℕ) → at + (length xs + length ys) ≤ length buffer → put_buffer (put buffer at xs) (at + length xs) ys ≡ put buffer at (xs ++ ys)
put_next buffer xs ys at fits =
    let long : length (put buffer at xs) ≡ length buffer = put-length buffer xs at (omega arith) in
    sym (put-buffer (put buffer at xs) ys (at + length xs) (omega arith)) ∙ put-put buffer xs ys at (omega arith)
