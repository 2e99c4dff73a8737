-- Bytes that a cursor puts into its buffer, and others right after them. Assumes nothing.
use Rattle.std.proofs.Common.{◌≡◌, ℕ, ◌+◌, ◌<◌, ◌≤◌, List, [], ◌++◌, length, get_or, take, drop, sym, refl, ap, ◌∙◌, ap₂, append_assoc, add-zero, arith, length-append, drop-drop}
use borrow.Rule.Slice.PartMut.{put_mid}
use Rattle.std.proofs.lemmas.Grind.{common_steps}
use Rattle.std.proofs.lemmas.List.{drop_at, take_more, flat_map_more}
use Rattle.std.proofs.lemmas.List.Folds.{length-flat_map-take}
use Rattle.std.specs.List.{flat_map}
use Rattle.writer.specs.Puts.{put, HasRoom, Puts}
use Rattle.writer.specs.declared.buffer.Cursor.{Cursor}

-- what a copy into the part from `at` on leaves in the buffer
pub copied : (buffer bytes ys : List ℕ) (at k : ℕ) → ys ≡ bytes → k ≡ length bytes → put_mid at k buffer ys ≡ put buffer at bytes
unfolding put
copied buffer bytes ys at k same long = rw (same, long, drop-drop)

-- nothing put changes nothing
put-none : (buffer : List ℕ) (at : ℕ) → put buffer at [] ≡ buffer
unfolding put
put-none buffer at = grind (arith, common_steps)

-- the buffer keeps its length
put-length : (buffer bytes : List ℕ) (at : ℕ) → at + length bytes ≤ length buffer → length (put buffer at bytes) ≡ length buffer
unfolding put
put-length buffer bytes at fits = grind (arith, common_steps)

-- bytes put at the front stand there
put_front : (buffer bytes : List ℕ) (n : ℕ) → n ≡ length bytes → take n (put buffer 0 bytes) ≡ bytes
unfolding put
put_front buffer bytes n is = grind (arith, common_steps)

-- the same of a buffer that they were put into, and that had room
pub front_written : (out buffer bytes : List ℕ) (n : ℕ) → out ≡ put buffer 0 bytes → n ≡ length bytes → n ≤ length buffer → (n ≤ length out) × (take n out ≡ bytes)
front_written out buffer bytes n is long fits =
    let l : length out ≡ length buffer = ap length is ∙ put-length buffer bytes 0 (omega arith) in
    (omega arith, ap (take n) is ∙ put_front buffer bytes n long)

-- bytes put right after others are put with them
put-put : (buffer xs ys : List ℕ) (at : ℕ) → at + length xs ≤ length buffer → put (put buffer at xs) (at + length xs) ys ≡ put buffer at (xs ++ ys)
unfolding put
put-put buffer xs ys at fits =
    let front = take at buffer ++ xs in
    let rest = drop (at + length xs) buffer in
    let long : length front ≡ at + length xs = grind (arith, common_steps) in
    let ends : (at + length xs) + length ys ≡ at + length (xs ++ ys) = grind (arith, common_steps) in
    let whole : put buffer at xs ≡ front ++ rest = sym (append_assoc (take at buffer) xs rest) in
    let before : take (at + length xs) (put buffer at xs) ≡ front = grind (arith, common_steps) in
    let after : drop ((at + length xs) + length ys) (put buffer at xs) ≡ drop (at + length (xs ++ ys)) buffer =
    sym (drop-drop (length ys) (at + length xs) (put buffer at xs))
    ∙ ap (λ (l : List ℕ). drop (length ys) (drop (at + length xs) l)) whole
    ∙ ap (drop (length ys)) (drop_at front rest (at + length xs) long)
    ∙ drop-drop (length ys) (at + length xs) buffer
    ∙ ap (λ n. drop n buffer) ends in
    ap₂ (λ (f d : List ℕ). f ++ (ys ++ d)) before after ∙ simp append_assoc

-- a cursor that has put nothing yet
pub puts_none : (a : Cursor) → Puts a a []
puts_none a = record { same_buffer = refl; at = sym (add-zero a.at); buffer = sym (put-none a.out.now a.at) }

-- a cursor that puts some bytes and then others: there is room for both, and both are put
module _ (a : Cursor) (xs ys : List ℕ) (room : HasRoom a (xs ++ ys)) where
  pub room_first : HasRoom a xs
  room_first = let l = length-append xs ys in omega arith

  module _ (b : Cursor) (first : Puts a b xs) where
    pub room_next : HasRoom b ys
    room_next =
        let l = length-append xs ys in
        let k : length b.out.now ≡ length a.out.now = ap length first.buffer ∙ put-length a.out.now xs a.at (omega arith) in
        omega (arith, first.at)

    pub puts_next : (c : Cursor) → Puts b c ys → Puts a c (xs ++ ys)
    puts_next c then =
        let l = length-append xs ys in
        record {
          same_buffer = then.same_buffer ∙ first.same_buffer;
          at = omega (arith, first.at, then.at);
          buffer =
              then.buffer ∙ ap₂ (λ out at. put out at ys) first.buffer first.at ∙ put-put a.out.now xs ys a.at (omega arith);
        }

-- the same where the others are the bytes of the next element of a list
module _ {X : Type 0} (f : X → List ℕ) (xs : List X) (i : ℕ) (d : X) (h : i < length xs) where
  joined-more : flat_map f (take (i + 1) xs) ≡ flat_map f (take i xs) ++ f (get_or xs i d)
  joined-more = ap (flat_map f) (take_more xs i d h) ∙ sym (flat_map_more f [] (take i xs) (get_or xs i d))

  module _ (a b : Cursor) (room : HasRoom a (flat_map f xs)) (so-far : Puts a b (flat_map f (take i xs))) where
    room-both : HasRoom a (flat_map f (take i xs) ++ f (get_or xs i d))
    room-both =
        let l = length-append (flat_map f (take i xs)) (f (get_or xs i d)) in
        let most = length-flat_map-take f xs i d h in
        omega arith

    pub room_more : HasRoom b (f (get_or xs i d))
    room_more = room_next a (flat_map f (take i xs)) (f (get_or xs i d)) room-both b so-far

    pub puts_more : (c : Cursor) → Puts b c (f (get_or xs i d)) → Puts a c (flat_map f (take (i + 1) xs))
    puts_more c then = rw joined-more (puts_next a (flat_map f (take i xs)) (f (get_or xs i d)) room-both b so-far c then)
