-- A skipped box after the end of a file. Assumes nothing.
use Rattle.std.proofs.Common.{◌≡◌, ℕ, zero, suc, ◌+◌, ◌-◌, ◌<◌, ◌≤◌, Bool, true, false, not, eqb, List, [], ◌∷◌, ◌++◌, length, take, drop, Some, None, Ok, Err, Option, Result, sym, refl, ap, ◌∙◌, arith, length-drop}
use Rattle.std.proofs.lemmas.List.{drop_all, take-append-le, drop-append-le}
use Rattle.std.proofs.lemmas.Bool.{and_parts, not-true}
use Rattle.boxes.proofs.Frames.{framed-append, framed-within, judged-ok}
use Rattle.boxes.specs.Frame.{framed, frame_tests, frame_made, type_code, header_size, short_length, box_size}
use Rattle.boxes.specs.Table.{entry_of}
use Rattle.boxes.specs.declared.fault.Fault.{Fault}
use Rattle.boxes.specs.declared.frame.Frame.{Frame}
use Rattle.boxes.specs.declared.reason.Reason.{Reason}
use Rattle.boxes.specs.declared.table.Entry.{Entry}
use Rattle.reader.proofs.Walks.{then_ok, met-within, walk-empty, walk-on}
use Rattle.reader.specs.Laws.{say_their_length, SkippedBox, SkippedBoxesChangeNothing}
use Rattle.reader.specs.Pages.{FileState, file_rules, file_state}
use Rattle.reader.specs.Reading.{file_page, page_at}
use Rattle.reader.specs.Walk.{Rules, contents_of, framed_box, listed, met, sized, walked}

-- a box's contents are the same in longer bytes
contents_append : (f : Frame) (xs ys : List ℕ) → f.header ≤ f.size → f.size ≤ length xs → contents_of f (xs ++ ys) ≡ contents_of f xs
contents_append f xs ys h k =
    let head : f.header ≤ length xs = omega arith in
    let room : f.size - f.header ≤ length (drop f.header xs) = rw (length-drop f.header xs) (omega arith) in
    ap (take (f.size - f.header)) (drop-append-le f.header xs ys head) ∙ take-append-le (f.size - f.header) (drop f.header xs) ys room

-- what a header says of the size
framed-size : (top : Bool) (xs : List ℕ) (f : Frame) → framed top xs ≡ Ok f → box_size xs ≡ f.size
framed-size top xs f e = ap (λ g. g.size) (judged-ok (frame_tests top xs) (frame_made (type_code xs) (header_size xs) (box_size xs)) f e).1

module _ {S : Type 0} (r : Rules S) where
  listed-append : (at : ℕ) (first : Bool) (xs ys : List ℕ) (s : S) (f : Frame) (e : Option Entry) → contents_of f (xs ++ ys) ≡ contents_of f xs → listed r at first (xs ++ ys) s f e ≡ listed r at first xs s f e
  listed-append at first xs ys s f None same = refl
  listed-append at first xs ys s f (Some e) same = rw same refl

  framed_box-append : (at : ℕ) (first : Bool) (xs ys : List ℕ) (s : S) (top : Bool) (fr : Result Frame Reason) (m : ℕ × S) → framed top xs ≡ fr → eqb (short_length xs) 0 ≡ false → framed_box r at first xs s fr ≡ Ok m → (framed_box r at first (xs ++ ys) s (framed top (xs ++ ys)) ≡ Ok m) × (box_size xs ≡ m.0)
  framed_box-append at first xs ys s top (Ok f) m is says e =
      let w = framed-within top xs f is in
      let same = listed-append at first xs ys s f (entry_of f.code) (contents_append f xs ys w.1 w.2) in (
        ap (framed_box r at first (xs ++ ys) s) (framed-append top xs ys f is says) ∙ ap (sized r f) same ∙ e,
        framed-size top xs f is ∙ sized-size f (listed r at first xs s f (entry_of f.code)) m e,
      )
    where
      sized-size : (f : Frame) (l : Result S Fault) (m : ℕ × S) → sized r f l ≡ Ok m → f.size ≡ m.0
      sized-size f (Ok t) m q = let p : ◌≡◌ {A = ℕ × S} (f.size, t) m = cc in ap (λ x. x.0) p
      sized-size f (Err x) m q = absurd cc
  framed_box-append at first xs ys s top (Err x) m is says e = absurd cc

-- a skipped box alone leaves the state as it is
skip_alone : (at : ℕ) (first : Bool) (ys : List ℕ) (s : FileState) → SkippedBox ys → walked file_rules (length ys) at first ys s ≡ Ok s
skip_alone at first ys s k =
    let f = k.frame in
    let w = framed-within true ys f k.granted in
    let some : 0 < length ys = omega (arith, k.whole) in
    let one : met file_rules at first ys s ≡ Ok (f.size, s) =
    ap (framed_box file_rules at first ys s) k.granted ∙ ap (λ o. sized file_rules f (listed file_rules at first ys s f o)) k.other in
    let past : length ys ≤ f.size = omega (arith, k.whole) in
    let empty : length (drop f.size ys) ≡ 0 = ap length (drop_all f.size ys past) in
    walk-on file_rules at first ys s (f.size, s) some one ∙ walk-empty file_rules (at + f.size) false (drop f.size ys) s empty

walk_append : (n at : ℕ) (first : Bool) (xs ys : List ℕ) (s t : FileState) → walked file_rules n at first xs s ≡ Ok t → length xs ≤ n → say_their_length n xs ≡ true → SkippedBox ys → walked file_rules (length (xs ++ ys)) at first (xs ++ ys) s ≡ Ok t
unfolding walked say_their_length
walk_append zero at first [] ys s t e h c k = skip_alone at first ys s k ∙ e
walk_append zero at first (x ∷ xs) ys s t e h c k = absurd (omega arith)
walk_append (suc n) at first [] ys s t e h c k = skip_alone at first ys s k ∙ e
walk_append (suc n) at first (x ∷ xs) ys s t e h c k =
    let m = then_ok (met file_rules at first (x ∷ xs) s) _ t e in
    let closed = and_parts (not (eqb (short_length (x ∷ xs)) 0)) _ c in
    let says = not-true _ closed.0 in
    let again = framed_box-append file_rules at first (x ∷ xs) ys s true (framed true (x ∷ xs)) m.0 refl says m.1 in
    let w = met-within file_rules at first (x ∷ xs) s m.0 m.1 in
    let rest = drop-append-le m.0.0 (x ∷ xs) ys w.1 in
    let fewer = length-drop m.0.0 (x ∷ xs) in
    let later = ap (λ j. say_their_length n (drop j (x ∷ xs))) (sym again.1) ∙ closed.1 in
    walk-on file_rules at first ((x ∷ xs) ++ ys) s m.0 (omega arith) again.0
    ∙ ap (λ l. walked file_rules (length l) (at + m.0.0) false l m.0.1) rest
    ∙ walk_append n (at + m.0.0) false (drop m.0.0 (x ∷ xs)) ys m.0.1 t m.2 (omega arith) later k

pub skipped_boxes_change_nothing : SkippedBoxesChangeNothing
skipped_boxes_change_nothing file more number sound closed k = go (walked file_rules (length file) 0 true file (file_state (Some number) None)) refl
  where
    go : (w : Result FileState Fault) → walked file_rules (length file) 0 true file (file_state (Some number) None) ≡ w → page_at number (file ++ more) ≡ page_at number file
    go (Ok t) e = ap file_page (walk_append (length file) 0 true file more (file_state (Some number) None) t e (omega arith) closed k ∙ sym e)
    go (Err f) e = absurd (sound f (ap file_page e))
