-- How a walk goes on from box to box. Assumes nothing.
use Rattle.std.proofs.Common.{◌≡◌, ℕ, zero, suc, ◌+◌, ◌<◌, ◌≤◌, Bool, true, false, List, [], ◌∷◌, length, drop, Some, None, Ok, Err, Option, Result, sym, refl, ap, ◌∙◌, arith, length-drop}
use Rattle.boxes.proofs.Frames.{framed-within, judged-ok}
use Rattle.boxes.specs.Frame.{framed}
use Rattle.boxes.specs.Table.{same_place, entry_of, place_tests}
use Rattle.boxes.specs.Tests.{Test, first_failure, or_else, judged}
use Rattle.boxes.specs.declared.fault.Fault.{Fault}
use Rattle.boxes.specs.declared.frame.Frame.{Frame}
use Rattle.boxes.specs.declared.reason.Reason.{Reason}
use Rattle.boxes.specs.declared.table.Entry.{Entry}
use Rattle.boxes.specs.declared.table.Kind.{Kind}
use Rattle.boxes.specs.declared.table.Place.{Place}
use Rattle.boxes.specs.declared.table.Place.TheVariants as places
use Rattle.reader.specs.Walk.{Rules, then, located, tested, contents_of, listed, sized, framed_box, met, walked, superbox, end_tests}

pub then_same : {A B : Type 0} (r : Result A Fault) (f g : A → Result B Fault) → ((a : A) → r ≡ Ok a → f a ≡ g a) → then r f ≡ then r g
then_same (Ok a) f g h = h a refl
then_same (Err e) f g h = refl

pub then_ok : {A B : Type 0} (r : Result A Fault) (f : A → Result B Fault) (b : B) → then r f ≡ Ok b → (a : A) × (r ≡ Ok a) × (f a ≡ Ok b)
then_ok (Ok a) f b e = (a, refl, e)
then_ok (Err x) f b e = absurd cc

pub located-ok : {A : Type 0} (p : Place) (at : ℕ) (r : Result A Reason) (a : A) → located p at r ≡ Ok a → r ≡ Ok a
located-ok p at (Ok x) a e = let same : x ≡ a = cc in ap Ok same
located-ok p at (Err x) a e = absurd cc

-- a test that fails says the same whatever the value is
tested-refused : {A B : Type 0} (p : Place) (at : ℕ) (ts : List Test) (a : A) (b : B) (x : Fault) → tested p at ts a ≡ Err x → tested p at ts b ≡ Err x
tested-refused {A} {B} p at ts a b x = go (first_failure ts)
  where
    go : (o : Option Reason) → located p at (or_else o a) ≡ Err x → located p at (or_else o b) ≡ Err x
    go None e = absurd cc
    go (Some reason) e = let same : record { reason = reason; inside = p; offset = at } ≡ x = cc in ap Err same

module _ {S : Type 0} (r : Rules S) where
  -- a box of a line of the table that may not stand where it does
  pub listed-refused : (at : ℕ) (first : Bool) (bs : List ℕ) (s : S) (f : Frame) (o : Option Entry) (e : Entry) (p : Place) (n : ℕ) (m : Result (Unit {0}) Reason) (x : Fault) → Some e ≡ o → p ≡ r.place → n ≡ r.count s e.kind → m ≡ judged (place_tests p e n first) tt → located p at m ≡ Err x → listed r at first bs s f o ≡ Err x
  listed-refused at first bs s f o e p n m x is place count made bad =
      let there : tested {A = Unit {0}} p at (place_tests p e n first) tt ≡ Err x = ap (located p at) (sym made) ∙ bad in
      let here : tested {A = Unit {0}} r.place at (place_tests r.place e (r.count s e.kind) first) tt ≡ Err x = rw (sym place, sym count) there in
      ap (listed r at first bs s f) (sym is)
      ∙ ap (λ q. then q (λ t. r.taken t e.kind at (at + f.header) (contents_of f bs))) (tested-refused r.place at (place_tests r.place e (r.count s e.kind) first) tt s x here)

  -- a box whose header is granted, and that is refused where it stands
  pub met-refused : (at : ℕ) (first : Bool) (bs : List ℕ) (s : S) (top : Bool) (f : Frame) (x : Fault) → top ≡ same_place r.place places.File → framed top bs ≡ Ok f → listed r at first bs s f (entry_of f.code) ≡ Err x → met r at first bs s ≡ Err x
  met-refused at first bs s top f x is granted bad =
      ap (λ b. framed_box r at first bs s (framed b bs)) (sym is) ∙ ap (framed_box r at first bs s) granted ∙ ap (sized r f) bad

  sized-is : (f : Frame) (l : Result S Fault) (m : ℕ × S) → sized r f l ≡ Ok m → f.size ≡ m.0
  sized-is f (Ok s) m e = let p : ◌≡◌ {A = ℕ × S} (f.size, s) m = cc in ap (λ x. x.0) p
  sized-is f (Err x) m e = absurd cc

  framed-box-within : (at : ℕ) (first : Bool) (bs : List ℕ) (s : S) (top : Bool) (fr : Result Frame Reason) (m : ℕ × S) → framed top bs ≡ fr → framed_box r at first bs s fr ≡ Ok m → (0 < m.0) × (m.0 ≤ length bs)
  framed-box-within at first bs s top (Ok f) m is e =
      let w = framed-within top bs f is in
      let same = sized-is f (listed r at first bs s f (entry_of f.code)) m e in
      (omega arith, omega arith)
  framed-box-within at first bs s top (Err x) m is e = absurd cc

  pub met-within : (at : ℕ) (first : Bool) (bs : List ℕ) (s : S) (m : ℕ × S) → met r at first bs s ≡ Ok m → (0 < m.0) × (m.0 ≤ length bs)
  met-within at first bs s m e =
      framed-box-within at first bs s (same_place r.place places.File) (framed (same_place r.place places.File) bs) m refl e

  -- any bound on the number of boxes that is no less than the number of bytes does
  pub enough : (n m at : ℕ) (first : Bool) (bs : List ℕ) (s : S) → length bs ≤ n → length bs ≤ m → walked r n at first bs s ≡ walked r m at first bs s
  unfolding walked
  enough zero zero at first bs s h k = refl
  enough zero (suc m) at first [] s h k = refl
  enough zero (suc m) at first (b ∷ bs) s h k = absurd (omega arith)
  enough (suc n) zero at first [] s h k = refl
  enough (suc n) zero at first (b ∷ bs) s h k = absurd (omega arith)
  enough (suc n) (suc m) at first [] s h k = refl
  enough (suc n) (suc m) at first (b ∷ bs) s h k =
      then_same (met r at first (b ∷ bs) s) _ _
      (λ x e.
      let w = met-within at first (b ∷ bs) s x e in
      let l = length-drop x.0 (b ∷ bs) in
      enough n m (at + x.0) false (drop x.0 (b ∷ bs)) x.1 (omega arith) (omega arith))

  pub walk-empty : (at : ℕ) (first : Bool) (bs : List ℕ) (s : S) → length bs ≡ 0 → walked r (length bs) at first bs s ≡ Ok s
  unfolding walked
  walk-empty at first [] s h = refl
  walk-empty at first (b ∷ bs) s h = absurd (omega arith)

  -- one box, and then the rest
  pub walk_step : (at : ℕ) (first : Bool) (bs : List ℕ) (s : S) → 0 < length bs → walked r (length bs) at first bs s ≡ then (met r at first bs s) (λ m. walked r (length (drop m.0 bs)) (at + m.0) false (drop m.0 bs) m.1)
  unfolding walked
  walk_step at first [] s h = absurd (omega arith)
  walk_step at first (b ∷ bs) s h =
      then_same (met r at first (b ∷ bs) s) _ _
      (λ x e.
      let w = met-within at first (b ∷ bs) s x e in
      let l = length-drop x.0 (b ∷ bs) in
      enough (length bs) (length (drop x.0 (b ∷ bs))) (at + x.0) false (drop x.0 (b ∷ bs)) x.1 (omega arith) (omega arith))

  pub walk-on : (at : ℕ) (first : Bool) (bs : List ℕ) (s : S) (m : ℕ × S) → 0 < length bs → met r at first bs s ≡ Ok m → walked r (length bs) at first bs s ≡ walked r (length (drop m.0 bs)) (at + m.0) false (drop m.0 bs) m.1
  walk-on at first bs s m h e = walk_step at first bs s h ∙ ap (λ q. then q (λ m. walked r (length (drop m.0 bs)) (at + m.0) false (drop m.0 bs) m.1)) e

  pub walk-off : (at : ℕ) (first : Bool) (bs : List ℕ) (s : S) (x : Fault) → 0 < length bs → met r at first bs s ≡ Err x → walked r (length bs) at first bs s ≡ Err x
  walk-off at first bs s x h e = walk_step at first bs s h ∙ ap (λ q. then q (λ m. walked r (length (drop m.0 bs)) (at + m.0) false (drop m.0 bs) m.1)) e

-- what each box that is taken leaves as it is, a whole superbox leaves as it is
module _ {S A : Type 0} (r : Rules S) (f : S → A) (keeps : (s : S) (k : Kind) (at body : ℕ) (bs : List ℕ) (t : S) → r.taken s k at body bs ≡ Ok t → f t ≡ f s) where
  listed-keeps : (at : ℕ) (first : Bool) (bs : List ℕ) (s : S) (fr : Frame) (o : Option Entry) (t : S) → listed r at first bs s fr o ≡ Ok t → f t ≡ f s
  listed-keeps at first bs s fr None t e = let same : s ≡ t = cc in ap f (sym same)
  listed-keeps at first bs s fr (Some e) t is =
      let p = then_ok (tested r.place at (place_tests r.place e (r.count s e.kind) first) s) _ t is in
      let j = judged-ok (place_tests r.place e (r.count s e.kind) first) s p.0 (located-ok r.place at _ p.0 p.1) in
      keeps p.0 e.kind at (at + fr.header) (contents_of fr bs) t p.2 ∙ ap f (sym j.1)

  framed-keeps : (at : ℕ) (first : Bool) (bs : List ℕ) (s : S) (fr : Result Frame Reason) (m : ℕ × S) → framed_box r at first bs s fr ≡ Ok m → f m.1 ≡ f s
  framed-keeps at first bs s (Ok fr) m e = go (listed r at first bs s fr (entry_of fr.code)) refl e
    where
      go : (l : Result S Fault) → listed r at first bs s fr (entry_of fr.code) ≡ l → sized r fr l ≡ Ok m → f m.1 ≡ f s
      go (Ok t) is q = let p : ◌≡◌ {A = ℕ × S} (fr.size, t) m = cc in ap (λ x. f x.1) (sym p) ∙ listed-keeps at first bs s fr (entry_of fr.code) t is
      go (Err x) is q = absurd cc
  framed-keeps at first bs s (Err x) m e = absurd cc

  walked-keeps : (n at : ℕ) (first : Bool) (bs : List ℕ) (s t : S) → walked r n at first bs s ≡ Ok t → f t ≡ f s
  unfolding walked
  walked-keeps zero at first bs s t e = let same : s ≡ t = cc in ap f (sym same)
  walked-keeps (suc n) at first [] s t e = let same : s ≡ t = cc in ap f (sym same)
  walked-keeps (suc n) at first (b ∷ bs) s t e =
      let m = then_ok (met r at first (b ∷ bs) s) _ t e in
      walked-keeps n (at + m.0.0) false (drop m.0.0 (b ∷ bs)) m.0.1 t m.2 ∙ framed-keeps at first (b ∷ bs) s (framed (same_place r.place places.File) (b ∷ bs)) m.0 m.1

  pub superbox-keeps : (at body : ℕ) (bs : List ℕ) (s t : S) → superbox r at body bs s ≡ Ok t → f t ≡ f s
  superbox-keeps at body bs s t e =
      let w = then_ok (walked r (length bs) body true bs s) _ t e in
      let j = judged-ok (end_tests r w.0) w.0 t (located-ok r.place at _ t w.2) in
      ap f (sym j.1) ∙ walked-keeps (length bs) body true bs s w.0 w.1
