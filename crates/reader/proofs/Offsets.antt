-- Where a fault's offset lies. Assumes nothing.
use Rattle.std.proofs.Common.{◌≡◌, ℕ, zero, suc, ◌+◌, ◌-◌, ◌<◌, ◌≤◌, Bool, true, false, cond, List, [], ◌∷◌, length, drop, Some, None, Ok, Err, Option, Result, refl, arith, length-drop, length-take}
use Rattle.boxes.proofs.Frames.{framed-within}
use Rattle.boxes.specs.Frame.{framed, Within}
use Rattle.boxes.specs.Table.{same_place, entry_of, place_tests}
use Rattle.boxes.specs.Tests.{judged}
use Rattle.boxes.specs.declared.fault.Fault.{Fault}
use Rattle.boxes.specs.declared.frame.Frame.{Frame}
use Rattle.boxes.specs.declared.reason.Reason.{Reason}
use Rattle.boxes.specs.declared.table.Entry.{Entry}
use Rattle.boxes.specs.declared.table.Kind.{Kind}
use Rattle.boxes.specs.declared.table.Place.{Place}
use Rattle.boxes.specs.declared.table.Place.TheVariants as places
use Rattle.reader.proofs.Walks.{met-within}
use Rattle.reader.specs.Walk.{Rules, then, located, tested, contents_of, listed, sized, framed_box, met, walked, superbox, end_tests}

-- a fault lies from one offset up to another
abbrev pub Between : ℕ → ℕ → Fault → Type 0
Between from to f = (from ≤ f.offset) × (f.offset < to)

-- every fault of an answer lies there
abbrev pub FaultsBetween : {A : Type 0} → ℕ → ℕ → Result A Fault → Type 0
FaultsBetween from to (Ok a) = Unit {0}
FaultsBetween from to (Err f) = Between from to f

pub faults_wider : {A : Type 0} (a b c d : ℕ) (r : Result A Fault) → c ≤ a → b ≤ d → FaultsBetween a b r → FaultsBetween c d r
faults_wider a b c d (Ok x) h k p = tt
faults_wider a b c d (Err f) h k p = (omega arith, omega arith)

pub faults_then : {A B : Type 0} (from to : ℕ) (r : Result A Fault) (f : A → Result B Fault) → FaultsBetween from to r → ((a : A) → r ≡ Ok a → FaultsBetween from to (f a)) → FaultsBetween from to (then r f)
faults_then from to (Ok a) f p q = q a refl
faults_then from to (Err e) f p q = p

pub faults_located : {A : Type 0} (p : Place) (at to : ℕ) (r : Result A Reason) → at < to → FaultsBetween at to (located p at r)
faults_located p at to (Ok a) h = tt
faults_located p at to (Err e) h = (omega arith, h)

-- a container whose faults lie in the box that it takes
abbrev pub Bounded : {S : Type 0} → Rules S → Type 0
Bounded {S} r = (s : S) (k : Kind) (at body : ℕ) (bs : List ℕ) → at < body → FaultsBetween at (body + length bs) (r.taken s k at body bs)

module _ {S : Type 0} (r : Rules S) (bounded : Bounded r) where
  faults-sized : (from to : ℕ) (f : Frame) (l : Result S Fault) → FaultsBetween from to l → FaultsBetween from to (sized r f l)
  faults-sized from to f (Ok s) p = tt
  faults-sized from to f (Err e) p = p

  faults-listed : (at : ℕ) (first : Bool) (bs : List ℕ) (s : S) (f : Frame) (e : Option Entry) → Within f (length bs) → FaultsBetween at (at + length bs) (listed r at first bs s f e)
  faults-listed at first bs s f None w = tt
  faults-listed at first bs s f (Some e) w =
      faults_then at (at + length bs) (tested r.place at (place_tests r.place e (r.count s e.kind) first) s) _
      (faults_located r.place at (at + length bs) _ (omega arith))
      (λ t _.
      let l : length (contents_of f bs) ≤ length bs - f.header = simp (length-take, length-drop) (omega arith) in
      faults_wider at (at + f.header + length (contents_of f bs)) at (at + length bs) (r.taken t e.kind at (at + f.header) (contents_of f bs)) (omega arith) (omega arith)
      (bounded t e.kind at (at + f.header) (contents_of f bs) (omega arith)))

  faults-framed : (at : ℕ) (first : Bool) (bs : List ℕ) (s : S) (top : Bool) (fr : Result Frame Reason) → framed top bs ≡ fr → 0 < length bs → FaultsBetween at (at + length bs) (framed_box r at first bs s fr)
  faults-framed at first bs s top (Ok f) e h =
      faults-sized at (at + length bs) f (listed r at first bs s f (entry_of f.code)) (faults-listed at first bs s f (entry_of f.code) (framed-within top bs f e))
  faults-framed at first bs s top (Err x) e h = (omega arith, omega arith)

  faults-met : (at : ℕ) (first : Bool) (bs : List ℕ) (s : S) → 0 < length bs → FaultsBetween at (at + length bs) (met r at first bs s)
  faults-met at first bs s h =
      faults-framed at first bs s (same_place r.place places.File) (framed (same_place r.place places.File) bs) refl h

  -- the faults of a walk lie in the bytes that it walks
  pub faults-walked : (n at : ℕ) (first : Bool) (bs : List ℕ) (s : S) → FaultsBetween at (at + length bs) (walked r n at first bs s)
  unfolding walked
  faults-walked zero at first bs s = tt
  faults-walked (suc n) at first [] s = tt
  faults-walked (suc n) at first (b ∷ bs) s =
      faults_then at (at + length (b ∷ bs)) (met r at first (b ∷ bs) s) _ (faults-met at first (b ∷ bs) s (omega arith))
      (λ m e.
      let w = met-within r at first (b ∷ bs) s m e in
      let l = length-drop m.0 (b ∷ bs) in
      faults_wider (at + m.0) (at + m.0 + length (drop m.0 (b ∷ bs))) at (at + length (b ∷ bs)) (walked r n (at + m.0) false (drop m.0 (b ∷ bs)) m.1) (omega arith) (omega arith)
      (faults-walked n (at + m.0) false (drop m.0 (b ∷ bs)) m.1))

  -- the faults of a superbox lie in it
  pub faults-superbox : (at body : ℕ) (bs : List ℕ) (s : S) → at < body → FaultsBetween at (body + length bs) (superbox r at body bs s)
  faults-superbox at body bs s h =
      faults_then at (body + length bs) (walked r (length bs) body true bs s) _
      (faults_wider body (body + length bs) at (body + length bs) (walked r (length bs) body true bs s) (omega arith) (omega arith) (faults-walked (length bs) body true bs s))
      (λ t _. faults_located r.place at (body + length bs) (judged (end_tests r t) t) (omega arith))

-- by a test
pub faults_cond : {A : Type 0} (from to : ℕ) (b : Bool) (x y : Result A Fault) → FaultsBetween from to x → FaultsBetween from to y → FaultsBetween from to (cond b x y)
faults_cond from to true x y p q = p
faults_cond from to false x y p q = q
