-- How the boxes of a container are met, one after the other, up to the first fault. Assumes nothing.
use Rattle.std.specs.Prelude.{ℕ, zero, suc, ◌+◌, ◌-◌, Bool, true, false, ◌&&◌, List, [], ◌∷◌, length, take, drop, Some, None, Ok, Err, Option, Result, nat_lt}
use Rattle.std.specs.List.{list_any}
use Rattle.boxes.specs.Frame.{framed}
use Rattle.boxes.specs.Table.{table, same_place, entry_of, place_tests}
use Rattle.boxes.specs.Tests.{Test, judged}
use Rattle.boxes.specs.declared.fault.Fault.{Fault}
use Rattle.boxes.specs.declared.frame.Frame.{Frame}
use Rattle.boxes.specs.declared.reason.Reason.{Reason}
use Rattle.boxes.specs.declared.reason.Reason.TheVariants.{Misplaced}
use Rattle.boxes.specs.declared.table.Entry.{Entry}
use Rattle.boxes.specs.declared.table.Kind.{Kind}
use Rattle.boxes.specs.declared.table.Place.{Place}
use Rattle.boxes.specs.declared.table.Place.TheVariants as places

-- What a container is, over its state S, which is what has been read of it so far.
pub record Rules (S : Type 0) : Type 0 where
  -- which container it is
  pub place : Place
  -- how many boxes of a type it has
  pub count : S → Kind → ℕ
  -- the state after a box of a type, whose header is at an offset and whose contents are at another
  pub taken : S → Kind → ℕ → ℕ → List ℕ → Result S Fault
  -- the tests of its own at its end
  pub closing : S → List Test

-- the second step with what the first gave, or the first's fault
abbrev pub then : {A B : Type 0} → Result A Fault → (A → Result B Fault) → Result B Fault
then (Ok a) f = f a
then (Err e) f = Err e

-- a reason in a container and at an offset
abbrev pub located : {A : Type 0} → Place → ℕ → Result A Reason → Result A Fault
located p at (Ok a) = Ok a
located p at (Err r) = Err (record { reason = r; inside = p; offset = at })

-- a value where every test passes, and otherwise a fault with the first that fails, in a container and at an offset
abbrev pub tested : {A : Type 0} → Place → ℕ → List Test → A → Result A Fault
tested p at ts a = located p at (judged ts a)

-- the contents of a box at the front of some bytes
abbrev pub contents_of : Frame → List ℕ → List ℕ
contents_of f bs = take (f.size - f.header) (drop f.header bs)

module _ {S : Type 0} (r : Rules S) where
  -- a box whose type is of the table: its place is tested, and then the container takes it
  abbrev pub listed : ℕ → Bool → List ℕ → S → Frame → Option Entry → Result S Fault
  listed at first bs s f None = Ok s
  listed at first bs s f (Some e) =
      then (tested r.place at (place_tests r.place e (r.count s e.kind) first) s)
      (λ t. r.taken t e.kind at (at + f.header) (contents_of f bs))

  -- the size of a box, and the state after it
  abbrev pub sized : Frame → Result S Fault → Result (ℕ × S) Fault
  sized f (Ok s) = Ok (f.size, s)
  sized f (Err e) = Err e

  -- a box whose header has been read
  abbrev pub framed_box : ℕ → Bool → List ℕ → S → Result Frame Reason → Result (ℕ × S) Fault
  framed_box at first bs s (Ok f) = sized f (listed at first bs s f (entry_of f.code))
  framed_box at first bs s (Err e) = located r.place at (Err e)

  -- the box at the front of what is left of the container: its size, and the state after it
  abbrev pub met : ℕ → Bool → List ℕ → S → Result (ℕ × S) Fault
  met at first bs s = framed_box at first bs s (framed (same_place r.place places.File) bs)

  -- the state after all the boxes in some bytes; the first number bounds how many there can be
  unfoldable pub walked : ℕ → ℕ → Bool → List ℕ → S → Result S Fault
  walked zero at first bs s = Ok s
  walked (suc n) at first [] s = Ok s
  walked (suc n) at first (b ∷ bs) s =
      then (met at first (b ∷ bs) s) (λ m. walked n (at + m.0) false (drop m.0 (b ∷ bs)) m.1)

  -- there are too few boxes of a line of the table
  abbrev pub short : S → Entry → Bool
  short s e = same_place e.inside r.place && nat_lt (r.count s e.kind) e.least

  -- there are too few of some line
  abbrev pub lacking : S → List Entry → Bool
  lacking s es = list_any (short s) es

  -- the tests at the container's end, in their order
  abbrev pub end_tests : S → List Test
  end_tests s = (lacking s table, Misplaced) ∷ r.closing s

  -- the state after a whole superbox, whose header is at one offset and whose contents are at another
  abbrev pub superbox : ℕ → ℕ → List ℕ → S → Result S Fault
  superbox at body bs s = then (walked (length bs) body true bs s) (λ t. tested r.place at (end_tests t) t)

-- what a call gave together with the state that it left
abbrev pub outcome : {A S : Type 0} → Result A Fault → S → Result S Fault
outcome (Ok a) s = Ok s
outcome (Err e) s = Err e

abbrev pub sized_outcome : {S : Type 0} → Result ℕ Fault → S → Result (ℕ × S) Fault
sized_outcome (Ok n) s = Ok (n, s)
sized_outcome (Err e) s = Err e

-- how many boxes of a type that stands here once at most
abbrev pub once : {A : Type 0} → Option A → ℕ
once None = 0
once (Some x) = 1
