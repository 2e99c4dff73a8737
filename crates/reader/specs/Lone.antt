-- A superbox with one header box. Assumes nothing.
use Rattle.std.specs.Prelude.{ℕ, cond, List, [], Some, Ok, Option, Result}
use Rattle.boxes.specs.Table.{same_kind}
use Rattle.boxes.specs.Tests.{Test}
use Rattle.boxes.specs.declared.fault.Fault.{Fault}
use Rattle.boxes.specs.declared.table.Kind.{Kind}
use Rattle.boxes.specs.declared.table.Place.{Place}
use Rattle.reader.specs.Walk.{Rules, tested, once}

-- A superbox in a place, with a header box of a type, by the header box's tests and what it says. A type that stands elsewhere is refused before
-- it is taken, so it changes nothing here.
module _ {A : Type 0} (place : Place) (kind : Kind) (tests : List ℕ → List Test) (made : List ℕ → A) where
  abbrev pub lone_taken : Option A → Kind → ℕ → ℕ → List ℕ → Result (Option A) Fault
  lone_taken s k at body bs = cond (same_kind k kind) (tested place at (tests bs) (Some (made bs))) (Ok s)

  abbrev pub lone_count : Option A → Kind → ℕ
  lone_count s k = cond (same_kind k kind) (once s) 0

  abbrev pub lone_rules : Rules (Option A)
  lone_rules = record { place = place; count = lone_count; taken = lone_taken; closing = λ s. [] }
