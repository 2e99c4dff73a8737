-- Tests in an order, of which the first that fails decides. Assumes nothing.
use Rattle.std.specs.Prelude.{Bool, true, false, List, [], ◌∷◌, Some, None, Ok, Err, Option, Result}
use Rattle.boxes.specs.declared.reason.Reason.{Reason}

-- a test: whether it fails, and what it then says
abbrev pub Test : Type 0
Test = Bool × Reason

-- what the test says, or what the later ones say where it passes
abbrev pub unless : Bool → Reason → Option Reason → Option Reason
unless true r later = Some r
unless false r later = later

-- what the first test that fails says
abbrev pub first_failure : List Test → Option Reason
first_failure [] = None
first_failure (t ∷ ts) = unless t.0 t.1 (first_failure ts)

-- a value where there is no reason against it
abbrev pub or_else : {T : Type 0} → Option Reason → T → Result T Reason
or_else None x = Ok x
or_else (Some r) x = Err r

-- a value where every test passes, and otherwise what the first that fails says
abbrev pub judged : {T : Type 0} → List Test → T → Result T Reason
judged ts x = or_else (first_failure ts) x
