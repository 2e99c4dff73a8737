-- The bytes of the fields of a box. Assumes nothing.
use Rattle.std.specs.Prelude.{ℕ, List}
use Rattle.std.specs.List.{flat_map}
use Rattle.boxes.specs.Field.{digits}
use Rattle.writer.specs.declared.fields.Field.{Field}
use Rattle.writer.specs.declared.fields.Field.TheVariants.{One, Two, Four, Eight}

-- a field: a number in as many bytes as its width says
abbrev pub field_bytes : Field → List ℕ
field_bytes (One n) = digits 1 n
field_bytes (Two n) = digits 2 n
field_bytes (Four n) = digits 4 n
field_bytes (Eight n) = digits 8 n

-- fields one after the other
abbrev pub fields_bytes : List Field → List ℕ
fields_bytes fields = flat_map field_bytes fields
