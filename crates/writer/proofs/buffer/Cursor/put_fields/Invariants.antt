-- The fields so far are put.
use Rattle.std.proofs.Common.{take}
use Rattle.writer.specs.Fields.{fields_bytes}
use Rattle.writer.specs.Puts.{Puts}
use Rattle.writer.proofs.buffer.Cursor.put_fields.Given as goal

abbrev pub invariant-loop-field : goal.invariant-loop-field
invariant-loop-field l = Puts l.initial.self l.self (fields_bytes (take l.field-index l.fields))
