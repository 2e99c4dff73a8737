-- The rows so far are put.
use Rattle.std.proofs.Common.{take}
use Rattle.std.specs.List.{flat_map}
use Rattle.writer.specs.Puts.{Puts}
use Rattle.writer.specs.Written.{lobj}
use Rattle.writer.proofs.buffer.Cursor.put_rows.Given as goal

abbrev pub invariant-loop-row : goal.invariant-loop-row
invariant-loop-row l = Puts l.initial.self l.self (flat_map lobj (take l.row-index l.rows))
