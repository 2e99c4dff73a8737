-- The bytes of the rows so far.
use Rattle.std.proofs.Common.{◌≡◌, ◌*◌, ◌≤◌, length, take}
use Rattle.std.specs.List.{flat_map}
use Rattle.writer.specs.Written.{lobj}
use Rattle.writer.proofs.rows.rows_size.Given as goal

abbrev pub invariant-loop-row : goal.invariant-loop-row
invariant-loop-row l = record {
  value : l.size ≡ length (flat_map lobj (take l.row-index l.row-items));
  bound : l.size ≤ 124 * l.row-index;
}
