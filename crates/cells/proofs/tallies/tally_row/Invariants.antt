use Rattle.std.proofs.Common.{◌≡◌, ◌*◌, ◌≤◌, take}
use Rattle.std.specs.List.{sum_by}
use Rattle.cells.specs.Passes.{at_level, level_of}
use Rattle.cells.proofs.tallies.tally_row.Given as goal

abbrev pub invariant-loop-cell : goal.invariant-loop-cell
invariant-loop-cell g l = record {
  finished : l.finished ≡ sum_by (at_level l.full 0 0) (take l.cell-index l.cells);
  levels : l.levels ≡ sum_by (level_of 0 0) (take l.cell-index l.cells);
  few : l.finished ≤ l.cell-index;
  bound : l.levels ≤ 65535 * l.cell-index;
}
