use Rattle.std.proofs.Common.{◌≡◌, ◌*◌, ◌≤◌, ◌++◌, take, drop, map}
use Rattle.std.specs.List.{sum_by}
use Rattle.cells.specs.Passes.{fresh, level_of}
use Rattle.cells.proofs.wipes.wipe_row.Given as goal

abbrev pub invariant-loop-cell : goal.invariant-loop-cell
invariant-loop-cell g l = record {
  levels : l.levels ≡ sum_by (level_of 0 0) (take l.cell-index l.initial.cells);
  bound : l.levels ≤ 65535 * l.cell-index;
  cells : l.cells ≡ map (fresh l.colour 0 0) (take l.cell-index l.initial.cells) ++ drop l.cell-index l.initial.cells;
}
