use Rattle.std.proofs.Common.{◌≡◌, ◌≤◌, ◌++◌, take, drop}
use Rattle.std.specs.List.{sum_by}
use Rattle.cells.specs.Gathers.{changed_from}
use Rattle.cells.specs.Passes.{laid_cell, at_level, above_level}
use Rattle.cells.proofs.lays.lay_row.Given as goal

abbrev pub invariant-loop-i : goal.invariant-loop-i
invariant-loop-i g l =
    let touch = g.R.TouchingRow.touch l.row in
    let number = g.R.TouchingRow.number l.row in
    record {
      raised : l.raised ≡ sum_by (at_level l.k 0 0) (take l.i l.initial.cells);
      passed : l.passed ≡ sum_by (above_level l.k 0 0) (take l.i l.initial.cells);
      few_raised : l.raised ≤ l.i;
      few_passed : l.passed ≤ l.i;
      cells : l.cells ≡ changed_from (λ column. laid_cell g.C.Colour.blended l.k touch column number) l.left (take l.i l.initial.cells) ++ drop l.i l.initial.cells;
    }
