use Rattle.cells.specs.Passes.{fresh, level_of}
use Rattle.cells.proofs.Passing.{Sums, Changes}
use Rattle.cells.proofs.wipes.wipe_cells.Given as goal

abbrev pub invariant-loop-row : goal.invariant-loop-row
invariant-loop-row g l =
    let area = l.pane.area in
    let window = l.pane.window in
    record {
      levels : Sums area window level_of l.row l.cells l.levels l.initial.cells;
      cells : Changes area window (fresh l.colour) l.row l.cells l.initial.cells;
    }
