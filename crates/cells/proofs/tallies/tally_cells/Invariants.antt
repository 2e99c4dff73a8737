use Rattle.cells.specs.Passes.{at_level, level_of}
use Rattle.cells.proofs.Passing.{Sums}
use Rattle.cells.proofs.tallies.tally_cells.Given as goal

abbrev pub invariant-loop-row : goal.invariant-loop-row
invariant-loop-row g l =
    let area = l.pane.area in
    let window = l.pane.window in
    record {
      finished : Sums area window (at_level l.full) l.row l.cells l.finished l.cells;
      levels : Sums area window level_of l.row l.cells l.levels l.cells;
    }
