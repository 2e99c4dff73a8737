use Rattle.cells.specs.Passes.{laid_cell, at_level, above_level}
use Rattle.cells.proofs.Passing.{Sums, Changes}
use Rattle.cells.proofs.lays.lay_cells.Given as goal

abbrev pub invariant-loop-row : goal.invariant-loop-row
invariant-loop-row g l =
    let area = l.pane.area in
    let window = l.pane.window in
    record {
      raised : Sums area window (at_level l.k) l.row l.cells l.raised l.initial.cells;
      passed : Sums area window (above_level l.k) l.row l.cells l.passed l.initial.cells;
      cells : Changes area window (laid_cell g.C.Colour.blended l.k (g.L.Touching.touch l.layer)) l.row l.cells l.initial.cells;
    }
