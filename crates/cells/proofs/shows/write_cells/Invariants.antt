use Rattle.cells.specs.Passes.{at_level}
use Rattle.cells.proofs.Passing.{Sums}
use Rattle.cells.proofs.Showing.{Written, to_show}
use Rattle.cells.proofs.shows.write_cells.Given as goal

abbrev pub invariant-loop-row : goal.invariant-loop-row
invariant-loop-row g l =
    let shown = g.C.Colour.shown in
    let area = l.pane.area in
    let window = l.pane.window in
    record {
      written : Written (to_show shown area window l.row l.cells) l.buffer l.to (to_show shown area window l.initial.row l.cells) l.initial.buffer l.initial.to;
      finished : Sums area window (at_level l.full) l.row l.cells l.finished l.cells;
    }
