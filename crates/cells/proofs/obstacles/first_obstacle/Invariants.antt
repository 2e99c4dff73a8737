use Rattle.std.proofs.Common.{◌≡◌, None}
use Rattle.cells.specs.Gathers.{or_else}
use Rattle.cells.specs.Passes.{out_of_turn, missing}
use Rattle.cells.proofs.Lines.{Seeks}
use Rattle.cells.proofs.Passing.{Joins}
use Rattle.cells.proofs.obstacles.first_obstacle.Given as goal

abbrev pub invariant-loop-i : goal.invariant-loop-i
invariant-loop-i g l =
    let left = l.pane.window.left in
    record {
      early : Seeks or_else None (λ column. out_of_turn l.k column l.row) left l.cell-items l.i None None;
      lacking : Seeks or_else None (λ column. missing l.k (g.L.Touching.touch l.layer) column l.row) left l.cell-items l.i l.lacking l.initial.lacking;
      none : l.early ≡ None;
    }

abbrev pub invariant-rows : goal.invariant-rows
invariant-rows g l =
    let area = l.pane.area in
    let window = l.pane.window in
    record {
      early : Joins or_else None area window (out_of_turn l.k) l.row l.cells None l.cells;
      lacking : Joins or_else None area window (missing l.k (g.L.Touching.touch l.layer)) l.row l.cells l.lacking l.cells;
      none : l.early ≡ None;
    }
