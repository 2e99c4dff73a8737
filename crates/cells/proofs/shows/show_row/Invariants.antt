use Rattle.std.proofs.Common.{◌≡◌, ◌+◌, ◌*◌, ◌≤◌, take, drop}
use Rattle.std.specs.List.{sum_by}
use Rattle.cells.specs.Passes.{at_level}
use Rattle.cells.specs.Shows.{shown_cells}
use Rattle.cells.proofs.Showing.{Written}
use Rattle.cells.proofs.shows.show_row.Given as goal

abbrev pub invariant-loop-i : goal.invariant-loop-i
invariant-loop-i g l =
    let shown = g.C.Colour.shown in
    record {
      written : Written (shown_cells shown (drop l.i l.cells)) l.buffer (l.to + l.i * l.size) (shown_cells shown l.cells) l.initial.buffer l.to;
      finished : l.finished ≡ sum_by (at_level l.full 0 0) (take l.i l.cells);
      few : l.finished ≤ l.i;
    }
