use Rattle.std.proofs.Common.{◌*◌, ap₂, arith}
use Rattle.cells.proofs.Places.{granted-from}
use Rattle.cells.proofs.Showing.{window-short}
use Rattle.cells.proofs.shows.show_cells.Goals as goal

pub write_cells-requires : goal.write_cells-requires
write_cells-requires g c =
    let pane = c.args.pane in
    let ok = granted-from pane.area pane.window pane.passes in
    let need-is = ap₂ ◌*◌ c.positions.ensures.value c.BYTES.ensures in
    let short = window-short g.C.Colour.shown pane.area pane.window ok g.C.Colour.BYTES g.met.C.Colour.sized c.args.cells.now in
    omega arith
