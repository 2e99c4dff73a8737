use Rattle.std.proofs.Common.{refl, arith}
use Rattle.cells.specs.Passes.{at_level, level_of}
use Rattle.cells.proofs.Lines.{sum_more}
use Rattle.cells.proofs.tallies.tally_row.Goals as goal

pub loop-cell-preserved : goal.loop-cell-preserved
loop-cell-preserved g c =
    let cells = c.args.cells.now in
    let i = c.loop-cell.cell-index in
    let before = c.loop-cell.invariant in
    record {
      finished = sum_more (at_level c.args.full 0 0) cells i _ _ _ (omega arith) c.cell-item.is before.finished (c.at_level-finished.ensures.value 0 0);
      levels = sum_more (level_of 0 0) cells i _ _ _ (omega arith) c.cell-item.is before.levels refl;
      few = omega (arith, c.at_level-finished.ensures.bound, before.few);
      bound = omega (arith, before.bound);
    }
