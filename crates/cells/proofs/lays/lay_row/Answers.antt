use Rattle.std.proofs.Common.{ℕ, ◌+◌, sym, ap, ◌∙◌, set, arith}
use Rattle.cells.specs.Passes.{laid_cell, at_level, above_level}
use Rattle.cells.specs.declared.stored.Cell.{Cell}
use Rattle.cells.proofs.Lines.{over_reads, changed-over, sum_more}
use Rattle.cells.proofs.lays.lay_row.Goals as goal

pub loop-i-preserved : goal.loop-i-preserved
loop-i-preserved g c =
    let cells = c.args.cells.now in
    let k = c.args.k in
    let i = c.loop-i.i in
    let F : ℕ → Cell g.row.C.Denot → Cell g.row.C.Denot = λ column. laid_cell g.C.Colour.blended k (g.R.TouchingRow.touch c.args.row.now) column (g.R.TouchingRow.number c.args.row.now) in
    let before = c.loop-i.invariant in
    let read = over_reads F c.args.left cells _ i _ (omega arith) before.cells c.index-cells-i.is in
    let at = sym c.index-cells-i.is in
    record {
      raised = sum_more (at_level k 0 0) cells i _ _ _ (omega arith) read before.raised (c.at_level-raised.ensures.value 0 0 ∙ ap (at_level k 0 0) at);
      passed = sum_more (above_level k 0 0) cells i _ _ _ (omega arith) read before.passed (c.above_level-passed.ensures.value 0 0 ∙ ap (above_level k 0 0) at);
      few_raised = omega (arith, c.at_level-raised.ensures.bound, before.few_raised);
      few_passed = omega (arith, c.above_level-passed.ensures.bound, before.few_passed);
      cells = ap (set c.loop-i.cells i) (c.lay_cell.ensures.value ∙ ap (F (c.args.left + i)) at) ∙ changed-over F c.args.left cells _ i _ (omega arith) before.cells c.index-cells-i.is;
    }
