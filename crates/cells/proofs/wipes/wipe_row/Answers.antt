use Rattle.std.proofs.Common.{ℕ, ◌+◌, ◌++◌, take, drop, set, sym, ap, ◌∙◌, arith}
use Rattle.cells.specs.Passes.{fresh, level_of}
use Rattle.cells.proofs.Lines.{changed-map, over_reads, changed-over, sum_more}
use Rattle.cells.proofs.wipes.wipe_row.Goals as goal

pub loop-cell-preserved : goal.loop-cell-preserved
loop-cell-preserved g c =
    let cells = c.args.cells.now in
    let i = c.loop-cell.cell-index in
    let F = λ (_ : ℕ). fresh c.args.colour 0 0 in
    let so-far = c.loop-cell.invariant.cells ∙ ap (λ l. l ++ drop i cells) (sym (changed-map (fresh c.args.colour 0 0) 0 (take i cells))) in
    let read = over_reads F 0 cells _ i _ (omega arith) so-far c.cell-item.is in
    record {
      levels = sum_more (level_of 0 0) cells i _ _ _ (omega arith) read c.loop-cell.invariant.levels (c.wipe_cell-levels.ensures.level 0 0 ∙ ap (level_of 0 0) (sym c.cell-item.is));
      bound = omega (arith, c.wipe_cell-levels.ensures.bound, c.loop-cell.invariant.bound);
      cells =
          ap (set c.loop-cell.cells i) (c.wipe_cell-levels.ensures.cell 0 0)
          ∙ changed-over F 0 cells _ i _ (omega arith) so-far c.cell-item.is
          ∙ ap (λ l. l ++ drop (i + 1) cells) (changed-map (fresh c.args.colour 0 0) 0 (take (i + 1) cells));
    }
