use Rattle.std.proofs.Common.{◌≡◌, ◌<◌, ◌≤◌, refl, arith}
use Rattle.cells.proofs.Lines.{span_is}
use Rattle.cells.proofs.Places.{granted-from}
use Rattle.cells.proofs.Passing.{sums-none, sums_same, sums-whole}
use Rattle.cells.proofs.tallies.tally_cells.Goals as goal

pub loop-row-init : goal.loop-row-init
loop-row-init g c =
    let pane = c.args.pane in
    let ok = granted-from pane.area pane.window pane.passes in
    record { finished = sums-none pane.area pane.window _ ok _; levels = sums-none pane.area pane.window _ ok _ }

pub loop-row-preserved : goal.loop-row-preserved
loop-row-preserved g c =
    let pane = c.args.pane in
    let ok = granted-from pane.area pane.window pane.passes in
    let row = c.loop-row.row in
    let cells = c.args.cells.now in
    let top : pane.window.top ≤ row = omega arith in
    let bottom : row < pane.window.bottom = omega arith in
    let is = span_is cells _ _ _ _ c.row_span-span.ensures.from c.row_span-span.ensures.to in
    let done = c.tally_row-done.ensures in
    record {
      finished = sums_same pane.area pane.window _ ok (λ column n. refl) row top bottom cells _ is _ _ _ done.finished (omega arith) c.loop-row.invariant.finished;
      levels = sums_same pane.area pane.window _ ok (λ column n. refl) row top bottom cells _ is _ _ _ done.levels (omega arith) c.loop-row.invariant.levels;
    }

pub returns : goal.returns
returns g c =
    let pane = c.args.pane in
    let ok = granted-from pane.area pane.window pane.passes in
    let edge : c.loop-row.row ≡ pane.window.bottom = omega (arith, ok.down.runs) in
    record {
      finished = sums-whole pane.area pane.window _ ok _ edge _ _ _ c.loop-row.invariant.finished;
      levels = sums-whole pane.area pane.window _ ok _ edge _ _ _ c.loop-row.invariant.levels;
    }
