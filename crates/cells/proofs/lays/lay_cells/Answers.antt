use Rattle.std.proofs.Common.{◌≡◌, ◌-◌, ◌<◌, ◌≤◌, ℕ, take, drop, refl, ◌∙◌, ap₂, arith}
use Rattle.cells.specs.Gathers.{changed_from}
use Rattle.cells.specs.Passes.{laid_cell}
use Rattle.cells.specs.declared.stored.Cell.{Cell}
use Rattle.cells.proofs.Lines.{span_is, span_put}
use Rattle.cells.proofs.Places.{granted-from}
use Rattle.cells.proofs.Passing.{sums-none, sums-line, sums-whole, changes-none, changes-line, changes-whole}
use Rattle.cells.proofs.lays.lay_cells.Goals as goal

pub loop-row-init : goal.loop-row-init
loop-row-init g c =
    let pane = c.args.pane in
    let ok = granted-from pane.area pane.window pane.passes in
    record {
      raised = sums-none pane.area pane.window _ ok _;
      passed = sums-none pane.area pane.window _ ok _;
      cells = changes-none pane.area pane.window _ ok _;
    }

pub loop-row-preserved : goal.loop-row-preserved
loop-row-preserved g c =
    let pane = c.args.pane in
    let ok = granted-from pane.area pane.window pane.passes in
    let row = c.loop-row.row in
    let cells = c.loop-row.cells in
    let top : pane.window.top ≤ row = omega arith in
    let bottom : row < pane.window.bottom = omega arith in
    let is = span_is cells _ _ _ _ c.row_span-span.ensures.from c.row_span-span.ensures.to in
    let F : ℕ → Cell g.row.C.Denot → Cell g.row.C.Denot = λ column. laid_cell g.C.Colour.blended c.args.k (g.L.Touching.touch c.args.layer.now) column row in
    let done = c.lay_row-up.ensures in
    let part = take (c.row_span-span.result.end - c.row_span-span.result.start) (drop c.row_span-span.result.start cells) in
    let turned = span_put cells _ _ _ _ c.row_span-span.ensures.from c.row_span-span.ensures.to F pane.window.left _
    (done.cells
    ∙ ap₂ (λ touch n. changed_from (λ column. laid_cell g.C.Colour.blended c.args.k touch column n) pane.window.left part) c.on_row-line.ensures.touch c.on_row-line.ensures.number) in
    record {
      raised = sums-line pane.area pane.window _ ok (λ column n. refl) row top bottom cells _ is _ _ _ done.raised (omega arith) F _ turned c.loop-row.invariant.raised;
      passed = sums-line pane.area pane.window _ ok (λ column n. refl) row top bottom cells _ is _ _ _ done.passed (omega arith) F _ turned c.loop-row.invariant.passed;
      cells = changes-line pane.area pane.window _ ok row top bottom cells _ _ turned c.loop-row.invariant.cells;
    }

pub returns : goal.returns
returns g c =
    let pane = c.args.pane in
    let ok = granted-from pane.area pane.window pane.passes in
    let edge : c.loop-row.row ≡ pane.window.bottom = omega (arith, ok.down.runs) in
    record {
      raised = sums-whole pane.area pane.window _ ok _ edge _ _ _ c.loop-row.invariant.raised;
      passed = sums-whole pane.area pane.window _ ok _ edge _ _ _ c.loop-row.invariant.passed;
      cells = changes-whole pane.area pane.window _ ok _ edge _ _ c.loop-row.invariant.cells;
    }
