use Rattle.std.proofs.Common.{◌≡◌, ◌<◌, ◌≤◌, ℕ, sym, refl, ◌∙◌, arith}
use Rattle.cells.specs.Passes.{fresh}
use Rattle.cells.specs.declared.stored.Cell.{Cell}
use Rattle.cells.proofs.Lines.{changed-map, span_is, span_put}
use Rattle.cells.proofs.Places.{granted-from}
use Rattle.cells.proofs.Passing.{sums-none, sums-line, sums-whole, changes-none, changes-line, changes-whole}
use Rattle.cells.proofs.wipes.wipe_cells.Goals as goal

pub loop-row-init : goal.loop-row-init
loop-row-init g c =
    let pane = c.args.pane in
    let ok = granted-from pane.area pane.window pane.passes in
    record { levels = sums-none pane.area pane.window _ ok _; cells = changes-none pane.area pane.window _ ok _ }

pub loop-row-preserved : goal.loop-row-preserved
loop-row-preserved g c =
    let pane = c.args.pane in
    let ok = granted-from pane.area pane.window pane.passes in
    let row = c.loop-row.row in
    let cells = c.loop-row.cells in
    let top : pane.window.top ≤ row = omega arith in
    let bottom : row < pane.window.bottom = omega arith in
    let is = span_is cells _ _ _ _ c.row_span-span.ensures.from c.row_span-span.ensures.to in
    let F : ℕ → Cell g.row.C.Denot → Cell g.row.C.Denot = λ column. fresh c.args.colour column row in
    let done = c.wipe_row.ensures in
    let turned = span_put cells _ _ _ _ c.row_span-span.ensures.from c.row_span-span.ensures.to F pane.window.left _
    (done.cells ∙ sym (changed-map (fresh c.args.colour 0 0) pane.window.left _)) in
    record {
      levels = sums-line pane.area pane.window _ ok (λ column n. refl) row top bottom cells _ is _ _ _ done.answer (omega arith) F _ turned c.loop-row.invariant.levels;
      cells = changes-line pane.area pane.window _ ok row top bottom cells _ _ turned c.loop-row.invariant.cells;
    }

pub returns : goal.returns
returns g c =
    let pane = c.args.pane in
    let ok = granted-from pane.area pane.window pane.passes in
    let edge : c.loop-row.row ≡ pane.window.bottom = omega (arith, ok.down.runs) in
    record {
      answer = sums-whole pane.area pane.window _ ok _ edge _ _ _ c.loop-row.invariant.levels;
      cells = changes-whole pane.area pane.window _ ok _ edge _ _ c.loop-row.invariant.cells;
    }
