use Rattle.std.proofs.Common.{◌≡◌, ℕ, ◌+◌, ◌<◌, ◌≤◌, None, Option, sym, refl, ap, ◌∙◌, ap₂, arith, rules}
use Rattle.cells.specs.Gathers.{or_else, gathered_from, first}
use Rattle.cells.specs.Passes.{out_of_turn, missing}
use Rattle.cells.specs.declared.refusals.Refusal.{Refusal}
use Rattle.cells.specs.declared.stored.Cell.{Cell}
use Rattle.cells.proofs.Lines.{seeks_is, seeks_next, seeks_end, span_is}
use Rattle.cells.proofs.Places.{granted-from}
use Rattle.cells.proofs.Passing.{firsts, either_is, not_there, is_there, joins-none, joins_is, joins-line, first-whole, first_found}
use Rattle.cells.proofs.obstacles.first_obstacle.Goals as goal
use Rattle.cells.proofs.obstacles.first_obstacle.Goals.{else-rows-test, then-rows-test+then-loop-i-test+then-is_some}

pub rows-init : goal.rows-init
rows-init g c =
    let pane = c.args.pane in
    let ok = granted-from pane.area pane.window pane.passes in
    record { early = joins-none or_else None firsts pane.area pane.window _ ok _; lacking = joins-none or_else None firsts pane.area pane.window _ ok _; none = refl }

pub loop-i-preserved : goal.loop-i-preserved
loop-i-preserved g c =
    let k = c.args.k in
    let touch = g.L.Touching.touch c.args.layer.now in
    let column = c.args.pane.window.left + c.loop-i.i in
    let row = c.rows.row in
    let cell = c.cell-item.result in
    let early = c.early_cell-early in
    let nothing = not_there early.result (sym c.is_some.ensures ∙ c.if-is_some.false) in
    let lacks : c.or_else-lacking.result ≡ or_else c.loop-i.lacking (missing k (g.L.Row.TouchingRow.touch c.on_row-line.result) column (g.L.Row.TouchingRow.number c.on_row-line.result) cell) = search rules in
    let lacks-is = lacks ∙ ap₂ (λ t n. or_else c.loop-i.lacking (missing k t column n cell)) c.on_row-line.ensures.touch c.on_row-line.ensures.number in
    let lacking = seeks_next or_else None _ _ _ firsts.regroup c.loop-i.i cell _ _ _ (omega arith) c.cell-item.is refl c.loop-i.invariant.lacking in
    record {
      early = seeks_next or_else None _ _ _ firsts.regroup c.loop-i.i cell None None None (omega arith) c.cell-item.is (sym nothing ∙ early.ensures.answer) c.loop-i.invariant.early;
      lacking = seeks_is or_else None _ _ _ _ _ _ _ lacks-is lacking;
      none = nothing;
    }

pub rows-preserved : goal.rows-preserved
rows-preserved g c =
    let pane = c.args.pane in
    let left = pane.window.left in
    let ok = granted-from pane.area pane.window pane.passes in
    let cells = c.args.cells.now in
    let row = c.rows.row in
    let top : pane.window.top ≤ row = omega arith in
    let bottom : row < pane.window.bottom = omega arith in
    let is = span_is cells _ _ _ _ c.row_span-span.ensures.from c.row_span-span.ensures.to in
    let early = seeks_end or_else None _ _ _ firsts.right _ _ _ (omega arith) c.loop-i.invariant.early in
    let lacking = seeks_end or_else None _ _ _ firsts.right _ _ _ (omega arith) c.loop-i.invariant.lacking in
    let lacks = missing c.args.k (g.L.Touching.touch c.args.layer.now) in
    record {
      early = joins-line or_else None firsts pane.area pane.window _ ok row top bottom cells cells None None _
          (early ∙ ap (gathered_from or_else None (λ column. out_of_turn c.args.k column row) left) is) refl c.rows.invariant.early;
      lacking = joins_is or_else None firsts pane.area pane.window _ ok _ _ _ _ _
          (lacking ∙ ap (λ l. or_else c.rows.lacking (gathered_from or_else None (λ column. lacks column row) left l)) is)
          (joins-line or_else None firsts pane.area pane.window _ ok row top bottom cells cells c.rows.lacking _ _ refl refl c.rows.invariant.lacking);
      none = c.loop-i.invariant.none;
    }

pub returns : goal.returns
returns g c =
    let pane = c.args.pane in
    let ok = granted-from pane.area pane.window pane.passes in
    let cells = c.args.cells.now in
    let k = c.args.k in
    let lacks = missing k (g.L.Touching.touch c.args.layer.now) in
    let first-lacking = first pane.area pane.window lacks cells in
    let all = c.or.ensures ∙ either_is c.rows-test.early c.rows-test.lacking in
    elim c.rows-test.branch [
      | else-rows-test w ↦
          let edge : c.rows.row ≡ pane.window.bottom = omega (arith, ok.down.runs) in
          let early = first-whole pane.area pane.window (out_of_turn k) ok c.rows.row edge cells None cells c.rows.invariant.early in
          let lacking = first-whole pane.area pane.window lacks ok c.rows.row edge cells c.rows.lacking cells c.rows.invariant.lacking in
          record { answer = all ∙ ap₂ or_else (w.early-is ∙ c.rows.invariant.none ∙ early) (w.lacking-is ∙ lacking) }
      | then-rows-test+then-loop-i-test+then-is_some w ↦
          let row = c.rows.row in
          let top : pane.window.top ≤ row = omega arith in
          let bottom : row < pane.window.bottom = omega arith in
          let early = w.early_cell-early in
          let there = sym w.is_some.ensures ∙ w.if-is_some.true in
          let is = span_is cells _ _ _ _ w.row_span-span.ensures.from w.row_span-span.ensures.to in
          let F : ℕ → Cell g.row.C.Denot → Option Refusal = λ column. out_of_turn k column row in
          let found = sym (is_there early.result _ there)
          ∙ (seeks_next or_else None F _ _ firsts.regroup w.loop-i.i w.cell-item.result None None early.result (omega arith) w.cell-item.is early.ensures.answer w.loop-i.invariant.early).all
          ∙ ap (gathered_from or_else None F pane.window.left) is in
          let first-early = first_found pane.area pane.window (out_of_turn k) ok row top bottom cells early.result cells found there c.rows.invariant.early in
          record {
            answer =
                all
                ∙ ap (λ y. or_else y c.rows-test.lacking) w.early-is
                ∙ is_there early.result c.rows-test.lacking there
                ∙ sym (is_there early.result first-lacking there)
                ∙ ap (λ y. or_else y first-lacking) first-early;
          }
    ]
