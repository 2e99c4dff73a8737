use Rattle.std.proofs.Common.{Ok, Err, sym, ap, ◌∙◌}
use Rattle.std.proofs.lemmas.Bool.{cond-true}
use Rattle.cells.specs.Passes.{fresh, level_of}
use Rattle.cells.specs.Windows.{granted}
use Rattle.cells.specs.declared.refusals.Refusal.TheVariants.{Window}
use Rattle.cells.proofs.Columns.{columns_none, no_total, no_change}
use Rattle.cells.proofs.windows.wipe_window.Goals as goal

pub returns-then-has_no_column : goal.returns-then-has_no_column
returns-then-has_no_column g c =
    let area = c.args.frame.area in
    let window = c.args.window in
    let is = c.in_ok-pane.ensures.answer in
    let none = columns_none _ _ _ is.2 c.has_no_column.ensures.value c.if-has_no_column.true in
    record {
      answer = ap Ok (no_total area window none level_of c.args.cells.now) ∙ sym (cond-true (granted area window) _ (Err Window) is.0);
      cells = no_change area window none (fresh c.args.colour) c.args.cells.now ∙ sym (cond-true (granted area window) _ _ is.0);
    }
