use Rattle.std.proofs.Common.{Ok, Err, sym, ap, ◌∙◌}
use Rattle.std.proofs.lemmas.Bool.{cond-true}
use Rattle.raster.specs.Shown.{put}
use Rattle.raster.proofs.Puts.{put-none}
use Rattle.cells.specs.Passes.{at_level, shown_cell}
use Rattle.cells.specs.Shows.{shown_window, show_answer, show_buffer}
use Rattle.cells.specs.Windows.{granted}
use Rattle.cells.specs.declared.refusals.Refusal.TheVariants.{Window, Buffer}
use Rattle.cells.proofs.Columns.{columns_none, no_total, nothing_shown, long}
use Rattle.cells.proofs.windows.show_window.Goals as goal

pub returns-then-has_no_column : goal.returns-then-has_no_column
returns-then-has_no_column g c =
    let area = c.args.frame.area in
    let window = c.args.window in
    let cells = c.args.cells.now in
    let buffer = c.args.buffer.now in
    let size = g.C.Colour.BYTES in
    let is = c.in_ok-pane.ensures.answer in
    let none = columns_none _ _ _ is.2 c.has_no_column.ensures.value c.if-has_no_column.true in
    record {
      answer =
          ap Ok (no_total area window none (at_level c.args.full) cells)
          ∙ sym (cond-true _ _ (Err Buffer) (long area window none size buffer))
          ∙ sym (cond-true (granted area window) _ (Err Window) is.0);
      buffer =
          sym (put-none buffer 0)
          ∙ ap (put buffer 0) (sym (nothing_shown area window none g.C.Colour.shown cells))
          ∙ sym (cond-true _ _ buffer (long area window none size buffer))
          ∙ sym (cond-true (granted area window) _ buffer is.0);
    }
