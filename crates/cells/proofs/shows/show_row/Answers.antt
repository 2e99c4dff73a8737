use Rattle.std.proofs.Common.{◌≡◌, ◌+◌, ◌*◌, ◌-◌, ◌∷◌, length, take, drop, sym, ap, ◌∙◌, suc-mul, arith, length-drop}
use Rattle.std.proofs.lemmas.List.{length-take-le, drop_more}
use Rattle.raster.proofs.Puts.{copied, put-buffer}
use Rattle.cells.specs.Passes.{at_level}
use Rattle.cells.specs.Shows.{shown_cells}
use Rattle.cells.proofs.Lines.{sum_more}
use Rattle.cells.proofs.Showing.{put_full, next_fits, written_next}
use Rattle.cells.proofs.shows.show_row.Goals as goal

pub loop-i-preserved : goal.loop-i-preserved
loop-i-preserved g c =
    let shown = g.C.Colour.shown in
    let cells = c.args.cells.now in
    let i = c.loop-i.i in
    let buffer = c.loop-i.buffer in
    let to = c.args.to + i * c.BYTES-size.result in
    let count = to + c.BYTES-size.result - to in
    let part = take count (drop to buffer) in
    let cell = c.index-cells-i.result in
    let bytes = shown cell.colour in
    let parts : drop i cells ≡ cell ∷ drop (i + 1) cells = drop_more cells i cell (omega arith) ∙ ap (λ x. x ∷ drop (i + 1) cells) (sym c.index-cells-i.is) in
    let rest = shown_cells shown (drop (i + 1) cells) in
    let fits = next_fits _ _ _ _ _ _ c.loop-i.invariant.written bytes rest (ap (shown_cells shown) parts) in
    let size = c.BYTES-size.ensures ∙ sym (g.met.C.Colour.sized cell.colour) in
    let long : length part ≡ length bytes = length-take-le count (drop to buffer) (omega (arith, length-drop to buffer)) ∙ omega arith in
    let filled = c.show.ensures.buffer ∙ sym (put-buffer part bytes 0 (omega arith)) ∙ put_full part bytes long in
    record {
      written =
          written_next _ _ _ _ _ _ c.loop-i.invariant.written bytes rest (ap (shown_cells shown) parts) _ _
          (copied buffer bytes c.show.new.buffer to count filled (omega arith))
          (omega (arith, size, suc-mul i c.BYTES-size.result));
      finished = sum_more (at_level c.args.full 0 0) cells i _ _ _ (omega arith) c.index-cells-i.is c.loop-i.invariant.finished (c.at_level-finished.ensures.value 0 0);
      few = omega (arith, c.loop-i.invariant.few, c.at_level-finished.ensures.bound);
    }
