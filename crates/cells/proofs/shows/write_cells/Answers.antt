use Rattle.std.proofs.Common.{◌≡◌, ◌<◌, ◌≤◌, length, refl, ap, ◌∙◌, arith}
use Rattle.raster.specs.Shown.{put}
use Rattle.cells.proofs.Lines.{span_is}
use Rattle.cells.proofs.Places.{granted-from}
use Rattle.cells.proofs.Passing.{few_cells, sums-none, sums_same, sums-whole}
use Rattle.cells.proofs.Showing.{written_none, written_next, written_all, next_fits, whole-window, next_row, nothing_left}
use Rattle.cells.proofs.shows.write_cells.Goals as goal

pub loop-row-init : goal.loop-row-init
loop-row-init g c =
    let pane = c.args.pane in
    let ok = granted-from pane.area pane.window pane.passes in
    let long = ap length (whole-window g.C.Colour.shown pane.area pane.window ok c.args.cells.now) in
    record { written = written_none _ _ _ _ refl (omega (arith, c.requires)); finished = sums-none pane.area pane.window _ ok _ }

pub show_row-next-requires : goal.show_row-next-requires
show_row-next-requires g c =
    let pane = c.args.pane in
    let ok = granted-from pane.area pane.window pane.passes in
    let row = c.loop-row.row in
    let cells = c.args.cells.now in
    let top : pane.window.top ≤ row = omega arith in
    let is = span_is cells _ _ _ _ c.row_span-span.ensures.from c.row_span-span.ensures.to in
    let parts = next_row g.C.Colour.shown pane.area pane.window ok _ top c.loop-row-test.true cells _ is in
    record {
      few = omega (arith, few_cells pane.area pane.window row cells _ is, pane.narrow, ok.across.begins, ok.across.ends);
      room = next_fits _ _ _ _ _ _ c.loop-row.invariant.written _ _ parts;
    }

pub loop-row-preserved : goal.loop-row-preserved
loop-row-preserved g c =
    let pane = c.args.pane in
    let ok = granted-from pane.area pane.window pane.passes in
    let row = c.loop-row.row in
    let cells = c.args.cells.now in
    let top : pane.window.top ≤ row = omega arith in
    let bottom : row < pane.window.bottom = omega arith in
    let is = span_is cells _ _ _ _ c.row_span-span.ensures.from c.row_span-span.ensures.to in
    let done = c.show_row-next.ensures in
    let parts = next_row g.C.Colour.shown pane.area pane.window ok _ top bottom cells _ is in
    record {
      written = written_next _ _ _ _ _ _ c.loop-row.invariant.written _ _ parts _ _ done.buffer done.next;
      finished = sums_same pane.area pane.window _ ok (λ column n. refl) row top bottom cells _ is _ _ _ done.answer (omega arith) c.loop-row.invariant.finished;
    }

pub returns : goal.returns
returns g c =
    let pane = c.args.pane in
    let ok = granted-from pane.area pane.window pane.passes in
    let edge : c.loop-row.row ≡ pane.window.bottom = omega (arith, ok.down.runs) in
    record {
      answer = sums-whole pane.area pane.window _ ok _ edge _ _ _ c.loop-row.invariant.finished;
      buffer =
          (written_all _ _ _ _ _ _ c.loop-row.invariant.written (nothing_left g.C.Colour.shown pane.area pane.window ok _ edge _)).0
          ∙ ap (put c.args.buffer.now 0) (whole-window g.C.Colour.shown pane.area pane.window ok _);
    }
