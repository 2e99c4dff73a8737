use Rattle.std.proofs.Common.{◌≡◌, ℕ, true, false, List, Some, None, Ok, Err, Option, sym, refl, ap, ◌∙◌, ap₂, rules}
use Rattle.std.proofs.lemmas.Bool.{cond-true, cond-false}
use Rattle.raster.specs.declared.touches.Touch.{Touch}
use Rattle.cells.specs.Gathers.{first, or_else, total, changed}
use Rattle.cells.specs.Outcomes.{in_the_way, lay_counts, laid_cells}
use Rattle.cells.specs.Passes.{out_of_turn, missing, at_level, above_level, laid_cell}
use Rattle.cells.specs.Windows.{granted}
use Rattle.cells.specs.declared.rectangles.Rectangle.{Rectangle}
use Rattle.cells.specs.declared.refusals.Refusal.{Refusal}
use Rattle.cells.specs.declared.refusals.Refusal.TheVariants.{Window}
use Rattle.cells.specs.declared.stored.Cell.{Cell}
use Rattle.cells.proofs.Columns.{columns_none, no_total, no_change, no_first}
use Rattle.cells.proofs.windows.lay_window.Goals as goal

module _ {C : Type 0} (k : ℕ) (touch : ℕ → ℕ → Touch C) (area window : Rectangle) (cells : List (Cell C)) where
  refused : granted area window ≡ false → Some Window ≡ in_the_way k touch area window cells
  unfolding in_the_way
  refused no-grant = sym (cond-false (granted area window) _ _ no-grant)

  -- a pane's area and window are the frame's and the caller's
  tested : (a w : Rectangle) → a ≡ area → w ≡ window → granted area window ≡ true → (o : Option Refusal) →
      o ≡ or_else (first a w (out_of_turn k) cells) (first a w (missing k touch) cells) → o ≡ in_the_way k touch area window cells
  unfolding in_the_way
  tested a w ea ew grant o is =
      is
      ∙ ap₂ (λ x y. or_else (first x y (out_of_turn k) cells) (first x y (missing k touch) cells)) ea ew
      ∙ sym (cond-true (granted area window) _ (Some Window) grant)

pub returns-in_err-pane : goal.returns-in_err-pane
returns-in_err-pane g c =
    let area = c.args.frame.area in
    let cells = c.args.cells.now in
    let way = refused c.args.k (g.L.Touching.touch c.args.layer.now) area c.args.window cells c.in_err-pane.ensures.answer.0 in
    let is : c.from_residual.result ≡ Err Window = search rules in
    record {
      answer = is ∙ ap (lay_counts c.args.k area c.args.window cells) way;
      cells = ap (laid_cells g.C.Colour.blended c.args.k (g.L.Touching.touch c.args.layer.now) area c.args.window cells) way;
    }

pub returns-then-has_no_column : goal.returns-then-has_no_column
returns-then-has_no_column g c =
    let touch = g.L.Touching.touch c.args.layer.now in
    let k = c.args.k in
    let area = c.args.frame.area in
    let window = c.args.window in
    let cells = c.args.cells.now in
    let is = c.in_ok-pane.ensures.answer in
    let none = columns_none _ _ _ is.2 c.has_no_column.ensures.value c.if-has_no_column.true in
    let way = tested k touch area window cells area window refl refl is.0 None (ap₂ or_else (no_first area window none (out_of_turn k) cells) (no_first area window none (missing k touch) cells)) in
    record {
      answer =
          ap₂ (λ m n. Ok (m, n)) (no_total area window none (at_level k) cells) (no_total area window none (above_level k) cells)
          ∙ ap (lay_counts k area window cells) way;
      cells =
          no_change area window none (laid_cell g.C.Colour.blended k touch) cells
          ∙ ap (laid_cells g.C.Colour.blended k touch area window cells) way;
    }

pub returns-in-Some : goal.returns-in-Some
returns-in-Some g c =
    let touch = g.L.Touching.touch c.args.layer.now in
    let area = c.args.frame.area in
    let cells = c.args.cells.now in
    let is = c.in_ok-pane.ensures.answer in
    let way = tested c.args.k touch area c.args.window cells _ _ is.1 is.2 is.0 _ c.in-Some.ensures.answer in
    record {
      answer = ap (lay_counts c.args.k area c.args.window cells) way;
      cells = ap (laid_cells g.C.Colour.blended c.args.k touch area c.args.window cells) way;
    }

pub returns-in-None : goal.returns-in-None
returns-in-None g c =
    let touch = g.L.Touching.touch c.args.layer.now in
    let k = c.args.k in
    let area = c.args.frame.area in
    let window = c.args.window in
    let cells = c.args.cells.now in
    let is = c.in_ok-pane.ensures.answer in
    let way = tested k touch area window cells _ _ is.1 is.2 is.0 _ c.in-None.ensures.answer in
    let up = c.lay_cells.ensures.raised ∙ ap₂ (λ a w. total a w (at_level k) cells) is.1 is.2 in
    let over = c.lay_cells.ensures.passed ∙ ap₂ (λ a w. total a w (above_level k) cells) is.1 is.2 in
    let lay = laid_cell g.C.Colour.blended k touch in
    record {
      answer = ap₂ (λ m n. Ok (m, n)) up over ∙ ap (lay_counts k area window cells) way;
      cells = c.lay_cells.ensures.cells ∙ ap₂ (λ a w. changed a w lay cells) is.1 is.2 ∙ ap (laid_cells g.C.Colour.blended k touch area window cells) way;
    }
