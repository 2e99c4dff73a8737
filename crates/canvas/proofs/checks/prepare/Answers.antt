use Rattle.std.proofs.Common.{length, ap, ◌∙◌}
use Rattle.plan.specs.Page.{page_of}
use Rattle.cells.specs.Gathers.{changed}
use Rattle.cells.specs.Passes.{fresh}
use Rattle.canvas.specs.Views.{check_answer}
use Rattle.canvas.proofs.Opening.{memory-is}
use Rattle.canvas.proofs.checks.prepare.Goals as goal

pub returns-clause-cells : goal.returns-clause-cells
returns-clause-cells g c =
    let memory = c.args.memory.now in
    let colour = c.args.colour in
    c.clear.ensures.cells
    ∙ ap (λ a. changed a a (fresh colour) memory) c.frame_of-frame.ensures.area
    ∙ memory-is colour c.args.rectangle memory (check_answer (page_of c.args.plan.now) c.args.rectangle (length memory))
