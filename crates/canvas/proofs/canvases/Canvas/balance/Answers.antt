use Rattle.std.proofs.Common.{◌+◌, eqb, ap, ◌∙◌, eq-eqb}
use Rattle.canvas.specs.Canvases.{view_of}
use Rattle.canvas.specs.Views.{standing}
use Rattle.canvas.proofs.Keeping.{promise}
use Rattle.canvas.proofs.Worked.{cases}
use Rattle.canvas.proofs.canvases.Canvas.balance.Goals as goal

pub returns-clause-balanced : goal.returns-clause-balanced
returns-clause-balanced g c sheet run =
    let v = view_of c.args.self.now in
    let kept = promise g.C.Colour.blended g.met.C.Colour.hides in
    c.agrees.ensures.value
    ∙ ap (λ n. eqb c.args.raised (c.args.removed + n)) c.tally-levels.ensures.levels
    ∙ eq-eqb c.args.raised (c.args.removed + standing v) (kept sheet v c.args.raised c.args.removed run).balanced

pub returns-clause-promise : goal.returns-clause-promise
returns-clause-promise g c = promise g.C.Colour.blended g.met.C.Colour.hides

pub returns-clause-cases : goal.returns-clause-cases
returns-clause-cases g c = cases
