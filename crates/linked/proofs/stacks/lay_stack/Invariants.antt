use Rattle.std.proofs.Common.{◌≡◌}
use Rattle.canvas.specs.Canvases.{view_of}
use Rattle.linked.specs.Stacks.{stacked}
use Rattle.linked.proofs.stacks.lay_stack.Given as goal

abbrev pub invariant-loop-k : goal.invariant-loop-k
invariant-loop-k g l =
    (view_of l.canvas ≡ stacked g.C.Colour.blended (view_of l.initial.canvas) l.k l.window (g.M.Source.meaning l.mask) (g.I.Source.meaning l.image))
    × (l.canvas.cells.ghost_name ≡ l.initial.canvas.cells.ghost_name)
