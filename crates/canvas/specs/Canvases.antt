-- What there is to see of a canvas.
-- Assumes nothing.
use Rattle.plan.specs.Page.{page_of}
use Rattle.canvas.specs.Views.{View}
use Rattle.canvas.specs.declared.canvases.Canvas.{Canvas}

-- its page, its rectangle and the caller's memory
abbrev pub view_of : {C : Type 0} → Canvas C → View C
view_of canvas = record { page = page_of canvas.plan; area = canvas.frame.area; cells = canvas.cells.now }
