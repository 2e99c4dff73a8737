-- A canvas drawn from the bottom up.
-- Assumes nothing.
use Rattle.std.specs.Prelude.{ℕ, zero, suc}
use Rattle.raster.specs.Meanings.{Meaning}
use Rattle.raster.specs.declared.covers.Cover.{Cover}
use Rattle.cells.specs.declared.rectangles.Rectangle.{Rectangle}
use Rattle.canvas.specs.Views.{View, laid}

-- a canvas after the first objects, as many as the count, are laid on a window one after another, all with one mask and image
abbrev pub stacked : {C : Type 0} → (C → C → Cover → C) → View C → ℕ → Rectangle → Meaning Cover → Meaning C → View C
stacked blended v zero window mask image = v
stacked blended v (suc k) window mask image = laid blended (stacked blended v k window mask image) k window mask image
