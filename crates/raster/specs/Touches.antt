-- The touch of a layout object at a page position.
-- Assumes nothing.
use Rattle.std.specs.Prelude.{◌≡◌, ℕ, ◌+◌, ◌-◌, Bool, cond, ◌&&◌, ◌==◌, nat_le, nat_lt}
use Rattle.raster.specs.Meanings.{Meaning, OneMeaning, looked}
use Rattle.raster.specs.declared.covers.Cover.{Cover}
use Rattle.raster.specs.declared.sources.Look.{Look}
use Rattle.raster.specs.declared.sources.Look.TheVariants.{Outside, Missing, Found}
use Rattle.raster.specs.declared.touches.Placement.{Placement}
use Rattle.raster.specs.declared.touches.Touch.{Touch}
use Rattle.raster.specs.declared.touches.Touch.TheVariants.{Bare, MaskMissing, ImageMissing, Dab}

-- whether a position lies in the layout rectangle, whose right column and bottom row are left out
abbrev pub within : Placement → ℕ → ℕ → Bool
within p column row =
    nat_le p.lhoff column && nat_lt column (p.lhoff + p.lwidth) && nat_le p.lvoff row && nat_lt row (p.lvoff + p.lheight)

-- what a source with its corner at (left, top) has at a position
abbrev pub looked_from : {S : Type 0} → Meaning S → ℕ → ℕ → ℕ → ℕ → Look S
looked_from m left top column row = cond (nat_le left column && nat_le top row) (looked m (column - left) (row - top)) Outside

-- under a mask that has a cover there, the image decides
abbrev pub dabbed : {C : Type 0} → Cover → Look C → Touch C
dabbed cover Outside = Bare
dabbed cover Missing = ImageMissing
dabbed cover (Found colour) = Dab colour cover

-- the mask decides first, and cover 0 is bare
abbrev pub joined : {C : Type 0} → Look Cover → Look C → Touch C
joined Outside image = Bare
joined Missing image = MaskMissing
joined (Found cover) image = cond (cover.amount == 0) Bare (dabbed cover image)

-- the touch at a position, of a placement, what its mask means and what its image means
abbrev pub touch_at : {C : Type 0} → Placement → Meaning Cover → Meaning C → ℕ → ℕ → Touch C
touch_at p mask image column row =
    cond (within p column row)
    (joined (looked_from mask (p.lhoff + p.mask_across) (p.lvoff + p.mask_down) column row)
    (looked_from image (p.lhoff + p.image_across) (p.lvoff + p.image_down) column row))
    Bare

-- the touch is the same for every mask and image of the same meanings
abbrev pub Alike : {C : Type 0} → Placement → Meaning Cover → Meaning C → ℕ → ℕ → Touch C → Type 0
Alike {C} p mask image column row touch =
    (mask' : Meaning Cover) (image' : Meaning C) → OneMeaning mask mask' → OneMeaning image image' → touch ≡ touch_at p mask' image' column row
