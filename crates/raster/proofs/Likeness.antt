-- Sources of one meaning: what is looked up in them is the same.
-- Assumes nothing.
use Rattle.std.proofs.Common.{◌≡◌, ℕ, ◌-◌, Bool, true, false, cond, ◌&&◌, ltb, leb, refl, ap, ap₂}
use Rattle.std.proofs.lemmas.Bool.{ltb-true, and_parts}
use Rattle.raster.specs.Meanings.{Meaning, OneMeaning, is_place, found, looked}
use Rattle.raster.specs.Touches.{looked_from, joined, touch_at, within}
use Rattle.raster.specs.declared.covers.Cover.{Cover}
use Rattle.raster.specs.declared.sources.Look.{Look}
use Rattle.raster.specs.declared.sources.Look.TheVariants.{Outside}
use Rattle.raster.specs.declared.touches.Placement.{Placement}
use Rattle.raster.specs.declared.touches.Touch.TheVariants.{Bare}

module _ {S : Type 0} (one other : Meaning S) (same : OneMeaning one other) where
  -- at a place the samples agree, and elsewhere both are outside
  pub looks : (column row : ℕ) → looked one column row ≡ looked other column row
  looks column row =
      rw (← same.wide, ← same.high)
      (at (is_place one column row) (λ place. let p = and_parts (ltb column one.width) (ltb row one.height) place in
      ap found (same.samples column row (ltb-true _ _ p.0) (ltb-true _ _ p.1))))
    where
      at : (b : Bool) {x y : Look S} → (b ≡ true → x ≡ y) → cond b x Outside ≡ cond b y Outside
      at true e = e refl
      at false e = refl

  pub looks-from : (left top column row : ℕ) → looked_from one left top column row ≡ looked_from other left top column row
  looks-from left top column row = ap (λ l. cond (leb left column && leb top row) l Outside) (looks (column - left) (row - top))

-- masks and images of the same meanings touch alike
pub touches : {C : Type 0} (p : Placement) (mask mask' : Meaning Cover) (image image' : Meaning C) → OneMeaning mask mask' → OneMeaning image image' → (column row : ℕ) → touch_at p mask image column row ≡ touch_at p mask' image' column row
touches p mask mask' image image' m i column row =
    ap₂ (λ x y. cond (within p column row) (joined x y) Bare) (looks-from mask mask' m _ _ column row) (looks-from image image' i _ _ column row)
