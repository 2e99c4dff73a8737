-- The touch by sources that belong to a sheet is the sheet's own, where nothing is missing.
-- Assumes nothing.
use Rattle.std.proofs.Common.{◌≡◌, ℕ, ◌+◌, ◌-◌, Bool, true, false, cond, ◌&&◌, eqb, ltb, leb, ◌⊎◌, Some, None, Option, sym, refl, ap, ◌∙◌, subst, ap₂, inl, inr}
use Rattle.raster.specs.Meanings.{Meaning, is_place, found, looked}
use Rattle.raster.specs.Touches.{within, looked_from, dabbed, joined, touch_at}
use Rattle.raster.specs.declared.covers.Cover.{Cover}
use Rattle.raster.specs.declared.sources.Look.{Look}
use Rattle.raster.specs.declared.sources.Look.TheVariants.{Outside, Missing, Found}
use Rattle.raster.specs.declared.touches.Placement.{Placement}
use Rattle.raster.specs.declared.touches.Touch.{Touch}
use Rattle.raster.specs.declared.touches.Touch.TheVariants.{Bare, MaskMissing}
use Rattle.cells.specs.Passes.{missing_touch}
use Rattle.canvas.specs.Sheets.{Belongs}

-- a look at a source that belongs is missing, or is the whole one's
Near : {S : Type 0} → Look S → Look S → Type 0
Near look whole = (look ≡ Missing) ⊎ (look ≡ whole)

module _ {S : Type 0} (m whole : Meaning S) (belongs : Belongs m whole) where
  same-places : (column row : ℕ) → is_place m column row ≡ is_place whole column row
  same-places column row = ap₂ (λ w h. ltb column w && ltb row h) belongs.width belongs.height

  near-found : (column row : ℕ) (o : Option S) → m.sample column row ≡ o → is_place m column row ≡ true → Near (found o) (found (whole.sample column row))
  unfolding Near
  near-found column row None e place = inl refl
  near-found column row (Some s) e place = inr (ap found (sym (belongs.samples column row s place e)))

  near-place : (column row : ℕ) (b : Bool) → is_place m column row ≡ b →
      Near (cond b (found (m.sample column row)) Outside) (cond b (found (whole.sample column row)) Outside)
  unfolding Near
  near-place column row true place = near-found column row (m.sample column row) refl place
  near-place column row false place = inr refl

  near-looked : (column row : ℕ) → Near (looked m column row) (looked whole column row)
  unfolding Near
  near-looked column row =
      let e = same-places column row in
      subst (λ b. Near (looked m column row) (cond b (found (whole.sample column row)) Outside)) e (near-place column row (is_place m column row) refl)

  near-from : (left top column row : ℕ) → Near (looked_from m left top column row) (looked_from whole left top column row)
  unfolding Near
  near-from left top column row = by (leb left column && leb top row)
    where
      by : (b : Bool) → Near (cond b (looked m (column - left) (row - top)) Outside) (cond b (looked whole (column - left) (row - top)) Outside)
      by true = near-looked (column - left) (row - top)
      by false = inr refl

module _ {C : Type 0} (column row : ℕ) where
  -- a touch that lacks something is refused
  gone-mask : (o : Touch C) → o ≡ MaskMissing → missing_touch column row o ≡ None → ⊥
  gone-mask o e h = let f = ap (missing_touch column row) e in cc

  near-dabbed : (cover : Cover) (image whole : Look C) → Near image whole → missing_touch column row (dabbed cover image) ≡ None → dabbed cover image ≡ dabbed cover whole
  unfolding Near
  near-dabbed cover image whole (inl e) h =
      let f = ap (λ x. missing_touch column row (dabbed cover x)) e in
      absurd cc
  near-dabbed cover image whole (inr e) h = ap (dabbed cover) e

  near-cover : (cover : Cover) (b : Bool) (image whole : Look C) → Near image whole →
      missing_touch column row (cond b Bare (dabbed cover image)) ≡ None → cond b Bare (dabbed cover image) ≡ cond b Bare (dabbed cover whole)
  near-cover cover true image whole near h = refl
  near-cover cover false image whole near h = near-dabbed cover image whole near h

  near-joined : (mask mask_whole : Look Cover) (image image_whole : Look C) → Near mask mask_whole → Near image image_whole →
      missing_touch column row (joined mask image) ≡ None → joined mask image ≡ joined mask_whole image_whole
  unfolding Near
  near-joined Outside mask_whole image image_whole (inl e) near h = absurd cc
  near-joined Outside mask_whole image image_whole (inr e) near h = ap (λ x. joined x image_whole) e
  near-joined Missing mask_whole image image_whole by near h = absurd cc
  near-joined (Found cover) mask_whole image image_whole (inl e) near h = absurd cc
  near-joined (Found cover) mask_whole image image_whole (inr e) near h =
      near-cover cover (eqb cover.amount 0) image image_whole near h ∙ ap (λ x. joined x image_whole) e

  pub same-touch : (p : Placement) (mask mask_whole : Meaning Cover) (image image_whole : Meaning C) → Belongs mask mask_whole → Belongs image image_whole →
      missing_touch column row (touch_at p mask image column row) ≡ None → touch_at p mask image column row ≡ touch_at p mask_whole image_whole column row
  same-touch p mask mask_whole image image_whole masks images h =
      by (within p column row) h
    where
      by : (b : Bool) →
          missing_touch column row
          (cond b
          (joined (looked_from mask (p.lhoff + p.mask_across) (p.lvoff + p.mask_down) column row)
          (looked_from image (p.lhoff + p.image_across) (p.lvoff + p.image_down) column row))
          Bare)
          ≡ None →
          cond b
          (joined (looked_from mask (p.lhoff + p.mask_across) (p.lvoff + p.mask_down) column row)
          (looked_from image (p.lhoff + p.image_across) (p.lvoff + p.image_down) column row))
          Bare
          ≡ cond b
          (joined (looked_from mask_whole (p.lhoff + p.mask_across) (p.lvoff + p.mask_down) column row)
          (looked_from image_whole (p.lhoff + p.image_across) (p.lvoff + p.image_down) column row))
          Bare
      by true g =
          near-joined _ _ _ _ (near-from mask mask_whole masks (p.lhoff + p.mask_across) (p.lvoff + p.mask_down) column row)
          (near-from image image_whole images (p.lhoff + p.image_across) (p.lvoff + p.image_down) column row) g
      by false g = refl
