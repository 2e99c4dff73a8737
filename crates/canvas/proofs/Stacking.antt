-- Colours to a level, and what is visible of them.
-- Assumes nothing.
use Rattle.std.proofs.Common.{◌≡◌, ℕ, zero, suc, ◌+◌, ◌≤◌, List, [], ◌∷◌, ◌++◌, length, take, Some, sym, refl, ap, ◌∙◌, ap₂, add-one, arith}
use Rattle.std.specs.List.{slice_get}
use Rattle.std.proofs.lemmas.List.{take_all}
use Rattle.plan.specs.declared.layout.Row.{Row}
use Rattle.raster.specs.Covers.{full_cover}
use Rattle.raster.specs.Touches.{touch_at}
use Rattle.raster.specs.declared.covers.Cover.{Cover}
use Rattle.raster.specs.declared.touches.Touch.{Touch}
use Rattle.raster.specs.declared.touches.Touch.TheVariants.{Bare, MaskMissing, ImageMissing, Dab}
use Rattle.cells.specs.Passes.{laid_over}
use Rattle.canvas.specs.Placements.{placement_of}
use Rattle.canvas.specs.Sheets.{Sheet, touches_from, touches, stacked, colour_to, dabs, visible, Agree}

module _ {C : Type 0} (blended : C → C → Cover → C) where
  -- one touch more
  stacked-next : (colour : C) (k : ℕ) (ts : List (Touch C)) (t : Touch C) → slice_get ts k ≡ Some t →
      stacked blended colour (take (suc k) ts) ≡ laid_over blended (stacked blended colour (take k ts)) t
  stacked-next colour k [] t e = absurd cc
  stacked-next colour zero (u ∷ ts) t e = let same : u ≡ t = cc in ap (laid_over blended colour) same
  stacked-next colour (suc k) (u ∷ ts) t e = stacked-next (laid_over blended colour u) k ts t e

  -- the touches of a row that is there
  touches-nth : (sheet : Sheet C) (i k : ℕ) (rows : List Row) (r : Row) (column row : ℕ) → slice_get rows k ≡ Some r →
      slice_get (touches_from sheet i rows column row) k ≡ Some (touch_at (placement_of r) (sheet.mask (i + k)) (sheet.image (i + k)) column row)
  touches-nth sheet i k [] r column row e = absurd cc
  touches-nth sheet i zero (s ∷ rows) r column row e =
      let same : s ≡ r = cc in
      let index : i ≡ i + 0 = omega arith in
      ap₂ (λ n x. Some (touch_at (placement_of x) (sheet.mask n) (sheet.image n) column row)) index same
  touches-nth sheet i (suc k) (s ∷ rows) r column row e =
      let index : suc i + k ≡ i + suc k = omega arith in
      touches-nth sheet (suc i) k rows r column row e ∙ ap (λ n. Some (touch_at (placement_of r) (sheet.mask n) (sheet.image n) column row)) index

  pub touches-length : (sheet : Sheet C) (i : ℕ) (rows : List Row) (column row : ℕ) → length (touches_from sheet i rows column row) ≡ length rows
  touches-length sheet i [] column row = refl
  touches-length sheet i (r ∷ rows) column row = ap suc (touches-length sheet (suc i) rows column row)

  -- the colour to the next level
  pub colour-next : (sheet : Sheet C) (k : ℕ) (r : Row) (column row : ℕ) → slice_get sheet.page.rows k ≡ Some r →
      colour_to blended sheet (k + 1) column row
      ≡ laid_over blended (colour_to blended sheet k column row) (touch_at (placement_of r) (sheet.mask k) (sheet.image k) column row)
  colour-next sheet k r column row e =
      let index : 0 + k ≡ k = omega arith in
      ap (λ n. colour_to blended sheet n column row) (add-one k)
      ∙ stacked-next sheet.colour k (touches sheet column row) _
      (touches-nth sheet 0 k sheet.page.rows r column row e
      ∙ ap (λ n. Some (touch_at (placement_of r) (sheet.mask n) (sheet.image n) column row)) index)

  -- dabs laid one after another
  abbrev dabbed : C → List (C × Cover) → C
  dabbed colour [] = colour
  dabbed colour (d ∷ more) = dabbed (blended colour d.0 d.1) more

  stacked-dabs : (colour : C) (ts : List (Touch C)) → stacked blended colour ts ≡ dabbed colour (dabs ts)
  stacked-dabs colour [] = refl
  stacked-dabs colour (Bare ∷ ts) = stacked-dabs colour ts
  stacked-dabs colour (MaskMissing ∷ ts) = stacked-dabs colour ts
  stacked-dabs colour (ImageMissing ∷ ts) = stacked-dabs colour ts
  stacked-dabs colour (Dab above cover ∷ ts) = stacked-dabs (blended colour above cover) ts

  module _ (hides : (below above : C) → blended below above full_cover ≡ above) where
    -- a full cover hides all that lies below it
    covered : (colour : C) (below : List (C × Cover)) (covering : C) (above : List (C × Cover)) →
        dabbed colour (below ++ ((covering, full_cover) ∷ above)) ≡ dabbed covering above
    covered colour [] covering above = ap (λ c. dabbed c above) (hides colour covering)
    covered colour (d ∷ below) covering above = covered (blended colour d.0 d.1) below covering above

    -- the finished colour is that of the visible list, over any colour
    seen : (sheet : Sheet C) (column row : ℕ) (under : C) →
        colour_to blended sheet (length sheet.page.rows) column row ≡ dabbed under (visible sheet column row)
    seen sheet column row under =
        let long : length (touches sheet column row) ≤ length sheet.page.rows = omega (arith, touches-length sheet 0 sheet.page.rows column row) in
        ap (stacked blended sheet.colour) (take_all (length sheet.page.rows) (touches sheet column row) long)
        ∙ stacked-dabs sheet.colour (touches sheet column row)
        ∙ ap (λ c. dabbed c (dabs (touches sheet column row))) (sym (hides under sheet.colour))

    -- two sheets that agree from a full cover upward have the same finished colour
    pub agreed : (one other : Sheet C) (column row column' row' : ℕ) → Agree (visible one column row) (visible other column' row') →
        colour_to blended one (length one.page.rows) column row ≡ colour_to blended other (length other.page.rows) column' row'
    agreed one other column row column' row' a =
        seen one column row one.colour
        ∙ ap (dabbed one.colour) a.ends
        ∙ covered one.colour a.below a.covering a.above
        ∙ sym (covered other.colour a.other_below a.covering a.above)
        ∙ sym (ap (dabbed other.colour) a.other_ends)
        ∙ sym (seen other column' row' other.colour)
