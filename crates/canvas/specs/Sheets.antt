-- Sheets: what a page would look like with every sample there.
-- Assumes nothing.
use Rattle.std.specs.Prelude.{◌≡◌, ℕ, suc, ◌<◌, true, List, [], ◌∷◌, ◌++◌, length, take, is_some, Some}
use Rattle.plan.specs.Page.{Page}
use Rattle.plan.specs.declared.layout.Row.{Row}
use Rattle.raster.specs.Covers.{full_cover}
use Rattle.raster.specs.Meanings.{Meaning, is_place}
use Rattle.raster.specs.Touches.{touch_at}
use Rattle.raster.specs.declared.covers.Cover.{Cover}
use Rattle.raster.specs.declared.touches.Touch.{Touch}
use Rattle.raster.specs.declared.touches.Touch.TheVariants.{Bare, MaskMissing, ImageMissing, Dab}
use Rattle.cells.specs.Passes.{laid_over}
use Rattle.canvas.specs.Placements.{placement_of}

-- no place of a meaning is missing
abbrev pub Whole : {S : Type 0} → Meaning S → Type 0
Whole m = (column row : ℕ) → is_place m column row ≡ true → is_some (m.sample column row) ≡ true

-- a page colour, a page, and for each of its rows a mask meaning and an image meaning with no place missing
pub record Sheet (C : Type 0) : Type 0 where
  pub colour : C
  pub page : Page
  pub mask : ℕ → Meaning Cover
  pub image : ℕ → Meaning C
  pub mask_whole : (k : ℕ) → k < length page.rows → Whole (mask k)
  pub image_whole : (k : ℕ) → k < length page.rows → Whole (image k)

-- a source's meaning belongs to a whole one: the same size, and every sample that it has is the whole one's
pub record Belongs {S : Type 0} (m whole : Meaning S) : Type 0 where
  pub width : m.width ≡ whole.width
  pub height : m.height ≡ whole.height
  pub samples : (column row : ℕ) (sample : S) → is_place m column row ≡ true → m.sample column row ≡ Some sample → whole.sample column row ≡ Some sample

-- a mask source and an image source that are handed for the object `k` belong to the sheet; where it has no row `k`, any do
pub record Handed {C : Type 0} (sheet : Sheet C) (k : ℕ) (mask : Meaning Cover) (image : Meaning C) : Type 0 where
  pub masks : k < length sheet.page.rows → Belongs mask (sheet.mask k)
  pub images : k < length sheet.page.rows → Belongs image (sheet.image k)

-- the touches of some rows at a position, of which the first has number `k`
abbrev pub touches_from : {C : Type 0} → Sheet C → ℕ → List Row → ℕ → ℕ → List (Touch C)
touches_from sheet k [] column row = []
touches_from sheet k (r ∷ rows) column row =
    touch_at (placement_of r) (sheet.mask k) (sheet.image k) column row ∷ touches_from sheet (suc k) rows column row

-- the touches of a sheet's objects at a position, in the order in which they are laid
abbrev pub touches : {C : Type 0} → Sheet C → ℕ → ℕ → List (Touch C)
touches sheet column row = touches_from sheet 0 sheet.page.rows column row

-- a colour after some touches
abbrev pub stacked : {C : Type 0} → (C → C → Cover → C) → C → List (Touch C) → C
stacked blended colour [] = colour
stacked blended colour (touch ∷ more) = stacked blended (laid_over blended colour touch) more

-- the colour to a level at a position: the page colour after the touches of the objects below that level
abbrev pub colour_to : {C : Type 0} → (C → C → Cover → C) → Sheet C → ℕ → ℕ → ℕ → C
colour_to blended sheet level column row = stacked blended sheet.colour (take level (touches sheet column row))

-- the dabs among some touches, in order
abbrev pub dabs : {C : Type 0} → List (Touch C) → List (C × Cover)
dabs [] = []
dabs (Bare ∷ more) = dabs more
dabs (MaskMissing ∷ more) = dabs more
dabs (ImageMissing ∷ more) = dabs more
dabs (Dab colour cover ∷ more) = (colour, cover) ∷ dabs more

-- the visible list of a position: the page colour as a dab of full cover, then the dabs in order
abbrev pub visible : {C : Type 0} → Sheet C → ℕ → ℕ → List (C × Cover)
visible sheet column row = (sheet.colour, full_cover) ∷ dabs (touches sheet column row)

-- two visible lists agree from a full cover upward: they have equal endings that begin with a dab of full cover
pub record Agree {C : Type 0} (one other : List (C × Cover)) : Type 0 where
  pub below : List (C × Cover)
  pub other_below : List (C × Cover)
  pub covering : C
  pub above : List (C × Cover)
  pub ends : one ≡ below ++ ((covering, full_cover) ∷ above)
  pub other_ends : other ≡ other_below ++ ((covering, full_cover) ∷ above)
