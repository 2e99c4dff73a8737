-- The fields of a page as numbers of their widths, as they are in every plan that a program holds. Assumes nothing.
use Rattle.std.specs.Prelude.{ℕ, ◌^◌, ◌<◌, List, All, Some, None, Option, FitsSigned}
use Rattle.std.specs.Int.{w8}
use Rattle.plan.specs.Page.{Page}
use Rattle.plan.specs.declared.layout.Layout.{Layout}
use Rattle.plan.specs.declared.layout.Object.{Object}
use Rattle.plan.specs.declared.layout.Objects.{Objects}
use Rattle.plan.specs.declared.layout.Objects.TheVariants.{Separate, Both, Image, Mask}
use Rattle.plan.specs.declared.layout.Row.{Row}
use Rattle.plan.specs.declared.page.Collection.{Collection}
use Rattle.plan.specs.declared.page.PageHeader.{PageHeader}
use Rattle.plan.specs.declared.page.Resolution.{Resolution}

-- a number fits in some bytes
abbrev pub InBytes : ℕ → ℕ → Type 0
InBytes w n = n < 256 ^ w

-- a page collection
pub record CollectionFits (c : Collection) : Type 0 where
  pub pcoff : InBytes 8 c.pcoff
  pub pclen : InBytes 4 c.pclen
  pub pcdr : InBytes 2 c.pcdr

-- a page collection, where there is one
abbrev pub MaybeCollectionFits : Option Collection → Type 0
MaybeCollectionFits None = Unit {0}
MaybeCollectionFits (Some c) = CollectionFits c

-- a page header
pub record HeaderFits (h : PageHeader) : Type 0 where
  pub pageid : InBytes 2 h.pageid
  pub pheight : InBytes 4 h.pheight
  pub pwidth : InBytes 4 h.pwidth
  pub or : InBytes 2 h.or
  pub pcolor : InBytes 2 h.pcolor
  pub collection : MaybeCollectionFits h.collection

-- a resolution, whose exponents are signed bytes
pub record ResolutionFits (r : Resolution) : Type 0 where
  pub vrdn : InBytes 2 r.vrdn
  pub vrdd : InBytes 2 r.vrdd
  pub hrdn : InBytes 2 r.hrdn
  pub hrdd : InBytes 2 r.hrdd
  pub vrde : FitsSigned w8 r.vrde
  pub hrde : FitsSigned w8 r.hrde

-- a layout object header
pub record LayoutFits (l : Layout) : Type 0 where
  pub lobjid : InBytes 2 l.lobjid
  pub lheight : InBytes 4 l.lheight
  pub lwidth : InBytes 4 l.lwidth
  pub lvoff : InBytes 4 l.lvoff
  pub lhoff : InBytes 4 l.lhoff

-- an object header
pub record ObjectFits (o : Object) : Type 0 where
  pub objid : InBytes 2 o.objid
  pub ovoff : InBytes 4 o.ovoff
  pub ohoff : InBytes 4 o.ohoff
  pub off : InBytes 8 o.off
  pub len : InBytes 4 o.len
  pub dr : InBytes 2 o.dr

-- the objects of a layout object
abbrev pub ObjectsFit : Objects → Type 0
ObjectsFit (Separate mask image) = ObjectFits mask × ObjectFits image
ObjectsFit (Both object) = ObjectFits object
ObjectsFit (Image object) = ObjectFits object
ObjectsFit (Mask object) = ObjectFits object

-- a row
pub record RowFits (r : Row) : Type 0 where
  pub layout : LayoutFits r.layout
  pub objects : ObjectsFit r.objects

-- each of some rows
abbrev pub RowsFit : List Row → Type 0
RowsFit rows = All RowFits rows

-- a page
pub record PageFits (p : Page) : Type 0 where
  pub header : HeaderFits p.header
  pub resolution : ResolutionFits p.resolution
  pub rows : RowsFit p.rows
