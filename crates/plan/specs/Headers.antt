-- The fields of the four header boxes, each at its place in the contents, and the tests of size and values. Assumes nothing.
use Rattle.std.specs.Prelude.{ℕ, Bool, cond, not, ◌||◌, List, [], ◌∷◌, length, ℤ, Some, None, Result, ◌==◌, nat_lt, slice_index}
use Rattle.std.specs.Int.{w8}
use Rattle.std.proofs.Common.{to_z}
use Rattle.boxes.specs.Field.{field}
use Rattle.boxes.specs.Tests.{Test, judged}
use Rattle.boxes.specs.declared.reason.Reason.{Reason}
use Rattle.boxes.specs.declared.reason.Reason.TheVariants.{WrongSize, IllegalValue}
use Rattle.plan.specs.Laws.{sized_page, whole_resolution}
use Rattle.plan.specs.declared.headers.LayoutHead.{LayoutHead}
use Rattle.plan.specs.declared.headers.ObjectHead.{ObjectHead}
use Rattle.plan.specs.declared.headers.ObjectType.{ObjectType}
use Rattle.plan.specs.declared.headers.ObjectType.TheVariants as types
use Rattle.plan.specs.declared.headers.PageHead.{PageHead}
use Rattle.plan.specs.declared.headers.Style.{Style}
use Rattle.plan.specs.declared.headers.Style.TheVariants as styles
use Rattle.plan.specs.declared.layout.Layout.{Layout}
use Rattle.plan.specs.declared.layout.Object.{Object}
use Rattle.plan.specs.declared.layout.Objects.{Objects}
use Rattle.plan.specs.declared.layout.Objects.TheVariants.{Separate, Both, Image, Mask}
use Rattle.plan.specs.declared.page.Collection.{Collection}
use Rattle.plan.specs.declared.page.PageHeader.{PageHeader}
use Rattle.plan.specs.declared.page.Resolution.{Resolution}

-- contents have a size
abbrev pub size_is : ℕ → List ℕ → Bool
size_is n bs = length bs == n

-- a byte as a signed number
abbrev pub signed_at : ℕ → List ℕ → ℤ
signed_at at bs = to_z w8 (slice_index bs at)

-- phdr: PageID, NLobj, PHeight, PWidth, OR, PColor, and in 30 bytes PCOff, PCLen, PCDR
abbrev pub collection_of : List ℕ → Collection
collection_of bs = record { pcoff = field 8 16 bs; pclen = field 4 24 bs; pcdr = field 2 28 bs }

abbrev pub page_header_of : List ℕ → PageHeader
page_header_of bs =
    record {
      pageid = field 2 0 bs;
      pheight = field 4 4 bs;
      pwidth = field 4 8 bs;
      or = field 2 12 bs;
      pcolor = field 2 14 bs;
      collection = cond (size_is 30 bs) (Some (collection_of bs)) None;
    }

abbrev pub page_head_of : List ℕ → PageHead
page_head_of bs = record { header = page_header_of bs; nlobj = field 2 2 bs }

abbrev pub page_header_tests : List ℕ → List Test
page_header_tests bs = (not (size_is 16 bs || size_is 30 bs), WrongSize) ∷ (not (sized_page (page_header_of bs)), IllegalValue) ∷ []

-- resd: VRdN, VRdD, HRdN, HRdD, VRdE, HRdE
abbrev pub resolution_of : List ℕ → Resolution
resolution_of bs =
    record {
      vrdn = field 2 0 bs;
      vrdd = field 2 2 bs;
      hrdn = field 2 4 bs;
      hrdd = field 2 6 bs;
      vrde = signed_at 8 bs;
      hrde = signed_at 9 bs;
    }

abbrev pub resolution_tests : List ℕ → List Test
resolution_tests bs = (not (size_is 10 bs), WrongSize) ∷ (not (whole_resolution (resolution_of bs)), IllegalValue) ∷ []

-- lhdr: LObjID, LHeight, LWidth, LVoff, LHoff, Style
abbrev pub style_of : ℕ → Style
style_of n = cond (n == 0) styles.Separate (cond (n == 1) styles.Both (cond (n == 2) styles.Image styles.Mask))

-- a number as a style, where it is one of the four
abbrev pub style_judged : ℕ → Result Style Reason
style_judged n = judged ((nat_lt 3 n, IllegalValue) ∷ []) (style_of n)

-- the number of a style
abbrev pub style_number : Objects → ℕ
style_number (Separate mask image) = 0
style_number (Both object) = 1
style_number (Image object) = 2
style_number (Mask object) = 3

abbrev pub layout_of : List ℕ → Layout
layout_of bs =
    record {
      lobjid = field 2 0 bs;
      lheight = field 4 2 bs;
      lwidth = field 4 6 bs;
      lvoff = field 4 10 bs;
      lhoff = field 4 14 bs;
    }

abbrev pub layout_head_of : List ℕ → LayoutHead
layout_head_of bs = record { layout = layout_of bs; style = style_of (field 2 18 bs) }

abbrev pub layout_header_tests : List ℕ → List Test
layout_header_tests bs = (not (size_is 20 bs), WrongSize) ∷ (nat_lt 3 (field 2 18 bs), IllegalValue) ∷ []

-- ohdr: ObjID, ObjType, NoCodestream, OVoff, OHoff, OFF, LEN, DR
abbrev pub type_of : ℕ → ObjectType
type_of n = cond (n == 0) types.Mask (cond (n == 1) types.Image types.Both)

-- a number as a type, where it is one of the three
abbrev pub type_judged : ℕ → Result ObjectType Reason
type_judged n = judged ((nat_lt 2 n, IllegalValue) ∷ []) (type_of n)

-- the number of an object's type
abbrev pub type_number : ObjectType → ℕ
type_number types.Mask = 0
type_number types.Image = 1
type_number types.Both = 2

abbrev pub same_type : ObjectType → ObjectType → Bool
same_type t u = type_number t == type_number u

abbrev pub object_of : List ℕ → Object
object_of bs =
    record {
      objid = field 2 0 bs;
      nocodestream = (field 2 4 bs == 1);
      ovoff = field 4 6 bs;
      ohoff = field 4 10 bs;
      off = field 8 14 bs;
      len = field 4 22 bs;
      dr = field 2 26 bs;
    }

abbrev pub object_head_of : List ℕ → ObjectHead
object_head_of bs = record { objtype = type_of (field 2 2 bs); object = object_of bs }

abbrev pub object_header_tests : List ℕ → List Test
object_header_tests bs = (not (size_is 28 bs), WrongSize) ∷ (nat_lt 2 (field 2 2 bs) || nat_lt 1 (field 2 4 bs), IllegalValue) ∷ []
