-- Each header, read from the contents that are written for it. Assumes nothing.
use Rattle.std.proofs.Common.{arith, ◌≡◌, ℕ, Bool, true, false, not, ◌||◌, eqb, ltb, Some, None, Option, ap, ◌∙◌, ap₂}
use Rattle.std.proofs.lemmas.Bool.Decides.{nat_tests}
use Rattle.boxes.specs.Field.{field, digits}
use Rattle.boxes.specs.Tests.{unless, first_failure}
use Rattle.boxes.specs.declared.reason.Reason.TheVariants.{IllegalValue}
use Rattle.plan.specs.Headers.{page_head_of, page_header_tests, resolution_of, resolution_tests, layout_head_of, object_head_of, object_header_tests, type_number, type_of, style_of, style_number}
use Rattle.plan.specs.Laws.{sized_page, whole_resolution}
use Rattle.plan.specs.declared.headers.LayoutHead.{LayoutHead}
use Rattle.plan.specs.declared.headers.ObjectHead.{ObjectHead}
use Rattle.plan.specs.declared.headers.ObjectType.{ObjectType}
use Rattle.plan.specs.declared.headers.PageHead.{PageHead}
use Rattle.plan.specs.declared.headers.Style.{Style}
use Rattle.plan.specs.declared.headers.Style.TheVariants as styles
use Rattle.plan.specs.declared.layout.Layout.{Layout}
use Rattle.plan.specs.declared.layout.Object.{Object}
use Rattle.plan.specs.declared.layout.Objects.{Objects}
use Rattle.plan.specs.declared.layout.Objects.TheVariants.{Separate, Both, Image, Mask}
use Rattle.plan.specs.declared.page.Collection.{Collection}
use Rattle.plan.specs.declared.page.PageHeader.{PageHeader}
use Rattle.plan.specs.declared.page.Resolution.{Resolution}
use Rattle.writer.specs.Written.{phdr_contents, resd_contents, lhdr_contents, ohdr_contents, flag}
use Rattle.roundtrip.specs.Fits.{InBytes, MaybeCollectionFits, HeaderFits, ResolutionFits, LayoutFits, ObjectFits}
use Rattle.roundtrip.proofs.Digits.{field-digits, signed_digits}

-- a test on a value that is known passes
passed : (b : Bool) → b ≡ true → unless (not b) IllegalValue None ≡ None
passed b is = ap (λ c. unless (not c) IllegalValue None) is

-- phdr, by the case of its collection
abbrev page_head : PageHeader → ℕ → PageHead
page_head h n = record { header = h; nlobj = n }

abbrev with : PageHeader → Option Collection → PageHeader
with h c = record { pageid = h.pageid; pheight = h.pheight; pwidth = h.pwidth; or = h.or; pcolor = h.pcolor; collection = c }

module _ (h : PageHeader) (n : ℕ) (f : HeaderFits h) (m : InBytes 2 n) where
  page-fields-with : (c : Option Collection) → MaybeCollectionFits c → page_head_of (phdr_contents (with h c) n) ≡ page_head (with h c) n
  page-fields-with None k = λ i.
      record {
        header =
            record {
              pageid = field-digits 2 h.pageid f.pageid i;
              pheight = field-digits 4 h.pheight f.pheight i;
              pwidth = field-digits 4 h.pwidth f.pwidth i;
              or = field-digits 2 h.or f.or i;
              pcolor = field-digits 2 h.pcolor f.pcolor i;
              collection = None;
            };
        nlobj = field-digits 2 n m i;
      }
  page-fields-with (Some c) k = λ i.
      record {
        header =
            record {
              pageid = field-digits 2 h.pageid f.pageid i;
              pheight = field-digits 4 h.pheight f.pheight i;
              pwidth = field-digits 4 h.pwidth f.pwidth i;
              or = field-digits 2 h.or f.or i;
              pcolor = field-digits 2 h.pcolor f.pcolor i;
              collection =
                  Some (record { pcoff = field-digits 8 c.pcoff k.pcoff i; pclen = field-digits 4 c.pclen k.pclen i; pcdr = field-digits 2 c.pcdr k.pcdr i });
            };
        nlobj = field-digits 2 n m i;
      }

  pub page-fields : page_head_of (phdr_contents h n) ≡ page_head h n
  page-fields = page-fields-with h.collection f.collection

  page-passes-with : (c : Option Collection) → MaybeCollectionFits c → sized_page (with h c) ≡ true → first_failure (page_header_tests (phdr_contents (with h c) n)) ≡ None
  page-passes-with None k sized = passed _ (ap (λ x. sized_page x.header) (page-fields-with None k) ∙ sized)
  page-passes-with (Some c) k sized = passed _ (ap (λ x. sized_page x.header) (page-fields-with (Some c) k) ∙ sized)

  pub page-passes : sized_page h ≡ true → first_failure (page_header_tests (phdr_contents h n)) ≡ None
  page-passes = page-passes-with h.collection f.collection

-- resd
module _ (r : Resolution) (f : ResolutionFits r) where
  pub resolution-fields : resolution_of (resd_contents r) ≡ r
  resolution-fields = λ i.
      record {
        vrdn = field-digits 2 r.vrdn f.vrdn i;
        vrdd = field-digits 2 r.vrdd f.vrdd i;
        hrdn = field-digits 2 r.hrdn f.hrdn i;
        hrdd = field-digits 2 r.hrdd f.hrdd i;
        vrde = signed_digits r.vrde f.vrde i;
        hrde = signed_digits r.hrde f.hrde i;
      }

  pub resolution-passes : whole_resolution r ≡ true → first_failure (resolution_tests (resd_contents r)) ≡ None
  resolution-passes whole = passed _ (ap whole_resolution resolution-fields ∙ whole)

-- lhdr, for the Style of some objects
abbrev pub style_for : Objects → Style
style_for (Separate mask image) = styles.Separate
style_for (Both object) = styles.Both
style_for (Image object) = styles.Image
style_for (Mask object) = styles.Mask

abbrev pub layout_head : Layout → Style → LayoutHead
layout_head l s = record { layout = l; style = s }

style_fits : (os : Objects) → InBytes 2 (style_number os)
style_fits os = grind arith

style_for_lem : (os : Objects) → style_of (style_number os) ≡ style_for os
style_for_lem os = grind (arith, nat_tests)

pub style_passes : (os : Objects) → ltb 3 (field 2 0 (digits 2 (style_number os))) ≡ false
style_passes os = grind (arith, nat_tests)

module _ (l : Layout) (f : LayoutFits l) where
  fields-of : (style : ℕ) → InBytes 2 style → layout_head_of (lhdr_contents l style) ≡ layout_head l (style_of style)
  fields-of style s = λ i.
      record {
        layout =
            record {
              lobjid = field-digits 2 l.lobjid f.lobjid i;
              lheight = field-digits 4 l.lheight f.lheight i;
              lwidth = field-digits 4 l.lwidth f.lwidth i;
              lvoff = field-digits 4 l.lvoff f.lvoff i;
              lhoff = field-digits 4 l.lhoff f.lhoff i;
            };
        style = style_of (field-digits 2 style s i);
      }

  pub layout-fields : (os : Objects) → layout_head_of (lhdr_contents l (style_number os)) ≡ layout_head l (style_for os)
  layout-fields os = fields-of (style_number os) (style_fits os) ∙ ap (layout_head l) (style_for_lem os)

-- ohdr
abbrev pub object_head : Object → ObjectType → ObjectHead
object_head o t = record { objtype = t; object = o }

type_fits : (t : ObjectType) → InBytes 2 (type_number t)
type_fits t = grind arith

type_of_lem : (t : ObjectType) → type_of (field 2 0 (digits 2 (type_number t))) ≡ t
type_of_lem t = grind (arith, nat_tests)

flag-of : (b : Bool) → eqb (field 2 0 (digits 2 (flag b))) 1 ≡ b
flag-of b = grind (arith, nat_tests)

flag-passes : (b : Bool) → ltb 1 (field 2 0 (digits 2 (flag b))) ≡ false
flag-passes b = grind (arith, nat_tests)

type_passes : (t : ObjectType) → ltb 2 (field 2 0 (digits 2 (type_number t))) ≡ false
type_passes t = grind (arith, nat_tests)

module _ (o : Object) (f : ObjectFits o) (t : ObjectType) where
  pub object-fields : object_head_of (ohdr_contents o t) ≡ object_head o t
  object-fields = λ i.
      record {
        objtype = type_of_lem t i;
        object =
            record {
              objid = field-digits 2 o.objid f.objid i;
              nocodestream = flag-of o.nocodestream i;
              ovoff = field-digits 4 o.ovoff f.ovoff i;
              ohoff = field-digits 4 o.ohoff f.ohoff i;
              off = field-digits 8 o.off f.off i;
              len = field-digits 4 o.len f.len i;
              dr = field-digits 2 o.dr f.dr i;
            };
      }

  pub object-passes : first_failure (object_header_tests (ohdr_contents o t)) ≡ None
  object-passes = ap₂ (λ a b. unless (a || b) IllegalValue None) (type_passes t) (flag-passes o.nocodestream)
