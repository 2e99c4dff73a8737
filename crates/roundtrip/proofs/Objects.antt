-- Objects, resolutions and layout objects in the written form, as they are read. Assumes nothing.
use Rattle.std.proofs.Common.{◌≡◌, ℕ, ◌+◌, true, false, List, ◌++◌, length, Some, None, Ok, refl, ap, ◌∙◌, ap₂, lit<}
use Rattle.boxes.specs.Codes.{resd_code, lhdr_code, objc_code, ohdr_code}
use Rattle.boxes.specs.Tests.{unless, first_failure}
use Rattle.boxes.specs.declared.reason.Reason.TheVariants.{IllegalValue, RepeatedIdentifier}
use Rattle.boxes.specs.declared.table.Kind.TheVariants as kinds
use Rattle.boxes.specs.declared.table.Place.TheVariants as places
use Rattle.plan.specs.Headers.{object_head_of, object_header_tests, resolution_of, resolution_tests, style_number}
use Rattle.plan.specs.Laws.{has_id, whole_resolution}
use Rattle.plan.specs.declared.headers.ObjectType.{ObjectType}
use Rattle.plan.specs.declared.headers.ObjectType.TheVariants as types
use Rattle.plan.specs.declared.layout.Layout.{Layout}
use Rattle.plan.specs.declared.layout.Object.{Object}
use Rattle.plan.specs.declared.layout.Objects.{Objects}
use Rattle.plan.specs.declared.layout.Objects.TheVariants.{Separate, Both, Image, Mask}
use Rattle.plan.specs.declared.layout.Row.{Row}
use Rattle.plan.specs.declared.page.Resolution.{Resolution}
use Rattle.reader.specs.Objects.{object_rules, layout_rules, LayoutState, layout_state, layout_taken, with_head, with_object, head_tests, nothing_held, row_of}
use Rattle.reader.specs.Pages.{resolution_rules, row_read}
use Rattle.reader.specs.Walk.{then, walked, end_tests, superbox}
use Rattle.writer.specs.Written.{resd, resd_contents, lhdr, lhdr_contents, ohdr, ohdr_contents, objc, objcs}
use Rattle.roundtrip.specs.Fits.{ResolutionFits, LayoutFits, ObjectFits, ObjectsFit}
use Rattle.roundtrip.proofs.Boxes.{tested-passes, walk-box, walk-last, superbox_passes}
use Rattle.roundtrip.proofs.Headers.{object_head, object-fields, object-passes, resolution-fields, resolution-passes, layout_head, style_for, layout-fields, style_passes}

-- an objc box
module _ (o : Object) (f : ObjectFits o) (t : ObjectType) where
  pub object-read : (at body : ℕ) → superbox object_rules at body (ohdr o t) None ≡ Ok (Some (object_head o t))
  object-read at body =
      superbox_passes object_rules at body (ohdr o t) None (Some (object_head o t))
      (walk-last ohdr_code (ohdr_contents o t) (lit< tt) (lit< tt) object_rules body true None (Some (object_head o t)) _ refl refl
      (tested-passes places.Object body (object_header_tests (ohdr_contents o t)) (Some (object_head_of (ohdr_contents o t))) (object-passes o f t) ∙ ap (λ h. Ok (Some h)) (object-fields o f t)))
      refl

-- a res box
pub resolution_read : (r : Resolution) → ResolutionFits r → whole_resolution r ≡ true → (at body : ℕ) → superbox resolution_rules at body (resd r) None ≡ Ok (Some r)
resolution_read r f whole at body =
    superbox_passes resolution_rules at body (resd r) None (Some r)
    (walk-last resd_code (resd_contents r) (lit< tt) (lit< tt) resolution_rules body true None (Some r) _ refl refl
    (tested-passes places.Resolution body (resolution_tests (resd_contents r)) (Some (resolution_of (resd_contents r))) (resolution-passes r f whole) ∙ ap (λ h. Ok (Some h)) (resolution-fields r f)))
    refl

-- a lobj box after the layout objects of some rows, which do not have its identifier
module _ (earlier : List Row) (l : Layout) (f : LayoutFits l) (new : has_id l.lobjid earlier ≡ false) where
  abbrev begun : Objects → LayoutState
  begun os = layout_state earlier (Some (layout_head l (style_for os))) nothing_held

  head-passes : (os : Objects) → first_failure (head_tests (layout_state earlier None nothing_held) (lhdr_contents l (style_number os))) ≡ None
  head-passes os =
      ap₂ (λ a b. unless a IllegalValue (unless b RepeatedIdentifier None)) (style_passes os)
      (ap (λ h. has_id h.layout.lobjid earlier) (layout-fields l f os) ∙ new)

  head-taken : (os : Objects) (at body : ℕ) → layout_taken (layout_state earlier None nothing_held) kinds.LayoutHeader at body (lhdr_contents l (style_number os)) ≡ Ok (begun os)
  head-taken os at body =
      tested-passes places.LayoutObject at (head_tests (layout_state earlier None nothing_held) (lhdr_contents l (style_number os))) _ (head-passes os)
      ∙ ap (λ h. Ok (with_head (layout_state earlier None nothing_held) h)) (layout-fields l f os)

  -- its lhdr box, and then the rest
  walk-head : (os : Objects) (rest : List ℕ) (body : ℕ) → walked layout_rules (length (lhdr l (style_number os) ++ rest)) body true (lhdr l (style_number os) ++ rest) (layout_state earlier None nothing_held) ≡ walked layout_rules (length rest) (body + 28) false rest (begun os)
  walk-head os rest body =
      walk-box lhdr_code (lhdr_contents l (style_number os)) rest (lit< tt) (lit< tt) layout_rules body true (layout_state earlier None nothing_held) (begun os) _ refl refl (head-taken os body (body + 8))

  object-taken : (s : LayoutState) (o : Object) → ObjectFits o → (t : ObjectType) (at body : ℕ) → layout_taken s kinds.Object at body (ohdr o t) ≡ Ok (with_object s (Some (object_head o t)))
  object-taken s o k t at body = ap (λ q. then q (λ x. Ok (with_object s x))) (object-read o k t at body)

  -- its one object
  lone-walked : (os : Objects) (o : Object) → ObjectFits o → (t : ObjectType) (body : ℕ) → walked layout_rules (length (lhdr l (style_number os) ++ objc o t)) body true (lhdr l (style_number os) ++ objc o t) (layout_state earlier None nothing_held) ≡ Ok (with_object (begun os) (Some (object_head o t)))
  lone-walked os o k t body =
      walk-head os (objc o t) body
      ∙ walk-last objc_code (ohdr o t) (lit< tt) (lit< tt) layout_rules (body + 28) false (begun os) (with_object (begun os) (Some (object_head o t))) _ refl refl (object-taken (begun os) o k t (body + 28) (body + 28 + 8))

  -- its two objects
  pair-walked : (os : Objects) (a b : Object) → ObjectFits a → ObjectFits b → (t u : ObjectType) (body : ℕ) → walked layout_rules (length (lhdr l (style_number os) ++ (objc a t ++ objc b u))) body true (lhdr l (style_number os) ++ (objc a t ++ objc b u)) (layout_state earlier None nothing_held) ≡ Ok (with_object (with_object (begun os) (Some (object_head a t))) (Some (object_head b u)))
  pair-walked os a b k m t u body =
      let one = with_object (begun os) (Some (object_head a t)) in
      let next = body + 28 + 44 in
      walk-head os (objc a t ++ objc b u) body
      ∙ walk-box objc_code (ohdr a t) (objc b u) (lit< tt) (lit< tt) layout_rules (body + 28) false (begun os) one _ refl refl (object-taken (begun os) a k t (body + 28) (body + 28 + 8))
      ∙ walk-last objc_code (ohdr b u) (lit< tt) (lit< tt) layout_rules next false one (with_object one (Some (object_head b u))) _ refl refl (object-taken one b m u next (next + 8))

  abbrev row_with : Objects → Row
  row_with os = record { layout = l; objects = os }

  -- the bytes of its boxes
  abbrev bytes : Objects → List ℕ
  bytes os = lhdr l (style_number os) ++ objcs os

  -- the row that it says
  ends : (os : Objects) (t : LayoutState) (at body : ℕ) → walked layout_rules (length (bytes os)) body true (bytes os) (layout_state earlier None nothing_held) ≡ Ok t → first_failure (end_tests layout_rules t) ≡ None → row_of t.head t.held ≡ Some (row_with os) → row_read earlier at body (bytes os) ≡ Ok (Some (row_with os))
  ends os t at body goes passes is =
      ap (λ q. then q (λ x. Ok (row_of x.head x.held))) (superbox_passes layout_rules at body (bytes os) (layout_state earlier None nothing_held) t goes passes) ∙ ap Ok is

  pub row_read_lem : (os : Objects) → ObjectsFit os → (at body : ℕ) → row_read earlier at body (lhdr l (style_number os) ++ objcs os) ≡ Ok (Some (row_with os))
  row_read_lem (Separate mask image) k at body = ends (Separate mask image) _ at body (pair-walked (Separate mask image) mask image k.0 k.1 types.Mask types.Image body) refl refl
  row_read_lem (Both object) k at body = ends (Both object) _ at body (lone-walked (Both object) object k types.Both body) refl refl
  row_read_lem (Image object) k at body = ends (Image object) _ at body (lone-walked (Image object) object k types.Image body) refl refl
  row_read_lem (Mask object) k at body = ends (Mask object) _ at body (lone-walked (Mask object) object k types.Mask body) refl refl
