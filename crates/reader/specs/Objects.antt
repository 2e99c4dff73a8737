-- Objects, and layout objects that hold them. Assumes nothing.
use Rattle.std.specs.Prelude.{ℕ, Bool, true, cond, not, ◌&&◌, List, [], ◌∷◌, ◌++◌, is_some, Some, None, Ok, Option, Result}
use Rattle.boxes.specs.Table.{same_kind}
use Rattle.boxes.specs.Tests.{Test}
use Rattle.boxes.specs.declared.fault.Fault.{Fault}
use Rattle.boxes.specs.declared.reason.Reason.TheVariants.{StyleMismatch, RepeatedIdentifier}
use Rattle.boxes.specs.declared.table.Kind.{Kind}
use Rattle.boxes.specs.declared.table.Kind.TheVariants as kinds
use Rattle.boxes.specs.declared.table.Place.TheVariants as places
use Rattle.plan.specs.Headers.{layout_head_of, layout_header_tests, object_head_of, object_header_tests, same_type}
use Rattle.plan.specs.Laws.{has_id}
use Rattle.plan.specs.declared.headers.LayoutHead.{LayoutHead}
use Rattle.plan.specs.declared.headers.ObjectHead.{ObjectHead}
use Rattle.plan.specs.declared.headers.ObjectType.TheVariants as types
use Rattle.plan.specs.declared.headers.Style.{Style}
use Rattle.plan.specs.declared.headers.Style.TheVariants as styles
use Rattle.plan.specs.declared.layout.Objects.{Objects}
use Rattle.plan.specs.declared.layout.Objects.TheVariants as objects
use Rattle.plan.specs.declared.layout.Row.{Row}
use Rattle.reader.specs.Lone.{lone_rules}
use Rattle.reader.specs.Walk.{Rules, then, tested, superbox, once}
use Rattle.reader.specs.declared.layout_object.Held.{Held}
use Rattle.reader.specs.declared.layout_object.Held.TheVariants.{Empty, One, Two}

-- An object: what its ohdr box says.
abbrev pub object_rules : Rules (Option ObjectHead)
object_rules = lone_rules places.Object kinds.ObjectHeader object_header_tests object_head_of

-- A layout object: the rows of the layout objects before it, what its lhdr box says, and its objects in file order.
pub record LayoutState : Type 0 where
  pub earlier : List Row
  pub head : Option LayoutHead
  pub held : Held

abbrev pub layout_state : List Row → Option LayoutHead → Held → LayoutState
layout_state e h o = record { earlier = e; head = h; held = o }

-- a lone object fits its style if its type is the style's
abbrev pub lone_fits : Style → ObjectHead → Option Objects
lone_fits styles.Separate a = None
lone_fits styles.Both a = cond (same_type a.objtype types.Both) (Some (objects.Both a.object)) None
lone_fits styles.Image a = cond (same_type a.objtype types.Image) (Some (objects.Image a.object)) None
lone_fits styles.Mask a = cond (same_type a.objtype types.Mask) (Some (objects.Mask a.object)) None

-- two objects fit style 0 if one is a mask and the other an image, either first
abbrev pub pair_fits : Style → ObjectHead → ObjectHead → Option Objects
pair_fits styles.Separate a b =
    cond (same_type a.objtype types.Mask && same_type b.objtype types.Image) (Some (objects.Separate a.object b.object))
    (cond (same_type a.objtype types.Image && same_type b.objtype types.Mask) (Some (objects.Separate b.object a.object)) None)
pair_fits styles.Both a b = None
pair_fits styles.Image a b = None
pair_fits styles.Mask a b = None

abbrev pub fits : Style → Held → Option Objects
fits style Empty = None
fits style (One a) = lone_fits style a
fits style (Two a b) = pair_fits style a b

abbrev pub row_with : LayoutHead → Option Objects → Option Row
row_with h None = None
row_with h (Some os) = Some (record { layout = h.layout; objects = os })

-- the row of a layout object whose style and objects fit
abbrev pub row_of : Option LayoutHead → Held → Option Row
row_of None held = None
row_of (Some h) held = row_with h (fits h.style held)

abbrev pub with_head : LayoutState → LayoutHead → LayoutState
with_head s h = layout_state s.earlier (Some h) s.held

abbrev pub held_more : Held → ObjectHead → Held
held_more Empty a = One a
held_more (One a) b = Two a b
held_more (Two a b) c = Two a b

abbrev pub with_object : LayoutState → Option ObjectHead → LayoutState
with_object s None = s
with_object s (Some a) = layout_state s.earlier s.head (held_more s.held a)

-- no object yet
abbrev pub nothing_held : Held
nothing_held = Empty

abbrev pub held_count : Held → ℕ
held_count Empty = 0
held_count (One a) = 1
held_count (Two a b) = 2

-- a header that has come has an identifier that no earlier row has
abbrev pub new_among : List Row → Option LayoutHead → Bool
new_among earlier None = true
new_among earlier (Some h) = not (has_id h.layout.lobjid earlier)

-- the tests of a lhdr box, in their order
abbrev pub head_tests : LayoutState → List ℕ → List Test
head_tests s bs = layout_header_tests bs ++ ((has_id (layout_head_of bs).layout.lobjid s.earlier, RepeatedIdentifier) ∷ [])

abbrev pub layout_taken : LayoutState → Kind → ℕ → ℕ → List ℕ → Result LayoutState Fault
layout_taken s k at body bs =
    cond (same_kind k kinds.LayoutHeader) (tested places.LayoutObject at (head_tests s bs) (with_head s (layout_head_of bs)))
    (cond (same_kind k kinds.Object) (then (superbox object_rules at body bs None) (λ o. Ok (with_object s o))) (Ok s))

abbrev pub layout_count : LayoutState → Kind → ℕ
layout_count s k = cond (same_kind k kinds.LayoutHeader) (once s.head) (cond (same_kind k kinds.Object) (held_count s.held) 0)

abbrev pub layout_closing : LayoutState → List Test
layout_closing s = (not (is_some (row_of s.head s.held)), StyleMismatch) ∷ []

abbrev pub layout_rules : Rules LayoutState
layout_rules = record { place = places.LayoutObject; count = layout_count; taken = layout_taken; closing = layout_closing }
