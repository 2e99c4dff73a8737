-- The rows before a layout object stay the same while it is read. Assumes nothing.
use Rattle.std.proofs.Common.{◌≡◌, ℕ, Bool, true, false, cond, List, Some, None, Ok, Option, sym, refl, ap, ◌∙◌}
use Rattle.boxes.proofs.Frames.{judged-ok}
use Rattle.boxes.specs.Table.{same_kind}
use Rattle.boxes.specs.declared.table.Kind.{Kind}
use Rattle.boxes.specs.declared.table.Kind.TheVariants as kinds
use Rattle.boxes.specs.declared.table.Place.TheVariants as places
use Rattle.plan.specs.Headers.{layout_head_of}
use Rattle.plan.specs.declared.headers.ObjectHead.{ObjectHead}
use Rattle.reader.proofs.Walks.{located-ok, superbox-keeps, then_ok}
use Rattle.reader.specs.Objects.{LayoutState, head_tests, layout_rules, layout_taken, object_rules, with_head, with_object}
use Rattle.reader.specs.Walk.{superbox, then, tested}

with_object-earlier : (s : LayoutState) (o : Option ObjectHead) → (with_object s o).earlier ≡ s.earlier
with_object-earlier s None = refl
with_object-earlier s (Some a) = refl

layout_taken-earlier : (s : LayoutState) (k : Kind) (at body : ℕ) (bs : List ℕ) (t : LayoutState) → layout_taken s k at body bs ≡ Ok t → t.earlier ≡ s.earlier
layout_taken-earlier s k at body bs t = go (same_kind k kinds.LayoutHeader) (same_kind k kinds.Object)
  where
    go : (header object : Bool) → cond header (tested places.LayoutObject at (head_tests s bs) (with_head s (layout_head_of bs))) (cond object (then (superbox object_rules at body bs None) (λ o. Ok (with_object s o))) (Ok s)) ≡ Ok t → t.earlier ≡ s.earlier
    go true object e =
        let j = judged-ok (head_tests s bs) (with_head s (layout_head_of bs)) t (located-ok places.LayoutObject at _ t e) in
        ap (λ x. x.earlier) (sym j.1)
    go false true e =
        let o = then_ok (superbox object_rules at body bs None) _ t e in
        let same : with_object s o.0 ≡ t = cc in
        ap (λ x. x.earlier) (sym same) ∙ with_object-earlier s o.0
    go false false e = let same : s ≡ t = cc in ap (λ x. x.earlier) (sym same)

pub layout-earlier : (at body : ℕ) (bs : List ℕ) (s t : LayoutState) → superbox layout_rules at body bs s ≡ Ok t → t.earlier ≡ s.earlier
layout-earlier = superbox-keeps layout_rules (λ s. s.earlier) layout_taken-earlier
