-- The laws of every read. Assumes nothing.
use Rattle.std.proofs.Common.{◌≡◌, ℕ, ◌+◌, ◌<◌, true, false, eqb, List, length, Some, None, Ok, Err, Option, Result, sym, refl, ap, ◌∙◌, arith, eqb-true}
use Rattle.std.proofs.lemmas.Bool.{not-false}
use Rattle.boxes.proofs.Frames.{judged-ok}
use Rattle.boxes.specs.Table.{table, same_kind}
use Rattle.boxes.specs.Tests.{Test, judged}
use Rattle.boxes.specs.declared.fault.Fault.{Fault}
use Rattle.boxes.specs.declared.table.Kind.{Kind}
use Rattle.boxes.specs.declared.table.Kind.TheVariants as kinds
use Rattle.boxes.specs.declared.table.Place.{Place}
use Rattle.boxes.specs.declared.table.Place.TheVariants as places
use Rattle.plan.specs.Headers.{layout_head_of, object_head_of, object_header_tests, page_head_of, page_header_tests, resolution_of, resolution_tests}
use Rattle.plan.specs.declared.headers.PageHead.{PageHead}
use Rattle.reader.proofs.Offsets.{FaultsBetween, Bounded, faults_cond, faults_located, faults-superbox, faults_then, faults-walked}
use Rattle.reader.proofs.Walks.{located-ok, then_ok}
use Rattle.reader.specs.Laws.{FaultsLieInTheFile, RowsAreCounted}
use Rattle.reader.specs.Lone.{lone_rules}
use Rattle.reader.specs.Objects.{head_tests, layout_rules, layout_state, nothing_held, object_rules, with_head}
use Rattle.reader.specs.Pages.{FileState, PageState, file_rules, file_state, miscounted, new_page, page_rules, page_state, resolution_rules}
use Rattle.reader.specs.Reading.{file_page, found_page}
use Rattle.reader.specs.Walk.{lacking, superbox, walked, end_tests}
use Rattle.reader.specs.declared.read.Refusal.TheVariants.{Faulty}

-- a box that has contents or not begins before it ends
header_first : (at body : ℕ) (bs : List ℕ) → at < body → at < body + length bs
header_first at body bs h = omega arith

-- a superbox with one header box
pub lone_bounded : {A : Type 0} (place : Place) (kind : Kind) (tests : List ℕ → List Test) (made : List ℕ → A) → Bounded (lone_rules place kind tests made)
lone_bounded place kind tests made s k at body bs h =
    faults_cond at (body + length bs) (same_kind k kind) _ _
    (faults_located place at (body + length bs) (judged (tests bs) (Some (made bs))) (header_first at body bs h)) tt

pub object-bounded : Bounded object_rules
object-bounded = lone_bounded places.Object kinds.ObjectHeader object_header_tests object_head_of

pub resolution_bounded : Bounded resolution_rules
resolution_bounded = lone_bounded places.Resolution kinds.DisplayResolution resolution_tests resolution_of

pub layout_bounded : Bounded layout_rules
layout_bounded s k at body bs h =
    faults_cond at (body + length bs) (same_kind k kinds.LayoutHeader) _ _
    (faults_located places.LayoutObject at (body + length bs) (judged (head_tests s bs) (with_head s (layout_head_of bs))) (header_first at body bs h))
    (faults_cond at (body + length bs) (same_kind k kinds.Object) _ _
    (faults_then at (body + length bs) (superbox object_rules at body bs None) _ (faults-superbox object_rules object-bounded at body bs None h) (λ o _. tt)) tt)

pub page-bounded : Bounded page_rules
page-bounded s k at body bs h =
    let start = layout_state s.rows None nothing_held in
    faults_cond at (body + length bs) (same_kind k kinds.PageHeader) _ _
    (faults_located places.Page at (body + length bs) (judged (page_header_tests bs) (page_state (Some (page_head_of bs)) s.resolution s.rows)) (header_first at body bs h))
    (faults_cond at (body + length bs) (same_kind k kinds.Resolution) _ _
    (faults_then at (body + length bs) (superbox resolution_rules at body bs None) _ (faults-superbox resolution_rules resolution_bounded at body bs None h) (λ o _. tt))
    (faults_cond at (body + length bs) (same_kind k kinds.LayoutObject) _ _
    (faults_then at (body + length bs) _ _
    (faults_then at (body + length bs) (superbox layout_rules at body bs start) _ (faults-superbox layout_rules layout_bounded at body bs start h) (λ o _. tt))
    (λ o _. tt)) tt))

pub file_bounded : Bounded file_rules
file_bounded s k at body bs h =
    faults_cond at (body + length bs) (same_kind k kinds.Page) _ _
    (faults_then at (body + length bs) (superbox page_rules at body bs new_page) _ (faults-superbox page_rules page-bounded at body bs new_page h) (λ o _. tt)) tt

file_fault : (n : ℕ) (w : Result FileState Fault) (f : Fault) → FaultsBetween 0 (0 + n) w → file_page w ≡ Err (Faulty f) → f.offset < n
file_fault n (Ok s) f p e = go s.found e
  where
    go : (o : Option _) → found_page o ≡ Err (Faulty f) → f.offset < n
    go None q = absurd cc
    go (Some x) q = absurd cc
file_fault n (Err g) f p e = let same : g ≡ f = cc in let o = ap (λ x. x.offset) same in omega arith

pub faults_lie_in_the_file : FaultsLieInTheFile
faults_lie_in_the_file file number f e =
    let start = file_state (Some number) None in
    file_fault (length file) (walked file_rules (length file) 0 true file start) f (faults-walked file_rules file_bounded (length file) 0 true file start) e

-- a page with no page header lacks a box
whole_page_lem : (head : Option PageHead) (s : PageState) → s.head ≡ head → lacking page_rules s table ≡ false → miscounted s.head s.rows ≡ false → (h : PageHead) × (s.head ≡ Some h) × (h.nlobj ≡ length s.rows)
whole_page_lem None s is e f = let e' = rw is at e in absurd cc
whole_page_lem (Some h) s is e f =
    let f' = rw is at f in
    (h, is, eqb-true h.nlobj (length s.rows) (not-false (eqb h.nlobj (length s.rows)) f'))

pub rows_are_counted : RowsAreCounted
rows_are_counted at body bs s e =
    let t = then_ok (walked page_rules (length bs) body true bs new_page) _ s e in
    let passes = judged-ok (end_tests page_rules t.0) t.0 s (located-ok places.Page at (judged (end_tests page_rules t.0) t.0) s t.2) in
    let same = passes.1 in
    whole_page_lem s.head s refl (ap (λ x. lacking page_rules x table) (sym same) ∙ passes.0.0) (ap (λ x. miscounted x.head x.rows) (sym same) ∙ passes.0.1.0)
