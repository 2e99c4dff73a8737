use Rattle.std.proofs.Common.{◌≡◌, false, ap, ◌∙◌, arith, length-set, take}
use Rattle.plan.specs.Laws.{has_id, distinct_ids}
use Rattle.reader.proofs.Ids.{distinct_push, used-push, blank-push}
use Rattle.reader.proofs.page.PageDraft.push.Goals as goal

pub invariant_of-self : goal.invariant_of-self
invariant_of-self c =
    let s = c.self.inside in
    let h = c.self.invariant in
    let row = c.args.row in
    let new : has_id row.layout.lobjid (take s.used s.rows) ≡ false = ap (λ state. has_id row.layout.lobjid state.rows) c.self.view_is ∙ c.requires in
    record {
      sized = h.sized;
      whole = h.whole;
      few = omega arith;
      places = length-set s.rows s.used row ∙ h.places;
      distinct = ap distinct_ids (used-push s.rows s.used row (omega arith) h.places) ∙ distinct_push (take s.used s.rows) row h.distinct new;
      blank = blank-push s.rows s.used row (omega arith) h.places h.blank;
    }
