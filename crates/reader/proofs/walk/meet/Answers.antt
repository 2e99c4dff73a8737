use Rattle.std.proofs.Common.{rules, ◌≡◌, sym, ◌∙◌}
use Rattle.std.proofs.lemmas.Result.{err_from_is_err_and}
use Rattle.boxes.specs.Table.{same_place}
use Rattle.boxes.specs.declared.table.Place.TheVariants as places
use Rattle.reader.proofs.Walks.{located-ok, met-refused}
use Rattle.reader.proofs.walk.meet.Goals as goal

pub returns-in_err-accept-clause-after : goal.returns-in_err-accept-clause-after
returns-in_err-accept-clause-after g c =
    let p = err_from_is_err_and c.from_residual-in_err-accept.result c.from_residual-in_err-accept.ensures.1 in
    let granted = sym c.read_frame.ensures.answer ∙ located-ok _ _ _ _ (sym c.in_ok-frame.ensures.value) in
    let top : c.eq.result ≡ same_place g.C.Container.rules.place places.File = search rules in
    rw (p.1, p.2)
    (sym (met-refused g.C.Container.rules _ _ _ _ _ c.in_ok-frame.frame _ top granted (sym c.in_err-accept.ensures.after)))
