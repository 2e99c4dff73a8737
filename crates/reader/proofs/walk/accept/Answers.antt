use Rattle.std.proofs.Common.{sym}
use Rattle.std.proofs.lemmas.Result.{err_from_is_err_and}
use Rattle.reader.proofs.Walks.{listed-refused}
use Rattle.reader.proofs.walk.accept.Goals as goal

pub returns-in_err-locate : goal.returns-in_err-locate
returns-in_err-locate g c =
    let p = err_from_is_err_and c.from_residual.result c.from_residual.ensures.1 in
    rw (p.1, p.2)
    (record {
      after = sym (listed-refused g.C.Container.rules _ _ _ _ c.args.frame _ c.in-Some.entry _ _ c.misplaced.result _ c.in-Some.ensures.value c.place-inside.ensures.value c.count-seen.ensures.value c.misplaced.ensures.value (sym c.in_err-locate.ensures.value));
    })
