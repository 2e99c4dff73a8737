use Rattle.std.proofs.Common.{◌<◌, length, sym, ◌∙◌, arith, true-eqb, false-eqb}
use Rattle.std.proofs.lemmas.Result.{err_from_is_err_and}
use Rattle.reader.proofs.Walks.{walk-empty, walk-on, walk-off}
use Rattle.reader.proofs.walk.walk.Goals as goal

pub returns-in_err-size : goal.returns-in_err-size
returns-in_err-size g c =
    let p = err_from_is_err_and c.from_residual.result c.from_residual.ensures.1 in
    let some : 0 < length c.loop-rest.rest.bytes.now = omega (arith, false-eqb _ 0 c.loop-rest-test.ensures) in
    rw (p.1, p.2)
    (record { after = sym (walk-off g.C.Container.rules _ _ _ _ _ some (sym c.in_err-size.ensures.after)) ∙ c.loop-rest.invariant })

pub loop-rest-preserved : goal.loop-rest-preserved
loop-rest-preserved g c =
    let rest = c.loop-rest.rest.bytes.now in
    let w = c.in_ok-size.ensures.within in
    let some : 0 < length rest = omega arith in
    rw (c.after-rest.ensures.bytes, c.after-rest.ensures.start)
    (sym (walk-on g.C.Container.rules _ _ rest _ _ some (sym c.in_ok-size.ensures.after)) ∙ c.loop-rest.invariant)

pub returns : goal.returns
returns g c =
    record { after = sym (walk-empty g.C.Container.rules _ _ _ _ (true-eqb _ 0 c.loop-rest-test.ensures)) ∙ c.loop-rest.invariant }
