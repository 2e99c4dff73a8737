use Rattle.std.proofs.Common.{◌+◌, ap, ◌∙◌}
use Rattle.boxes.proofs.Fields.{part-take-to}
use Rattle.boxes.specs.Field.{part}
use Rattle.boxes.proofs.field.bytes_at.Goals as goal

pub returns : goal.returns
returns g c =
    let bs = c.args.bytes.now in
    let whole = c.in-Some-first_chunk.ensures.cases in
    record { value = whole.same ∙ part-take-to g.row.N c.from-start.result (c.from-start.result + g.row.N) bs c.in-Some.rest.now whole.enough c.in-Some.ensures.lookup.0.2 ∙ ap (λ at. part g.row.N at bs) c.from-start.ensures }
