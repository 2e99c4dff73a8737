use Rattle.std.proofs.Common.{arith}
use Rattle.boxes.proofs.Fields.{part-same}
use Rattle.boxes.proofs.field.bytes_one_by_one.Goals as goal

pub returns : goal.returns
returns g c =
    let l = c.loop-place in
    record { value = part-same g.row.N c.args.start c.args.bytes.now l.byte-items l.invariant.long (λ k h. l.invariant.filled k (omega arith)) }
