use Rattle.std.proofs.Common.{◌≡◌, ◌≤◌, length, ◌∙◌, arith, ltb-false}
use Rattle.boxes.specs.Frame.{short_length, type_code}
use Rattle.boxes.proofs.Frames.{framed-rest, framed-made}
use Rattle.boxes.proofs.frame.read_frame.Goals as goal

pub returns : goal.returns
returns c =
    let bs = c.args.left.now in
    let eight : 8 ≤ length bs = omega (arith, ltb-false) in
    let code : c.from_be_bytes-code.result ≡ type_code bs = omega (arith, c.from_be_bytes-code.ensures) in
    let short : c.from_be_bytes-short.result ≡ short_length bs = omega (arith, c.from_be_bytes-short.ensures) in
    let is = c.sized.ensures.answer ∙ framed-rest c.args.top c.from_be_bytes-code.result c.from_be_bytes-short.result bs eight code short in
    record { answer = is; within = framed-made c.args.top bs c.sized.result is }
