-- What is left to walk, from the state so far, gives what the whole walk gives.
use Rattle.std.proofs.Common.{◌≡◌, length}
use Rattle.reader.specs.Walk.{walked}
use Rattle.reader.proofs.walk.walk.Given as goal

abbrev pub invariant-loop-rest : goal.invariant-loop-rest
invariant-loop-rest g l =
    walked g.C.Container.rules (length l.rest.bytes.now) l.rest.start l.first l.rest.bytes.now (g.C.Container.state l.container)
    ≡ walked g.C.Container.rules (length l.initial.rest.bytes.now) l.initial.rest.start l.initial.first l.initial.rest.bytes.now (g.C.Container.state l.initial.container)

abbrev pub decreases-loop-rest : goal.decreases-loop-rest
decreases-loop-rest g l = length l.rest.bytes.now
