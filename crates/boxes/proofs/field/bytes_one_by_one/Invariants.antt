-- The bytes below the index are in place.
use Rattle.std.proofs.Common.{◌≡◌, ℕ, ◌+◌, ◌<◌, length, get_or}
use Rattle.boxes.proofs.field.bytes_one_by_one.Given as goal

abbrev pub invariant-loop-place : goal.invariant-loop-place
invariant-loop-place g l =
    record { long : length l.byte-items ≡ g.row.N; filled : (k : ℕ) → k < l.place → get_or l.byte-items k 0 ≡ get_or l.bytes (l.start + k) 0 }
