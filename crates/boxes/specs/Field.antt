-- Numbers in big-endian bytes, read and written. Assumes nothing.
use Rattle.std.specs.Prelude.{ℕ, zero, suc, ◌+◌, ◌*◌, ◌/◌, ◌%◌, ◌^◌, List, [], ◌∷◌, slice_index}

-- the number in the w bytes at a place, the most significant byte first
abbrev pub field : ℕ → ℕ → List ℕ → ℕ
field zero at bs = 0
field (suc w) at bs = slice_index bs at * 256 ^ w + field w (at + 1) bs

-- the n bytes at a place
abbrev pub part : ℕ → ℕ → List ℕ → List ℕ
part zero at bs = []
part (suc n) at bs = slice_index bs at ∷ part n (at + 1) bs

-- a number in w bytes, the most significant byte first
abbrev pub digits : ℕ → ℕ → List ℕ
digits zero n = []
digits (suc w) n = n / 256 ^ w % 256 ∷ digits w n
