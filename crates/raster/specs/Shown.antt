-- Bytes that are written into a buffer from a place on.
-- Assumes nothing.
use Rattle.std.specs.Prelude.{ℕ, ◌+◌, ◌<◌, Bool, cond, List, [], ◌∷◌, ◌++◌, length, take, drop, Ok, Err, Result, nat_le}
use Rattle.raster.specs.declared.shortages.Shortage.{Shortage}
use Rattle.raster.specs.declared.shortages.Shortage.TheVariants.{Buffer}

-- each number of a list is a byte
abbrev pub AllBytes : List ℕ → Type 0
AllBytes [] = Unit {0}
AllBytes (x ∷ xs) = (x < 256) × AllBytes xs

-- the buffer with the bytes in place of what it had from `at` on
abbrev pub put : List ℕ → ℕ → List ℕ → List ℕ
put buffer at bytes = take at buffer ++ (bytes ++ drop (at + length bytes) buffer)

-- whether the buffer has room for the bytes from `at` on
abbrev pub room : List ℕ → ℕ → List ℕ → Bool
room buffer at bytes = nat_le (at + length bytes) (length buffer)

-- the place after the bytes, or refused for want of room
abbrev pub put_answer : List ℕ → ℕ → List ℕ → Result ℕ Shortage
put_answer buffer at bytes = cond (room buffer at bytes) (Ok (at + length bytes)) (Err Buffer)

-- the buffer afterwards: nothing is written where it is refused
abbrev pub put_buffer : List ℕ → ℕ → List ℕ → List ℕ
put_buffer buffer at bytes = cond (room buffer at bytes) (put buffer at bytes) buffer
