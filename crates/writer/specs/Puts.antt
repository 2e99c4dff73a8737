-- Bytes that are put into a buffer, and the answer of writing a page. Assumes nothing.
use Rattle.std.specs.Prelude.{◌≡◌, ℕ, ◌+◌, ◌≤◌, Bool, cond, List, ◌++◌, length, take, drop, Ok, Err, Result, codes, nat_le}
use Rattle.std.specs.Fmt.{decimal}
use Rattle.writer.specs.declared.buffer.Cursor.{Cursor}
use Rattle.writer.specs.declared.refused.Refused.{Refused}
use Rattle.writer.specs.declared.refused.Refused.TheVariants.{BufferTooShort}

-- the number of each refusal
abbrev pub refused_number : Refused → ℕ
refused_number BufferTooShort = 25

-- how one is printed
abbrev pub refused_text : Refused → List ℕ
refused_text refused = codes "refused " ++ decimal (refused_number refused)

-- a buffer with some bytes in place of what it had from a place on
unfoldable pub put : List ℕ → ℕ → List ℕ → List ℕ
put buffer at bytes = take at buffer ++ (bytes ++ drop (at + length bytes) buffer)

-- a cursor has room for some bytes
abbrev pub HasRoom : Cursor → List ℕ → Type 0
HasRoom cursor bytes = cursor.at + length bytes ≤ length cursor.out.now

-- a cursor has put some bytes into its buffer, and stands after them
pub record Puts (old new : Cursor) (bytes : List ℕ) : Type 0 where
  pub same_buffer : new.out.ghost_name ≡ old.out.ghost_name
  pub at : new.at ≡ old.at + length bytes
  pub buffer : new.out.now ≡ put old.out.now old.at bytes

-- a buffer has room for some bytes
abbrev pub room : List ℕ → List ℕ → Bool
room buffer bytes = nat_le (length bytes) (length buffer)

-- how many bytes are written, or refused where the buffer is too short
abbrev pub write_answer : List ℕ → List ℕ → Result ℕ Refused
write_answer buffer bytes = cond (room buffer bytes) (Ok (length bytes)) (Err BufferTooShort)

-- the buffer afterwards: the bytes at its front and the rest as it was, or all of it as it was where it is refused
abbrev pub write_buffer : List ℕ → List ℕ → List ℕ
write_buffer buffer bytes = cond (room buffer bytes) (put buffer 0 bytes) buffer
