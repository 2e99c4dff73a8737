-- What the sources over the caller's bytes need and mean.
-- Assumes nothing.
use Rattle.std.specs.Prelude.{ℕ, ◌+◌, ◌-◌, ◌*◌, ◌/◌, ◌%◌, ◌^◌, cond, List, length, Some, ◌==◌, nat_le, slice_index}
use Rattle.raster.specs.Covers.{no_cover, full_cover}
use Rattle.raster.specs.Meanings.{Meaning}
use Rattle.raster.specs.declared.covers.Cover.{Cover}
use Rattle.raster.specs.declared.greys.Grey.{Grey}
use Rattle.raster.specs.declared.tints.Tint.{Tint}

-- a source over bytes is 0 by 0 where there are fewer than its size needs
abbrev pub from_enough : {S : Type 0} → ℕ → (ℕ → ℕ → List ℕ → Meaning S) → ℕ → ℕ → List ℕ → Meaning S
from_enough needed rows width height bytes = cond (nat_le needed (length bytes)) (rows width height bytes) (rows 0 0 bytes)

-- one byte for each place
abbrev pub bytes_needed : ℕ → ℕ → ℕ
bytes_needed width height = width * height

-- each byte makes the sample of its place, row after row
abbrev pub byte_rows : {S : Type 0} → (ℕ → S) → ℕ → ℕ → List ℕ → Meaning S
byte_rows made width height bytes =
    record { width = width; height = height; sample = λ column row. Some (made (slice_index bytes (row * width + column))) }

-- what a source over bytes means, one byte to a sample, for the size and the bytes that it is made of
abbrev pub from_bytes : {S : Type 0} → (ℕ → S) → ℕ → ℕ → List ℕ → Meaning S
from_bytes made width height bytes = from_enough (bytes_needed width height) (byte_rows made) width height bytes

-- three bytes for each place
abbrev pub triples_needed : ℕ → ℕ → ℕ
triples_needed width height = 3 * (width * height)

-- the tint of three bytes: red, green and blue
abbrev pub tint_at : List ℕ → ℕ → Tint
tint_at bytes at = record { red = slice_index bytes at; green = slice_index bytes (at + 1); blue = slice_index bytes (at + 2) }

-- each three bytes make the tint of their place, row after row
abbrev pub triple_rows : ℕ → ℕ → List ℕ → Meaning Tint
triple_rows width height bytes =
    record { width = width; height = height; sample = λ column row. Some (tint_at bytes (3 * (row * width + column))) }

-- the same, three bytes to a tint
abbrev pub from_triples : ℕ → ℕ → List ℕ → Meaning Tint
from_triples width height bytes = from_enough (triples_needed width height) triple_rows width height bytes

-- how many bytes a row of bits takes: it is filled up to a whole byte
abbrev pub row_bytes : ℕ → ℕ
row_bytes width = (width + 7) / 8

-- whole bytes for each row
abbrev pub bits_needed : ℕ → ℕ → ℕ
bits_needed width height = row_bytes width * height

-- the cover that a column's bit stands for, in the byte that has it, the most significant bit first
abbrev pub bit_of : ℕ → ℕ → Cover
bit_of byte column = cond (byte / 2 ^ (7 - column % 8) % 2 == 1) full_cover no_cover

-- each bit makes the cover of its place, row after row
abbrev pub bit_rows : ℕ → ℕ → List ℕ → Meaning Cover
bit_rows width height bytes =
    record {
      width = width;
      height = height;
      sample = λ column row. Some (bit_of (slice_index bytes (row * row_bytes width + column / 8)) column);
    }

-- the same, one bit to a cover
abbrev pub from_bits : ℕ → ℕ → List ℕ → Meaning Cover
from_bits width height bytes = from_enough (bits_needed width height) bit_rows width height bytes

-- the cover that one byte makes
abbrev pub cover_of : ℕ → Cover
cover_of byte = record { amount = byte }

-- the grey that one byte makes
abbrev pub grey_of : ℕ → Grey
grey_of byte = record { shade = byte }
