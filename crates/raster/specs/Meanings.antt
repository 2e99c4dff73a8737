-- What a source means: its size, and at each place a sample or "not there yet".
-- Assumes nothing.
use Rattle.std.specs.Prelude.{◌≡◌, ℕ, ◌<◌, Bool, cond, ◌&&◌, Some, None, Option, nat_lt}
use Rattle.raster.specs.declared.sources.Look.{Look}
use Rattle.raster.specs.declared.sources.Look.TheVariants.{Outside, Missing, Found}

-- a width, a height, and what is at a column and a row: `None` is "not there yet"
pub record Meaning (S : Type 0) : Type 0 where
  pub width : ℕ
  pub height : ℕ
  pub sample : ℕ → ℕ → Option S

-- no source is wider or higher
abbrev pub most : ℕ
most = 65535

-- whether a column and a row are a place
abbrev pub is_place : {S : Type 0} → Meaning S → ℕ → ℕ → Bool
is_place m column row = nat_lt column m.width && nat_lt row m.height

-- what is found where a sample should be
abbrev pub found : {S : Type 0} → Option S → Look S
found None = Missing
found (Some sample) = Found sample

-- what a look answers: "outside" exactly if there is no such place
abbrev pub looked : {S : Type 0} → Meaning S → ℕ → ℕ → Look S
looked m column row = cond (is_place m column row) (found (m.sample column row)) Outside

-- one sample at every place
abbrev pub uniform : {S : Type 0} → ℕ → ℕ → S → Meaning S
uniform width height sample = record { width = width; height = height; sample = λ _ _. Some sample }

-- the rows from a given row on are not there yet
abbrev pub arrived : {S : Type 0} → ℕ → Meaning S → Meaning S
arrived from m =
    record { width = m.width; height = m.height; sample = λ column row. cond (nat_lt row from) (m.sample column row) None }

-- two sources have one meaning: their sizes agree, and their samples at each place
pub record OneMeaning {S : Type 0} (one other : Meaning S) : Type 0 where
  pub wide : one.width ≡ other.width
  pub high : one.height ≡ other.height
  pub samples : (column row : ℕ) → column < one.width → row < one.height → one.sample column row ≡ other.sample column row
