-- Covers: how much of what lies below is hidden.
-- Assumes nothing.
use Rattle.std.specs.Prelude.{ℕ}
use Rattle.raster.specs.declared.covers.Cover.{Cover}

-- the amount of full cover, which is also the number of steps from none to full
abbrev pub full : ℕ
full = 255

-- no cover
abbrev pub no_cover : Cover
no_cover = record { amount = 0 }

-- full cover
abbrev pub full_cover : Cover
full_cover = record { amount = full }
