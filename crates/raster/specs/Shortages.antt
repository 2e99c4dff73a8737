-- The numbers of the refusals.
-- Assumes nothing.
use Rattle.std.specs.Prelude.{ℕ, cond, List, ◌++◌, Ok, Err, Result, codes, nat_le}
use Rattle.std.specs.Fmt.{decimal}
use Rattle.raster.specs.declared.shortages.Shortage.{Shortage}
use Rattle.raster.specs.declared.shortages.Shortage.TheVariants.{Buffer, Samples}

-- 25 where a buffer is too short, 26 where a source was handed too few bytes
abbrev pub number_of : Shortage → ℕ
number_of Buffer = 25
number_of Samples = 26

-- how one is printed
abbrev pub text_of : Shortage → List ℕ
text_of shortage = codes "refused " ++ decimal (number_of shortage)

-- how many bytes are needed, or refused where fewer are given
abbrev pub checked : ℕ → ℕ → Result ℕ Shortage
checked needed given = cond (nat_le needed given) (Ok needed) (Err Samples)
