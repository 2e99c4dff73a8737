-- The numbers of the refusals, and how they are printed.
-- Assumes nothing.
use Rattle.std.specs.Prelude.{ℕ, List, [], ◌++◌, codes}
use Rattle.std.specs.Fmt.{decimal}
use Rattle.cells.specs.declared.rectangles.Position.{Position}
use Rattle.cells.specs.declared.refusals.Refusal.{Refusal}
use Rattle.cells.specs.declared.refusals.Refusal.TheVariants.{Rectangle, Memory, Object, Window, OutOfTurn, Buffer, MaskMissing, ImageMissing}

-- the number that each refusal is known by
abbrev pub number_of : Refusal → ℕ
number_of Rectangle = 20
number_of Memory = 21
number_of Object = 22
number_of Window = 23
number_of (OutOfTurn position level) = 24
number_of Buffer = 25
number_of (MaskMissing position) = 30
number_of (ImageMissing position) = 31

-- a position as it is printed
abbrev pub place_text : Position → List ℕ
place_text position = codes " at " ++ (decimal position.column ++ (codes " " ++ decimal position.row))

-- what is printed after the number: the position that a refusal carries, and the level
abbrev pub details : Refusal → List ℕ
details (OutOfTurn position level) = place_text position ++ (codes " level " ++ decimal level)
details (MaskMissing position) = place_text position
details (ImageMissing position) = place_text position
details Rectangle = []
details Memory = []
details Object = []
details Window = []
details Buffer = []

-- how a refusal is printed
abbrev pub text_of : Refusal → List ℕ
text_of refusal = codes "refused " ++ (decimal (number_of refusal) ++ details refusal)
