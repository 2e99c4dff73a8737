-- What each call does to one cell, and what it learns from one.
-- Assumes nothing.
use Rattle.std.specs.Prelude.{ℕ, ◌+◌, cond, List, Some, None, Option, ◌==◌, nat_lt}
use Rattle.raster.specs.declared.covers.Cover.{Cover}
use Rattle.raster.specs.declared.touches.Touch.{Touch}
use Rattle.raster.specs.declared.touches.Touch.TheVariants.{Bare, MaskMissing as MaskGone, ImageMissing as ImageGone, Dab}
use Rattle.cells.specs.declared.refusals.Refusal.{Refusal}
use Rattle.cells.specs.declared.refusals.Refusal.TheVariants.{OutOfTurn, MaskMissing, ImageMissing}
use Rattle.cells.specs.declared.stored.Cell.{Cell}

-- a colour after a touch: bare keeps it, a dab blends
abbrev pub laid_over : {C : Type 0} → (C → C → Cover → C) → C → Touch C → C
laid_over blended below Bare = below
laid_over blended below MaskGone = below
laid_over blended below ImageGone = below
laid_over blended below (Dab colour cover) = blended below colour cover

-- a cell with the page colour, at level 0
abbrev pub fresh : {C : Type 0} → C → ℕ → ℕ → Cell C → Cell C
fresh colour column row cell = record { colour = colour; level = 0 }

-- a cell at level k takes the touch and gets level k + 1
abbrev pub laid_cell : {C : Type 0} → (C → C → Cover → C) → ℕ → (ℕ → ℕ → Touch C) → ℕ → ℕ → Cell C → Cell C
laid_cell blended k touch column row cell =
    cond (cell.level == k) (record { colour = laid_over blended cell.colour (touch column row); level = k + 1 }) cell

-- 1 for a cell at a level, which is raised if the level is the object's and finished if it is the number of rows
abbrev pub at_level : {C : Type 0} → ℕ → ℕ → ℕ → Cell C → ℕ
at_level k column row cell = cond (cell.level == k) 1 0

-- 1 for a cell above the object's level, which is passed over
abbrev pub above_level : {C : Type 0} → ℕ → ℕ → ℕ → Cell C → ℕ
above_level k column row cell = cond (nat_lt k cell.level) 1 0

-- the level of a cell
abbrev pub level_of : {C : Type 0} → ℕ → ℕ → Cell C → ℕ
level_of column row cell = cell.level

-- refused for a cell whose level is below the object's
abbrev pub out_of_turn : {C : Type 0} → ℕ → ℕ → ℕ → Cell C → Option Refusal
out_of_turn k column row cell =
    cond (nat_lt cell.level k) (Some (OutOfTurn (record { column = column; row = row }) cell.level)) None

-- refused for a touch that lacks its mask's or its image's sample
abbrev pub missing_touch : {C : Type 0} → ℕ → ℕ → Touch C → Option Refusal
missing_touch column row Bare = None
missing_touch column row MaskGone = Some (MaskMissing (record { column = column; row = row }))
missing_touch column row ImageGone = Some (ImageMissing (record { column = column; row = row }))
missing_touch column row (Dab colour cover) = None

-- only a cell at the object's level is asked for its touch
abbrev pub missing : {C : Type 0} → ℕ → (ℕ → ℕ → Touch C) → ℕ → ℕ → Cell C → Option Refusal
missing k touch column row cell = cond (cell.level == k) (missing_touch column row (touch column row)) None

-- the bytes of a cell's colour
abbrev pub shown_cell : {C : Type 0} → (C → List ℕ) → ℕ → ℕ → Cell C → List ℕ
shown_cell shown column row cell = shown cell.colour
