-- A layout object on one row of the page: what does not change along the row.
-- Assumes nothing.
use Rattle.std.specs.Prelude.{ℕ, ◌+◌, ◌-◌, cond, ◌&&◌, Some, None, Option, nat_le, nat_lt}
use Rattle.raster.specs.Meanings.{Meaning, looked}
use Rattle.raster.specs.Touches.{joined}
use Rattle.raster.specs.declared.covers.Cover.{Cover}
use Rattle.raster.specs.declared.scanlines.Scanline.{Scanline}
use Rattle.raster.specs.declared.scanlines.SourceRow.{SourceRow}
use Rattle.raster.specs.declared.sources.Look.{Look}
use Rattle.raster.specs.declared.sources.Look.TheVariants.{Outside}
use Rattle.raster.specs.declared.touches.Placement.{Placement}
use Rattle.raster.specs.declared.touches.Touch.{Touch}
use Rattle.raster.specs.declared.touches.Touch.TheVariants.{Bare}

-- where a source with its corner at (left, top) stands on a row: the column of its first sample, and which of its rows
-- that is
abbrev pub source_row : ℕ → ℕ → ℕ → SourceRow
source_row left top row = record { left = left; row = cond (nat_le top row) (Some (row - top)) None }

-- the column after the last of the layout rectangle, or its first where the row lies outside of the rectangle
abbrev pub right_edge : Placement → ℕ → ℕ
right_edge p row = cond (nat_le p.lvoff row && nat_lt row (p.lvoff + p.lheight)) (p.lhoff + p.lwidth) p.lhoff

-- a layout object's part of a row
abbrev pub scanline_of : Placement → ℕ → Scanline
scanline_of p row =
    record {
      left = p.lhoff;
      right = right_edge p row;
      mask = source_row (p.lhoff + p.mask_across) (p.lvoff + p.mask_down) row;
      image = source_row (p.lhoff + p.image_across) (p.lvoff + p.image_down) row;
    }

-- what a source has at one of its columns, on a row that it may not have
abbrev pub looked_on : {S : Type 0} → Meaning S → ℕ → ℕ → Option ℕ → Look S
looked_on m left column None = Outside
looked_on m left column (Some row) = cond (nat_le left column) (looked m (column - left) row) Outside

-- what a source that stands so on a row has at a column
abbrev pub looked_along : {S : Type 0} → Meaning S → SourceRow → ℕ → Look S
looked_along m at column = looked_on m at.left column at.row

-- the touch at a column of a row
abbrev pub touch_along : {C : Type 0} → Scanline → Meaning Cover → Meaning C → ℕ → Touch C
touch_along line mask image column =
    cond (nat_le line.left column && nat_lt column line.right) (joined (looked_along mask line.mask column) (looked_along image line.image column)) Bare
