-- Rectangles and windows: which positions they have, and where the cells of a rectangle lie.
-- Assumes nothing.
use Rattle.std.specs.Prelude.{ℕ, ◌+◌, ◌-◌, ◌*◌, ◌/◌, ◌%◌, Bool, ◌&&◌, nat_le, nat_lt}
use Rattle.cells.specs.declared.rectangles.Rectangle.{Rectangle}

-- how many columns a rectangle has
abbrev pub wide : Rectangle → ℕ
wide r = r.right - r.left

-- how many rows a rectangle has
abbrev pub high : Rectangle → ℕ
high r = r.bottom - r.top

-- whether a rectangle has a position: its right column and its bottom row are left out
abbrev pub holds : Rectangle → ℕ → ℕ → Bool
holds r column row = nat_le r.left column && nat_lt column r.right && nat_le r.top row && nat_lt row r.bottom

-- the column of the i-th cell: cells lie row after row
abbrev pub column_at : Rectangle → ℕ → ℕ
column_at area i = area.left + i % wide area

-- the row of the i-th cell
abbrev pub row_at : Rectangle → ℕ → ℕ
row_at area i = area.top + i / wide area

-- which cell lies at a position
abbrev pub index_at : Rectangle → ℕ → ℕ → ℕ
index_at area column row = (row - area.top) * wide area + (column - area.left)

-- whether the i-th cell of an area lies in a window
unfoldable pub inside : Rectangle → Rectangle → ℕ → Bool
inside area window i = holds window (column_at area i) (row_at area i)

-- the tests of a window in one direction: it begins at most where the area ends, begins at most where it ends, ends at
-- most where the area ends, and begins at least where the area begins
abbrev pub spanned : ℕ → ℕ → ℕ → ℕ → Bool
spanned low top from to = nat_le from top && nat_le from to && nat_le to top && nat_le low from

-- the tests of a window: across, and then down
abbrev pub granted : Rectangle → Rectangle → Bool
granted area window =
    spanned area.left area.right window.left window.right
    && spanned area.top area.bottom window.top window.bottom
