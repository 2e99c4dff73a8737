-- A canvas as definitions speak of it, and what each call answers and makes of it.
-- Assumes nothing.
use Rattle.std.specs.Prelude.{ℕ, ◌*◌, Bool, cond, ◌&&◌, List, length, Some, None, Ok, Err, Option, Result, nat_le, nat_lt}
use Rattle.std.specs.Option.{option_map}
use Rattle.std.specs.List.{slice_get}
use Rattle.plan.specs.Page.{Page}
use Rattle.raster.specs.Meanings.{Meaning}
use Rattle.raster.specs.Touches.{touch_at}
use Rattle.raster.specs.declared.covers.Cover.{Cover}
use Rattle.raster.specs.declared.touches.Placement.{Placement}
use Rattle.cells.specs.Gathers.{changed, total}
use Rattle.cells.specs.Outcomes.{in_the_way, lay_counts, laid_cells, wipe_answer, wiped_cells, shown_answer, shown_buffer}
use Rattle.cells.specs.Passes.{fresh, at_level, level_of}
use Rattle.cells.specs.Windows.{wide, high, holds, index_at}
use Rattle.cells.specs.declared.rectangles.Rectangle.{Rectangle}
use Rattle.cells.specs.declared.refusals.Refusal.{Refusal}
use Rattle.cells.specs.declared.refusals.Refusal.TheVariants.{Rectangle as Outline, Memory, Object}
use Rattle.cells.specs.declared.stored.Cell.{Cell}
use Rattle.canvas.specs.Placements.{placement_of}

-- the page, the canvas's rectangle of it, and the memory: the rectangle's cells, row after row, and what lies beyond them
pub record View (C : Type 0) : Type 0 where
  pub page : Page
  pub area : Rectangle
  pub cells : List (Cell C)

-- whether a rectangle is a canvas of a page: neither empty nor reversed, in the page, at most 1,024 wide, at most
-- 1,024 high and with at most 65,536 cells
abbrev pub lawful : Page → Rectangle → Bool
lawful page r =
    nat_lt r.left r.right && nat_lt r.top r.bottom && nat_le r.right page.header.pwidth && nat_le r.bottom page.header.pheight
    && nat_le (wide r) 1024 && nat_le (high r) 1024 && nat_le (wide r * high r) 65536

-- the number of cells of a rectangle that is lawful and for which the memory has enough
abbrev pub check_answer : Page → Rectangle → ℕ → Result ℕ Refusal
check_answer page r memory = cond (lawful page r) (cond (nat_le (wide r * high r) memory) (Ok (wide r * high r)) (Err Memory)) (Err Outline)

-- the rectangle of a canvas where check refuses: 0 by 0 at (0, 0)
abbrev pub no_area : Rectangle
no_area = record { left = 0; top = 0; right = 0; bottom = 0 }

-- the rectangle of a canvas that is opened
abbrev pub area_by : Rectangle → Result ℕ Refusal → Rectangle
area_by r (Ok cells) = r
area_by r (Err refusal) = no_area

-- the memory of a canvas that is opened
abbrev pub memory_by : {C : Type 0} → C → Rectangle → List (Cell C) → Result ℕ Refusal → List (Cell C)
memory_by colour r memory (Ok cells) = changed r r (fresh colour) memory
memory_by colour r memory (Err refusal) = memory

-- a canvas that is opened: each cell gets the page colour and level 0
abbrev pub opened : {C : Type 0} → Page → Rectangle → List (Cell C) → C → View C
opened page r memory colour =
    record {
      page = page;
      area = area_by r (check_answer page r (length memory));
      cells = memory_by colour r memory (check_answer page r (length memory));
    }

-- where the object with a number stands, if there is one
abbrev pub object_at : Page → ℕ → Option Placement
object_at page k = option_map placement_of (slice_get page.rows k)

-- what a lay answers of an object that may not be there
abbrev pub lay_object : {C : Type 0} → ℕ → Rectangle → Meaning Cover → Meaning C → Rectangle → List (Cell C) → Option Placement → Result (ℕ × ℕ) Refusal
lay_object k window mask image area cells None = Err Object
lay_object k window mask image area cells (Some place) = lay_counts k area window cells (in_the_way k (touch_at place mask image) area window cells)

-- the cells after a lay of an object that may not be there
abbrev pub object_cells : {C : Type 0} → (C → C → Cover → C) → ℕ → Rectangle → Meaning Cover → Meaning C → Rectangle → List (Cell C) → Option Placement → List (Cell C)
object_cells blended k window mask image area cells None = cells
object_cells blended k window mask image area cells (Some place) =
    laid_cells blended k (touch_at place mask image) area window cells (in_the_way k (touch_at place mask image) area window cells)

-- how many cells a lay raises and how many it passes over
abbrev pub lay_answer : {C : Type 0} → View C → ℕ → Rectangle → Meaning Cover → Meaning C → Result (ℕ × ℕ) Refusal
lay_answer v k window mask image = lay_object k window mask image v.area v.cells (object_at v.page k)

-- the canvas after a lay
abbrev pub laid : {C : Type 0} → (C → C → Cover → C) → View C → ℕ → Rectangle → Meaning Cover → Meaning C → View C
laid blended v k window mask image =
    record {
      page = v.page;
      area = v.area;
      cells = object_cells blended k window mask image v.area v.cells (object_at v.page k);
    }

-- the sum of the levels that a wipe takes away
abbrev pub levels_wiped : {C : Type 0} → View C → Rectangle → Result ℕ Refusal
levels_wiped v window = wipe_answer v.area window v.cells

-- the canvas after a wipe
abbrev pub wiped : {C : Type 0} → View C → Rectangle → C → View C
wiped v window colour = record { page = v.page; area = v.area; cells = wiped_cells colour v.area window v.cells }

-- how many cells are finished of a window that is shown: a cell is finished at the level that is the number of rows
abbrev pub finished_shown : {C : Type 0} → ℕ → View C → Rectangle → List ℕ → Result ℕ Refusal
finished_shown size v window buffer = shown_answer size (length v.page.rows) v.area window v.cells buffer

-- the buffer after a show
abbrev pub shown_in : {C : Type 0} → (C → List ℕ) → ℕ → View C → Rectangle → List ℕ → List ℕ
shown_in shown size v window buffer = shown_buffer shown size v.area window v.cells buffer

-- the canvas after a show, in which nothing changes
abbrev pub shown_from : {C : Type 0} → View C → View C
shown_from v = v

-- the number of finished cells
abbrev pub finished : {C : Type 0} → View C → ℕ
finished v = total v.area v.area (at_level (length v.page.rows)) v.cells

-- the sum of the levels that stand in all cells
abbrev pub standing : {C : Type 0} → View C → ℕ
standing v = total v.area v.area level_of v.cells

-- the cell at a position, if the canvas has that position
abbrev pub cell_at : {C : Type 0} → View C → ℕ → ℕ → Option (Cell C)
cell_at v column row = cond (holds v.area column row) (slice_get v.cells (index_at v.area column row)) None
