-- What makes a plan lawful. Assumes nothing.
use Rattle.std.specs.Prelude.{◌≡◌, ℕ, ◌-◌, Bool, true, false, not, ◌&&◌, ◌||◌, List, [], ◌∷◌, take, drop, replicate, ◌==◌}
use Rattle.plan.specs.declared.layout.Objects.TheVariants.{Mask}
use Rattle.plan.specs.declared.layout.Row.{Row}
use Rattle.plan.specs.declared.page.PageHeader.{PageHeader}
use Rattle.plan.specs.declared.page.Resolution.{Resolution}

-- page height and width are not 0
abbrev pub sized_page : PageHeader → Bool
sized_page h = not (h.pheight == 0) && not (h.pwidth == 0)

-- the four resolution numbers are not 0
abbrev pub whole_resolution : Resolution → Bool
whole_resolution r = not (r.vrdn == 0) && (not (r.vrdd == 0) && (not (r.hrdn == 0) && not (r.hrdd == 0)))

-- a row has an identifier
abbrev pub named : ℕ → Row → Bool
named id row = row.layout.lobjid == id

-- some row has an identifier
abbrev pub has_id : ℕ → List Row → Bool
has_id id [] = false
has_id id (row ∷ rows) = named id row || has_id id rows

-- no two rows have one identifier
abbrev pub distinct_ids : List Row → Bool
distinct_ids [] = true
distinct_ids (row ∷ rows) = not (has_id row.layout.lobjid rows) && distinct_ids rows

-- the first n rows have distinct identifiers
abbrev pub distinct_below : ℕ → List Row → Bool
distinct_below n rows = distinct_ids (take n rows)

-- the row of a place of the array that holds no layout object
abbrev pub blank_row : Row
blank_row =
    record {
      layout = record { lobjid = 0; lheight = 0; lwidth = 0; lvoff = 0; lhoff = 0 };
      objects = Mask (record { objid = 0; nocodestream = false; ovoff = 0; ohoff = 0; off = 0; len = 0; dr = 0 });
    }

-- every place from the n-th on has the blank row
abbrev pub BlankFrom : ℕ → List Row → Type 0
BlankFrom n rows = drop n rows ≡ replicate (64 - n) blank_row
