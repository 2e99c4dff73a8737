-- Resolutions, pages, and the file that holds them. Assumes nothing.
use Rattle.std.specs.Prelude.{ℕ, Bool, false, cond, not, ◌&&◌, List, [], ◌∷◌, ◌++◌, length, Some, None, Ok, Option, Result, ◌==◌, nat_lt}
use Rattle.boxes.specs.Table.{same_kind}
use Rattle.boxes.specs.Tests.{Test}
use Rattle.boxes.specs.declared.fault.Fault.{Fault}
use Rattle.boxes.specs.declared.reason.Reason.TheVariants.{Miscounted}
use Rattle.boxes.specs.declared.table.Kind.{Kind}
use Rattle.boxes.specs.declared.table.Kind.TheVariants as kinds
use Rattle.boxes.specs.declared.table.Place.TheVariants as places
use Rattle.plan.specs.Headers.{page_head_of, page_header_tests, resolution_of, resolution_tests}
use Rattle.plan.specs.Laws.{has_id}
use Rattle.plan.specs.Page.{Page}
use Rattle.plan.specs.declared.headers.PageHead.{PageHead}
use Rattle.plan.specs.declared.layout.Row.{Row}
use Rattle.plan.specs.declared.page.Resolution.{Resolution}
use Rattle.reader.specs.Lone.{lone_rules}
use Rattle.reader.specs.Objects.{layout_state, layout_rules, nothing_held, row_of}
use Rattle.reader.specs.Searches.{SearchState, search_state, sought}
use Rattle.reader.specs.Walk.{Rules, then, tested, superbox, once}

-- A res box: what its resd box says.
abbrev pub resolution_rules : Rules (Option Resolution)
resolution_rules = lone_rules places.Resolution kinds.DisplayResolution resolution_tests resolution_of

-- A page: what its phdr and its res box say, and the rows of its layout objects.
pub record PageState : Type 0 where
  pub head : Option PageHead
  pub resolution : Option Resolution
  pub rows : List Row

abbrev pub page_state : Option PageHead → Option Resolution → List Row → PageState
page_state h r rows = record { head = h; resolution = r; rows = rows }

-- a page that has no box yet
abbrev pub new_page : PageState
new_page = page_state None None []

-- one row more: there is room, and its identifier is new, by the tests of the boxes that it comes from
abbrev pub pushed : List Row → Row → List Row
pushed rows row = cond (nat_lt (length rows) 64 && not (has_id row.layout.lobjid rows)) (rows ++ (row ∷ [])) rows

abbrev pub with_row : PageState → Option Row → PageState
with_row s None = s
with_row s (Some row) = page_state s.head s.resolution (pushed s.rows row)

-- a phdr box
abbrev pub header_into : PageState → ℕ → List ℕ → Result PageState Fault
header_into s at bs = tested places.Page at (page_header_tests bs) (page_state (Some (page_head_of bs)) s.resolution s.rows)

-- a res box
abbrev pub resolution_into : PageState → ℕ → ℕ → List ℕ → Result PageState Fault
resolution_into s at body bs = then (superbox resolution_rules at body bs None) (λ r. Ok (page_state s.head r s.rows))

-- the row of a layout object after the layout objects of some rows
abbrev pub row_read : List Row → ℕ → ℕ → List ℕ → Result (Option Row) Fault
row_read earlier at body bs = then (superbox layout_rules at body bs (layout_state earlier None nothing_held)) (λ l. Ok (row_of l.head l.held))

abbrev pub layout_into : PageState → ℕ → ℕ → List ℕ → Result PageState Fault
layout_into s at body bs = then (row_read s.rows at body bs) (λ row. Ok (with_row s row))

abbrev pub page_taken : PageState → Kind → ℕ → ℕ → List ℕ → Result PageState Fault
page_taken s k at body bs =
    cond (same_kind k kinds.PageHeader) (header_into s at bs)
    (cond (same_kind k kinds.Resolution) (resolution_into s at body bs) (cond (same_kind k kinds.LayoutObject) (layout_into s at body bs) (Ok s)))

abbrev pub page_count : PageState → Kind → ℕ
page_count s k =
    cond (same_kind k kinds.PageHeader) (once s.head)
    (cond (same_kind k kinds.Resolution) (once s.resolution) (cond (same_kind k kinds.LayoutObject) (length s.rows) 0))

-- NLobj is not the number of rows
abbrev pub miscounted : Option PageHead → List Row → Bool
miscounted None rows = false
miscounted (Some h) rows = not (h.nlobj == length rows)

abbrev pub page_closing : PageState → List Test
page_closing s = (miscounted s.head s.rows, Miscounted) ∷ []

abbrev pub page_rules : Rules PageState
page_rules = record { place = places.Page; count = page_count; taken = page_taken; closing = page_closing }

-- the page that a whole page box says
abbrev pub page_with : Option PageHead → Option Resolution → List Row → Option Page
page_with None r rows = None
page_with (Some h) None rows = None
page_with (Some h) (Some r) rows = Some (record { header = h.header; resolution = r; rows = rows })

abbrev pub page_from : PageState → Option Page
page_from s = page_with s.head s.resolution s.rows

-- The file: how many page boxes stand before the one that is wanted, or none where it has come; and the page that has come.
abbrev pub FileState : Type 0
FileState = SearchState Page

abbrev pub file_state : Option ℕ → Option Page → FileState
file_state l f = search_state l f

-- one page box more
abbrev pub counted : Option ℕ → Option Page → Option Page → FileState
counted left found p = sought left found p

abbrev pub file_taken : FileState → Kind → ℕ → ℕ → List ℕ → Result FileState Fault
file_taken s k at body bs =
    cond (same_kind k kinds.Page) (then (superbox page_rules at body bs new_page) (λ p. Ok (counted s.left s.found (page_from p)))) (Ok s)

abbrev pub file_rules : Rules FileState
file_rules = record { place = places.File; count = λ s k. 0; taken = file_taken; closing = λ s. [] }
