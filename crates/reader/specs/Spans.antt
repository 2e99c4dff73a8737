-- Where a page box lies in a file. Assumes nothing.
use Rattle.std.specs.Prelude.{ℕ, ◌+◌, ◌-◌, true, cond, List, [], length, Some, None, Ok, Err, Option, Result}
use Rattle.boxes.specs.Table.{same_kind}
use Rattle.boxes.specs.declared.fault.Fault.{Fault}
use Rattle.boxes.specs.declared.table.Kind.{Kind}
use Rattle.boxes.specs.declared.table.Kind.TheVariants as kinds
use Rattle.boxes.specs.declared.table.Place.TheVariants as places
use Rattle.reader.specs.Searches.{SearchState, search_state, sought}
use Rattle.reader.specs.Walk.{Rules, walked}
use Rattle.reader.specs.declared.span.Span.{Span}

-- how many page boxes stand before the one that is wanted, or none where it has come; and where it lies
abbrev pub FinderState : Type 0
FinderState = SearchState Span

abbrev pub finder_state : Option ℕ → Option Span → FinderState
finder_state l f = search_state l f

-- a box from its header's offset to the end of its contents
abbrev pub span_of : ℕ → ℕ → List ℕ → Span
span_of at body bs = record { offset = at; size = body - at + length bs }

-- one page box more
abbrev pub passed : Option ℕ → Option Span → Span → FinderState
passed left found s = sought left found (Some s)

abbrev pub finder_taken : FinderState → Kind → ℕ → ℕ → List ℕ → Result FinderState Fault
finder_taken s k at body bs = Ok (cond (same_kind k kinds.Page) (passed s.left s.found (span_of at body bs)) s)

abbrev pub finder_rules : Rules FinderState
finder_rules = record { place = places.File; count = λ s k. 0; taken = finder_taken; closing = λ s. [] }

abbrev pub found_span : Result FinderState Fault → Option Span
found_span (Ok s) = s.found
found_span (Err f) = None

-- where the page box with a number lies, counted from 0 among the page boxes of a file whose top level has no fault
abbrev pub span_at : ℕ → List ℕ → Option Span
span_at number file = found_span (walked finder_rules (length file) 0 true file (finder_state (Some number) None))
