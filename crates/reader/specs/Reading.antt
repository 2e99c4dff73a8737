-- What reading answers for any bytes. Assumes nothing.
use Rattle.std.specs.Prelude.{ℕ, true, List, ◌++◌, codes, length, Some, None, Ok, Err, Option, Result}
use Rattle.std.specs.Fmt.{decimal}
use Rattle.boxes.specs.Numbers.{reason_number}
use Rattle.boxes.specs.Table.{layer_of}
use Rattle.boxes.specs.declared.fault.Fault.{Fault}
use Rattle.plan.specs.Page.{Page}
use Rattle.reader.specs.Pages.{FileState, file_state, file_rules}
use Rattle.reader.specs.Walk.{walked}
use Rattle.reader.specs.declared.read.Refusal.{Refusal}
use Rattle.reader.specs.declared.read.Refusal.TheVariants.{Faulty, NoSuchPage}

-- the number of a refusal
abbrev pub refusal_number : Refusal → ℕ
refusal_number (Faulty f) = reason_number f.reason
refusal_number NoSuchPage = 10

-- how a refusal is printed: its number, and of a fault the layer of its container and the offset of the box
abbrev pub refusal_text : Refusal → List ℕ
refusal_text (Faulty f) =
    codes "refused " ++ (decimal (reason_number f.reason) ++ (codes " layer " ++ (decimal (layer_of f.inside) ++ (codes " offset " ++ decimal f.offset))))
refusal_text NoSuchPage = codes "refused " ++ decimal 10

-- the whole file is walked first, and then the page must have come
abbrev pub found_page : Option Page → Result Page Refusal
found_page None = Err NoSuchPage
found_page (Some p) = Ok p

abbrev pub file_page : Result FileState Fault → Result Page Refusal
file_page (Ok s) = found_page s.found
file_page (Err f) = Err (Faulty f)

-- the page with a number, counted from 0 among the page boxes of a file, or the refusal
abbrev pub page_at : ℕ → List ℕ → Result Page Refusal
page_at number file = file_page (walked file_rules (length file) 0 true file (file_state (Some number) None))

-- what the call answers
abbrev pub read_answer : Result Page Refusal → Result (Unit {0}) Refusal
read_answer (Ok p) = Ok tt
read_answer (Err e) = Err e

-- what the caller's plan says afterwards: where the read is refused, what it said before
abbrev pub read_page : Result Page Refusal → Page → Page
read_page (Ok p) old = p
read_page (Err e) old = old
