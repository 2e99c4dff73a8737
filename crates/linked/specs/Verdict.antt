-- The answer of a read as one number. Assumes nothing.
use Rattle.std.specs.Prelude.{ℕ, Ok, Err, Result}
use Rattle.plan.specs.Page.{Page}
use Rattle.reader.specs.Reading.{refusal_number}
use Rattle.reader.specs.declared.read.Refusal.{Refusal}

-- 0 where the page is granted, and otherwise the refusal's number
abbrev pub verdict : Result Page Refusal → ℕ
verdict (Ok p) = 0
verdict (Err e) = refusal_number e
