-- What is written is read again. Assumes nothing.
use Rattle.std.specs.Prelude.{◌≡◌, ℕ, cond, List, Ok}
use Rattle.plan.specs.Page.{Page, page_of}
use Rattle.plan.specs.declared.lawful.Plan.{Plan}
use Rattle.reader.specs.Reading.{page_at}
use Rattle.writer.specs.Puts.{room}
use Rattle.writer.specs.Written.{written}
use Rattle.roundtrip.specs.Fits.{PageFits}

-- reading the written form of a plan gives what the plan says
abbrev pub ReadsBack : Plan → Type 0
ReadsBack p = page_at 0 (written (page_of p)) ≡ Ok (page_of p)

-- writing what was read from bytes of the written form gives these bytes
abbrev pub WritesBack : Plan → Type 0
WritesBack p = (bytes : List ℕ) (page : Page) → bytes ≡ written (page_of p) → page_at 0 bytes ≡ Ok page → written page ≡ bytes

-- no other plan has the same written form
abbrev pub OneForm : Plan → Type 0
OneForm p = (q : Plan) → PageFits (page_of q) → written (page_of q) ≡ written (page_of p) → q ≡ p

-- the round trip
pub record RoundTrip (p : Plan) : Type 0 where
  pub reads_back : ReadsBack p
  pub writes_back : WritesBack p
  pub one_form : OneForm p

-- the plan that is read back where there is room for the bytes; else the plan that there was
abbrev pub read_back : List ℕ → Plan → Plan → Plan
read_back buffer p old = cond (room buffer (written (page_of p))) p old
