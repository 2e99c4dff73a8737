-- What holds of every read, in the subject's words. Assumes nothing.
use Rattle.std.specs.Prelude.{◌≡◌, ℕ, zero, suc, ◌<◌, Bool, true, not, ◌&&◌, List, [], ◌∷◌, ◌++◌, length, drop, Some, None, Ok, Err, ◌==◌, ◌≢◌}
use Rattle.boxes.specs.Frame.{framed, short_length, box_size}
use Rattle.boxes.specs.Table.{entry_of}
use Rattle.boxes.specs.declared.fault.Fault.{Fault}
use Rattle.boxes.specs.declared.frame.Frame.{Frame}
use Rattle.plan.specs.declared.headers.PageHead.{PageHead}
use Rattle.reader.specs.Pages.{PageState, new_page, page_rules}
use Rattle.reader.specs.Reading.{page_at}
use Rattle.reader.specs.Walk.{superbox}
use Rattle.reader.specs.declared.read.Refusal.TheVariants.{Faulty}

-- the offset of a fault is that of a byte of the file
abbrev pub FaultsLieInTheFile : Type 0
FaultsLieInTheFile = (file : List ℕ) (number : ℕ) (f : Fault) → page_at number file ≡ Err (Faulty f) → f.offset < length file

-- a page box that is granted has a page header, whose NLobj is the number of rows
abbrev pub RowsAreCounted : Type 0
RowsAreCounted =
    (at body : ℕ) (contents : List ℕ) (s : PageState) → superbox page_rules at body contents new_page ≡ Ok s → (h : PageHead) × (s.head ≡ Some h) × (h.nlobj ≡ length s.rows)

-- every box of some bytes says its length, so that none of them goes on to the end; the first number bounds how many there can be
unfoldable pub say_their_length : ℕ → List ℕ → Bool
say_their_length zero bs = true
say_their_length (suc n) [] = true
say_their_length (suc n) (b ∷ bs) = not (short_length (b ∷ bs) == 0) && say_their_length n (drop (box_size (b ∷ bs)) (b ∷ bs))

-- some bytes are one box of a type that is skipped
pub record SkippedBox (bs : List ℕ) : Type 0 where
  pub frame : Frame
  pub granted : framed true bs ≡ Ok frame
  pub whole : frame.size ≡ length bs
  pub other : entry_of frame.code ≡ None

-- a skipped box after the end of a file that has no fault, and whose boxes say their length, changes no answer
abbrev pub SkippedBoxesChangeNothing : Type 0
SkippedBoxesChangeNothing =
    (file more : List ℕ) (number : ℕ)
    → ((f : Fault) → page_at number file ≢ Err (Faulty f))
    → say_their_length (length file) file ≡ true
    → SkippedBox more
    → page_at number (file ++ more) ≡ page_at number file
