-- What a box header says, and the tests of it: the box lies within its container, and its length is one that a box can have. Assumes nothing.
use Rattle.std.specs.Prelude.{ℕ, ◌≤◌, Bool, cond, not, ◌&&◌, List, [], ◌∷◌, length, Result, ◌==◌, nat_lt}
use Rattle.boxes.specs.declared.frame.Frame.{Frame}
use Rattle.boxes.specs.declared.reason.Reason.{Reason}
use Rattle.boxes.specs.declared.reason.Reason.TheVariants.{Truncated, BadLength}
use Rattle.boxes.specs.Field.{field}
use Rattle.boxes.specs.Tests.{Test, judged}

-- the four-byte length, the four-byte type, and the eight-byte length that follows them where the first is 1
abbrev pub short_length : List ℕ → ℕ
short_length bs = field 4 0 bs

abbrev pub type_code : List ℕ → ℕ
type_code bs = field 4 4 bs

abbrev pub long_length : List ℕ → ℕ
long_length bs = field 8 8 bs

-- how many bytes the header has, by the four-byte length
abbrev pub header_by : ℕ → ℕ
header_by short = cond (short == 1) 16 8

abbrev pub header_size : List ℕ → ℕ
header_size bs = header_by (short_length bs)

-- how many bytes the box has, its header included, by the four-byte length, the eight-byte length and how many bytes are left of the container
abbrev pub size_by : ℕ → ℕ → ℕ → ℕ
size_by short long left = cond (short == 0) left (cond (short == 1) long short)

abbrev pub box_size : List ℕ → ℕ
box_size bs = size_by (short_length bs) (long_length bs) (length bs)

-- a box of a size lies within what is left, and has room for its header
abbrev pub length_tests : ℕ → ℕ → ℕ → List Test
length_tests header size left = (nat_lt left size, Truncated) ∷ (nat_lt size header, BadLength) ∷ []

-- the tests of a header, in their order, by the same numbers; top says that the container is the file
abbrev pub tests_by : Bool → ℕ → ℕ → ℕ → List Test
tests_by top short long left =
    (nat_lt left 8, Truncated)
    ∷ (nat_lt left (header_by short), Truncated)
    ∷ (short == 0 && not top, BadLength)
    ∷ length_tests (header_by short) (size_by short long left) left

-- the tests of the box at the front of what is left of a container
abbrev pub frame_tests : Bool → List ℕ → List Test
frame_tests top bs = tests_by top (short_length bs) (long_length bs) (length bs)

abbrev pub frame_made : ℕ → ℕ → ℕ → Frame
frame_made c h s = record { code = c; header = h; size = s }

-- the answer by the type's code and the same numbers
abbrev pub framed_by : Bool → ℕ → ℕ → ℕ → ℕ → Result Frame Reason
framed_by top code short long left = judged (tests_by top short long left) (frame_made code (header_by short) (size_by short long left))

-- the answer for what is left of a container
abbrev pub framed : Bool → List ℕ → Result Frame Reason
framed top bs = framed_by top (type_code bs) (short_length bs) (long_length bs) (length bs)

-- a box has its header, and lies within what is left of its container
abbrev pub Within : Frame → ℕ → Type 0
Within f left = (8 ≤ f.header) × (f.header ≤ f.size) × (f.size ≤ left)
