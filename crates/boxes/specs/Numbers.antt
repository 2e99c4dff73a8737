-- The number of each reason for which a file is refused. Assumes nothing.
use Rattle.std.specs.Prelude.{ℕ}
use Rattle.boxes.specs.declared.reason.Reason.{Reason}
use Rattle.boxes.specs.declared.reason.Reason.TheVariants.{Truncated, BadLength, Misplaced, WrongSize, IllegalValue, StyleMismatch, RepeatedIdentifier, Miscounted, TooManyObjects}

abbrev pub reason_number : Reason → ℕ
reason_number Truncated = 1
reason_number BadLength = 2
reason_number Misplaced = 3
reason_number WrongSize = 4
reason_number IllegalValue = 5
reason_number StyleMismatch = 6
reason_number RepeatedIdentifier = 7
reason_number Miscounted = 7
reason_number TooManyObjects = 8
