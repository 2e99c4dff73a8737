-- The rows so far fit.
use Rattle.std.proofs.Common.{ℕ, ◌<◌, get_or}
use Rattle.plan.specs.declared.layout.Row.{Row}
use Rattle.roundtrip.specs.Fits.{RowFits}
use Rattle.roundtrip.proofs.bounds.plan_fits.Given as goal

abbrev pub invariant-loop-row : goal.invariant-loop-row
invariant-loop-row l = (k : ℕ) (d : Row) → k < l.row-index → RowFits (get_or l.row-items k d)
