-- The worked cases, by computation.
-- Assumes nothing.
use Rattle.std.proofs.Common.{refl}
use Rattle.cells.specs.Gathers.{changed, change_at, total, first, gather_at}
use Rattle.cells.specs.Outcomes.{in_the_way}
use Rattle.cells.specs.Windows.{inside}
use Rattle.canvas.specs.Cases.{WorkedCases}

pub cases : WorkedCases
unfolding changed change_at total first gather_at in_the_way inside
cases =
    record {
      grey_once = refl;
      grey_twice = refl;
      paper_below = refl;
      paper_above = refl;
      rows = refl;
      first_lay = refl;
      too_early = refl;
      overlapping = refl;
      once_top = refl;
      once_bottom = refl;
      second_lay = refl;
      same_rows = refl;
      all_finished = refl;
      wipe = refl;
      stands = refl;
      balance = refl;
      image_missing = refl;
      beside_it = refl;
    }
