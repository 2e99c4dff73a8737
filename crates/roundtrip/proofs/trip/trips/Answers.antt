use Rattle.roundtrip.proofs.Plans.{round_trip}
use Rattle.roundtrip.proofs.trip.trips.Goals as goal

pub returns : goal.returns
returns c = record { trip = round_trip c.args.plan.now c.plan_fits.ensures.fits }
