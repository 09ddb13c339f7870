-- Each value has one encoding, and each encoding one value.
use Rattle.root_cas.specs.RoundTrips.{RoundTrips}
use Rattle.root_cas.proofs.Roots.{roots_back, roots_again}

pub round_trips : RoundTrips
round_trips = record { roots_back = roots_back; roots_again = roots_again }
