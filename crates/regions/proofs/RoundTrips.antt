-- Each value has one encoding, and each encoding one value.
use Rattle.regions.specs.Region.{Judgement}
use Rattle.regions.specs.RoundTrips.{RoundTrips}
use Rattle.regions.proofs.Regions.{region_back, region_again}
use Rattle.regions.proofs.RwRegions.{rw_back, rw_same, rw_again}

pub round_trips : (j : Judgement) → RoundTrips j
round_trips j = record { region_back = region_back j; region_again = region_again j; rw_back = rw_back j; rw_same = rw_same; rw_again = rw_again j }
