-- Each value has one encoding, and each encoding one value.
use Rattle.regions.specs.Region.{Judgement}
use Rattle.signed_image.specs.RoundTrips.{RoundTrips}
use Rattle.signed_image.proofs.Images.{image_back, image_again}

pub round_trips : (j : Judgement) → RoundTrips j
round_trips j = record { image_back = image_back j; image_again = image_again j }
