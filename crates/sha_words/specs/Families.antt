-- The laws of the trait `Word`, for each family.
use Rattle.std.proofs.Common.{ℕ, ◌%◌, ◌<◌, ◌^◌, refl, arith, mod-lt}
use Rattle.fips180.specs.Family.{word_bits}
use Rattle.fips180.specs.Sha256.{family32}
use Rattle.fips180.specs.Sha512.{family64}
use Rattle.sha_words.specs.Words.{Sizes}

pub sizes32 : Sizes 4 family32
unfolding family32
sizes32 = record { bytes = refl; some = omega arith; few = omega arith; rounds = refl; groups = refl; first = omega arith }

pub sizes64 : Sizes 8 family64
unfolding family64
sizes64 = record { bytes = refl; some = omega arith; few = omega arith; rounds = refl; groups = refl; first = omega arith }

pub below32 : (x : ℕ) → x % 2 ^ 32 < 2 ^ word_bits family32
unfolding word_bits family32
below32 x = mod-lt x (omega arith)

pub below64 : (x : ℕ) → x % 2 ^ 64 < 2 ^ word_bits family64
unfolding word_bits family64
below64 x = mod-lt x (omega arith)
