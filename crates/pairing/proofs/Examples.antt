-- The input data of the pairing key, written out; and more than one iteration, with a function whose output shows its counter.
use mathlib.Core.Path.{◌≡◌, refl}
use mathlib.Core.List.{[], ◌∷◌}
use lib.ListN.{take}
use Rattle.fips180.specs.Padding.{big_endian}
use Rattle.pairing.specs.CounterMode.{input_data, iterated, counter_mode}
use Rattle.pairing.specs.Pairing.{label}

-- the counter 1, "pairing", a zero byte, and 256 bits
pairing_input : input_data label [] 256 1 ≡ 0 ∷ 0 ∷ 0 ∷ 1 ∷ 0x70 ∷ 0x61 ∷ 0x69 ∷ 0x72 ∷ 0x69 ∷ 0x6e ∷ 0x67 ∷ 0 ∷ 0 ∷ 0 ∷ 1 ∷ 0 ∷ []
unfolding input_data label big_endian
pairing_input = refl

-- 48 bits by a function of 32: two iterations, and the second is cut
two_iterations : counter_mode (λ key input. take 4 input) 32 [] label [] 48 ≡ 0 ∷ 0 ∷ 0 ∷ 1 ∷ 0 ∷ 0 ∷ []
unfolding counter_mode iterated input_data label big_endian
two_iterations = refl
