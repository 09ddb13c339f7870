-- NIST SP 800-108, section 5.1 (4.1 of its revision 1): the key derivation function in counter mode, over any pseudorandom function whose output has a fixed
-- number of bytes. The counter and the length have 32 bits, high byte first (document 000: "r = 32"; document 02, Item 14).
use Rattle.std.specs.Prelude.{ℕ, zero, suc, ◌+◌, ◌-◌, ◌/◌, List, [], ◌∷◌, ◌++◌, take}
use Rattle.fips180.specs.Padding.{big_endian}

-- [i]₂ || Label || 0x00 || Context || [L]₂
unfoldable pub input_data : List ℕ → List ℕ → ℕ → ℕ → List ℕ
input_data label context L i = big_endian 4 i ++ label ++ (0 ∷ []) ++ context ++ big_endian 4 L

module _ (prf : List ℕ → List ℕ → List ℕ) (prf_bits : ℕ) where
  -- result(n) = K(1) || … || K(n), where K(i) is the function of the key and the input data of iteration i
  unfoldable pub iterated : List ℕ → List ℕ → List ℕ → ℕ → ℕ → List ℕ
  iterated key label context L zero = []
  iterated key label context L (suc n) = iterated key label context L n ++ prf key (input_data label context L (suc n))

  -- the leftmost L bits, whole bytes, of result(⌈L / h⌉), where h, here prf_bits, is the length of the function's output. The standard has an error for more
  -- iterations than the counter has numbers; a pairing key takes one
  unfoldable pub counter_mode : List ℕ → List ℕ → List ℕ → ℕ → List ℕ
  counter_mode key label context L = take (L / 8) (iterated key label context L ((L + prf_bits - 1) / prf_bits))
