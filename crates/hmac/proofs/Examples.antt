-- The definition at another block size and another function than SHA-256's: blocks of four bytes, and a "hash" that keeps the first two.
use mathlib.Core.Path.{◌≡◌, refl}
use mathlib.Core.List.{[], ◌∷◌}
use lib.ListN.{take}
use Rattle.octets.specs.Octets.{zeros}
use Rattle.hmac.specs.Hmac.{◌⊕◌, K₀, ipad, opad, hmac}

-- a key shorter than a block, one of a block, and a longer one
short_key : K₀ 4 (take 2) (1 ∷ 2 ∷ 3 ∷ []) ≡ 1 ∷ 2 ∷ 3 ∷ 0 ∷ []
unfolding K₀ zeros
short_key = refl

block_key : K₀ 4 (take 2) (1 ∷ 2 ∷ 3 ∷ 4 ∷ []) ≡ 1 ∷ 2 ∷ 3 ∷ 4 ∷ []
unfolding K₀ zeros
block_key = refl

long_key : K₀ 4 (take 2) (1 ∷ 2 ∷ 3 ∷ 4 ∷ 5 ∷ []) ≡ 1 ∷ 2 ∷ 0 ∷ 0 ∷ []
unfolding K₀ zeros
long_key = refl

-- with no hash at all, both padded keys and the text in their order: 1 ⊕ 5c is 5d, 1 ⊕ 36 is 37
order : hmac 1 (λ m. m) (1 ∷ []) (9 ∷ []) ≡ 0x5d ∷ 0x37 ∷ 9 ∷ []
unfolding hmac K₀ ipad opad ◌⊕◌ zeros
order = refl
