-- FIPS 198-1, sections 2.3 and 4: HMAC over any approved hash function. B is its block size in bytes, 64 for SHA-256 and 128 for SHA-384 and SHA-512, and H
-- the function itself on bytes.
use Rattle.std.specs.Prelude.{ℕ, cond, List, [], ◌∷◌, ◌++◌, ltb, length, replicate}
use Rattle.std.specs.Int.Bits.{bit_xor}
use Rattle.octets.specs.Octets.{padded}

infixl 6 ◌⊕◌
-- exclusive-or of two strings, byte by byte
unfoldable pub ◌⊕◌ : List ℕ → List ℕ → List ℕ
[] ⊕ ys = []
(x ∷ xs) ⊕ [] = []
(x ∷ xs) ⊕ (y ∷ ys) = bit_xor x y ∷ (xs ⊕ ys)

module _ (B : ℕ) (H : List ℕ → List ℕ) where
  -- table 1, steps 1 to 3: K0 is the key, or the key's hash where the key is longer than a block, and then zeros up to B bytes
  unfoldable pub K₀ : List ℕ → List ℕ
  K₀ key = padded B (cond (ltb B (length key)) (H key) key)

  -- 2.3: "the byte x‘36’ repeated B times" and "the byte x‘5c’ repeated B times"
  unfoldable pub ipad : List ℕ
  ipad = replicate B 0x36

  unfoldable pub opad : List ℕ
  opad = replicate B 0x5c

  -- table 1, steps 4 to 9: H((K0 ⊕ opad) || H((K0 ⊕ ipad) || text))
  unfoldable pub hmac : List ℕ → List ℕ → List ℕ
  hmac key text = H ((K₀ key ⊕ opad) ++ H ((K₀ key ⊕ ipad) ++ text))
