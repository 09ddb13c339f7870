-- Values of single functions, by computation. They were worked out with Python's integers.
use mathlib.Core.Path.{◌≡◌, refl}
use mathlib.Core.List.{[], ◌∷◌}
use Rattle.fips180.specs.Words.{rotr, shr}
use Rattle.fips180.specs.Family.{block_bytes, length_bytes, big_sigma0, big_sigma1, small_sigma0, small_sigma1}
use Rattle.fips180.specs.Padding.{big_endian, zero_count, pad}
use Rattle.fips180.specs.Sha256.{family32}
use Rattle.fips180.specs.Sha512.{family64}

rotated : rotr 32 8 0x12345678 ≡ 0x78123456
unfolding rotr
rotated = refl

-- 4.1.2, 4.1.3: Σ₀ and Σ₁ of the first round of every message, of the first and the fifth word of the initial hash value; σ₀ and σ₁ of the same words
record Sigmas256 : Type 0 where
  big0 : big_sigma0 family32 0x6a09e667 ≡ 0xce20b47e
  big1 : big_sigma1 family32 0x510e527f ≡ 0x3587272b
  small0 : small_sigma0 family32 0x6a09e667 ≡ 0xba0cf582
  small1 : small_sigma1 family32 0x510e527f ≡ 0xe3640132

sigmas256 : Sigmas256
unfolding big_sigma0 big_sigma1 small_sigma0 small_sigma1 rotr shr family32
sigmas256 = record { big0 = refl; big1 = refl; small0 = refl; small1 = refl }

record Sigmas512 : Type 0 where
  big0 : big_sigma0 family64 0x6a09e667f3bcc908 ≡ 0x08c4db56aac80c2a
  big1 : big_sigma1 family64 0x510e527fade682d1 ≡ 0x9427e33bb5c9dbca
  small0 : small_sigma0 family64 0x6a09e667f3bcc908 ≡ 0x3dbae91951caa1df
  small1 : small_sigma1 family64 0x510e527fade682d1 ≡ 0x596c80955bcc793d

sigmas512 : Sigmas512
unfolding big_sigma0 big_sigma1 small_sigma0 small_sigma1 rotr shr family64
sigmas512 = record { big0 = refl; big1 = refl; small0 = refl; small1 = refl }

-- 5.1.1: "abc" is padded to one block of 512 bits; 56 bytes are the first length that needs two
padded_abc : pad family32 (0x61 ∷ 0x62 ∷ 0x63 ∷ []) ≡ 0x61 ∷ 0x62 ∷ 0x63 ∷ 0x80 ∷ 0x00 ∷ 0x00 ∷ 0x00 ∷ 0x00 ∷ 0x00 ∷ 0x00 ∷ 0x00 ∷ 0x00 ∷ 0x00 ∷ 0x00 ∷ 0x00 ∷ 0x00 ∷ 0x00 ∷ 0x00 ∷ 0x00 ∷ 0x00 ∷ 0x00 ∷ 0x00 ∷ 0x00 ∷ 0x00 ∷ 0x00 ∷ 0x00 ∷ 0x00 ∷ 0x00 ∷ 0x00 ∷ 0x00 ∷ 0x00 ∷ 0x00 ∷ 0x00 ∷ 0x00 ∷ 0x00 ∷ 0x00 ∷ 0x00 ∷ 0x00 ∷ 0x00 ∷ 0x00 ∷ 0x00 ∷ 0x00 ∷ 0x00 ∷ 0x00 ∷ 0x00 ∷ 0x00 ∷ 0x00 ∷ 0x00 ∷ 0x00 ∷ 0x00 ∷ 0x00 ∷ 0x00 ∷ 0x00 ∷ 0x00 ∷ 0x00 ∷ 0x00 ∷ 0x00 ∷ 0x00 ∷ 0x00 ∷ 0x00 ∷ 0x00 ∷ 0x00 ∷ 0x00 ∷ 0x18 ∷ []
unfolding pad zero_count block_bytes length_bytes family32 big_endian
padded_abc = refl

zeros_55 : zero_count family32 55 ≡ 0
unfolding zero_count block_bytes length_bytes family32
zeros_55 = refl

zeros_56 : zero_count family32 56 ≡ 63
unfolding zero_count block_bytes length_bytes family32
zeros_56 = refl

-- 5.1.2: 111 and 112 bytes for the family of SHA-512
zeros_111 : zero_count family64 111 ≡ 0
unfolding zero_count block_bytes length_bytes family64
zeros_111 = refl

zeros_112 : zero_count family64 112 ≡ 127
unfolding zero_count block_bytes length_bytes family64
zeros_112 = refl
