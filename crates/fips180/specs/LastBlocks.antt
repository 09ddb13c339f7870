-- The last blocks of a padded message, one or two, as code puts them together: the bytes past the message's whole blocks and the byte 0x80, then zeros, and
-- the length at the end of the last block. Code cites these; proofs/LastBlocks.antt shows that they give what Continued.antt defines.
use Rattle.std.specs.Prelude.{ℕ, ◌-◌, ◌*◌, ◌/◌, List, [], ◌∷◌, ◌++◌, length, take, drop}
use Rattle.octets.specs.Octets.{padded}
use Rattle.fips180.specs.Family.{Family, block_bytes, length_bytes}
use Rattle.fips180.specs.Padding.{big_endian}

module _ (f : Family) where
  -- the bytes of m past its whole blocks, the byte 0x80, and zeros up to the end of a block
  unfoldable pub tail_block : List ℕ → List ℕ
  tail_block m = padded (block_bytes f) (drop (length m / block_bytes f * block_bytes f) m ++ (0x80 ∷ []))

  -- the block b with a length of n bytes, in bits, at its end
  unfoldable pub with_length : ℕ → List ℕ → List ℕ
  with_length n b = take (block_bytes f - length_bytes f) b ++ big_endian (length_bytes f) (8 * n)
