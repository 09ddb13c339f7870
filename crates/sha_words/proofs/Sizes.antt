-- The sizes of a family whose words are n bytes, as code counts them.
use Rattle.std.proofs.Common.{ℕ, ◌*◌, ◌<◌, ◌≡◌, arith}
use Rattle.fips180.specs.Family.{Family, block_bytes, length_bytes}
use Rattle.sha_words.specs.Words.{Sizes}

module _ {n : ℕ} {f : Family} (size : Sizes n f) where
  pub word_positive : 0 < f.word_bytes
  word_positive = omega arith

  pub block_size : 16 * n ≡ block_bytes f
  unfolding block_bytes
  block_size = omega arith

  pub length_size : 2 * n ≡ length_bytes f
  unfolding length_bytes
  length_size = omega arith
