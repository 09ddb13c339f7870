-- What `hmac_sha256` answers, from what its calls answered.
use Prim.Native.Nat.{ℕ}
use mathlib.Core.Path.{◌≡◌}
use mathlib.Core.List.{List, ◌++◌}
use native.Mathlib.Omega.{arith}
use lib.ListN.{length, replicate, length-append}
use Rattle.std.specs.Prelude.{Ok}
use Rattle.refusal.specs.Steps.{reply, reply_of}
use Rattle.fips180.specs.Family.{block_bytes}
use Rattle.fips180.specs.Sha256.{family32, sha256}
use Rattle.sha256.specs.Sha256.{sha256_number, sha256_reply}
use Rattle.hmac.specs.Hmac.{◌⊕◌, K₀}
use Rattle.hmac.specs.HmacSha256.{hmac_number, hmac_reply}
use Rattle.hmac.proofs.Parts.{mac_of_parts}

module _ (key text : List ℕ) where
  -- the code's values: the padded key k, with either pad x and y, and the inner digest i
  pub mac_made : (k x i y : List ℕ) → reply_of (Ok k) ≡ reply (sha256_number key) (K₀ 64 sha256 key)
      → x ≡ k ⊕ replicate 64 0x36 → length x ≡ 64 → reply_of (Ok i) ≡ sha256_reply (x ++ text) → length i ≡ 32
      → y ≡ k ⊕ replicate 64 0x5c → length y ≡ 64 → sha256_reply (y ++ i) ≡ hmac_reply key text
  unfolding sha256_number hmac_number block_bytes family32
  mac_made k x i y e f lx g li h ly = grind (arith, mac_of_parts, length-append)
