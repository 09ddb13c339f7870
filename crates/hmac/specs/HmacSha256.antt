-- HMAC-SHA-256, and what `hmac_sha256` answers. Document 02, Item 14: "HMAC is by FIPS 198-1", and "Keys are lent, of any length below 2^61 bytes (else 2)".
use Rattle.std.specs.Prelude.{ℕ, ◌+◌, ◌^◌, List, length, leb}
use Rattle.refusal.specs.Rules.{◌when◌else◌}
use Rattle.refusal.specs.Steps.{Reply, reply}
use Rattle.fips180.specs.Family.{block_bytes}
use Rattle.fips180.specs.Sha256.{family32, sha256}
use Rattle.hmac.specs.Hmac.{hmac}

unfoldable pub hmac_sha256 : List ℕ → List ℕ → List ℕ
hmac_sha256 key text = hmac (block_bytes family32) sha256 key text

-- a text is hashed behind a block of 64 bytes, and document 01 has 2 for a message to hash of 2^61 bytes or more
unfoldable pub hmac_number : List ℕ → List ℕ → ℕ
hmac_number key text =
    2 when leb (2 ^ 61) (length key) else
    2 when leb (2 ^ 61) (block_bytes family32 + length text) else
    0

-- the MAC
abbrev pub hmac_reply : List ℕ → List ℕ → Reply (List ℕ)
hmac_reply key text = reply (hmac_number key text) (hmac_sha256 key text)
