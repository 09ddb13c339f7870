-- The pairing key: document 000, "Secure Device Binding Sequence", step 1, and document 02, Item 14: "NIST SP 800-108 counter mode with HMAC-SHA-256, label
-- "pairing", no context, 256 bits out"; "Keys are lent, of any length below 2^61 bytes (else 2); the output buffer must have exactly 32 bytes, else 3".
use Rattle.std.specs.Prelude.{ℕ, ◌^◌, not, List, [], ◌∷◌, eqb, leb, length}
use Rattle.refusal.specs.Rules.{◌when◌else◌}
use Rattle.refusal.specs.Steps.{Outcome, decided}
use Rattle.hmac.specs.HmacSha256.{hmac_sha256}
use Rattle.pairing.specs.CounterMode.{counter_mode}

-- "pairing", in ASCII
unfoldable pub label : List ℕ
label = 0x70 ∷ 0x61 ∷ 0x69 ∷ 0x72 ∷ 0x69 ∷ 0x6e ∷ 0x67 ∷ []

-- 256 bits are the function's output and what is asked for
unfoldable pub pairing_key : List ℕ → List ℕ
pairing_key key = counter_mode hmac_sha256 256 key label [] 256

unfoldable pub pairing_number : List ℕ → List ℕ → ℕ
pairing_number key buffer =
    3 when not (eqb (length buffer) 32) else
    2 when leb (2 ^ 61) (length key) else
    0

-- what the call answers, and the output buffer after it
unfoldable pub pairing_step : List ℕ → List ℕ → Outcome (List ℕ)
pairing_step key buffer = decided (pairing_number key buffer) buffer (pairing_key key)
