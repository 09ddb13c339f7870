-- What the calls answer and leave, for every type, message and buffer.
use Rattle.std.specs.Prelude.{ℕ, ◌^◌, Bool, false, not, ◌&&◌, List, length, leb, eqb}
use Rattle.refusal.specs.Rules.{◌when◌else◌, accepted◌then◌else◌}
use Rattle.refusal.specs.Steps.{Outcome, decided}
use Rattle.octets.specs.Octets.{same_bytes}
use Rattle.hash.specs.Types.{hash_length, hash_of, bad_hash_type}

-- document 01: "A message of 2^61 bytes or more, which FIPS 180-4 doesn't define for SHA-256"; of the others "no lent message is too long" (document 02, Item 8)
abbrev pub too_long : ℕ → ℕ → Bool
too_long hash_type n = eqb hash_type 0 && leb (2 ^ 61) n

-- the number for a message of n bytes and a buffer of k: document 02, Item 8: "a type above 2 is then 12"; it comes first, as with the element writers, "since
-- only sound fields have a length". Then document 01's order: 3 for a buffer that hasn't the type's length, 2 for the message
unfoldable pub hash_number : ℕ → ℕ → ℕ → ℕ
hash_number hash_type n k =
    12 when bad_hash_type hash_type else
    3 when not (eqb k (hash_length hash_type)) else
    2 when too_long hash_type n else
    0

-- what the hash call answers, and leaves of the lent buffer: the hash where it accepts; a refusal, for which "every buffer keeps its bytes"
unfoldable pub hash_step : ℕ → List ℕ → List ℕ → Outcome (List ℕ)
hash_step hash_type m buffer = decided (hash_number hash_type (length m) (length buffer)) buffer (hash_of hash_type m)

-- whether the message has this hash: never where the hash call would refuse a buffer of that length
unfoldable pub hash_matches : ℕ → List ℕ → List ℕ → Bool
hash_matches hash_type m hash = accepted hash_number hash_type (length m) (length hash) then same_bytes (hash_of hash_type m) hash else false
