-- Hashes by a manifest's hash type. Document 002, `enum Manifest.HashType`: 000b "SHA2-256", 001b "SHA2-384", 010b "SHA2-512"; document 01, "Elements of the
-- PFM": "hash type (0, 1, 2 for 32, 48, 64 bytes)".
use Rattle.std.specs.Prelude.{ℕ, Bool, cond, List, [], ltb, eqb}
use Rattle.refusal.specs.Rules.{◌when◌else◌}
use Rattle.refusal.specs.Steps.{Reply, reply}
use Rattle.fips180.specs.Sha256.{sha256}
use Rattle.fips180.specs.Sha512.{sha384, sha512}
use Rattle.hash.specs.declared.HashType.{HashType}
use Rattle.hash.specs.declared.HashType.TheVariants.{Sha256, Sha384, Sha512}

abbrev pub type_number : HashType → ℕ
type_number Sha256 = 0
type_number Sha384 = 1
type_number Sha512 = 2

-- what each type has, 0, 1 and 2, and what a type has that isn't defined
abbrev pub by_type : {A : Type 0} → ℕ → A → A → A → A → A
by_type hash_type a b c none = cond (eqb hash_type 0) a (cond (eqb hash_type 1) b (cond (eqb hash_type 2) c none))

-- how many bytes a hash of this type has
abbrev pub hash_length : ℕ → ℕ
hash_length hash_type = by_type hash_type 32 48 64 0

-- the hash of this type of the message m (FIPS 180-4)
unfoldable pub hash_of : ℕ → List ℕ → List ℕ
hash_of hash_type m = by_type hash_type (sha256 m) (sha384 m) (sha512 m) []

-- document 01: "a hash type above 2 (also one that the caller gives)" is 12
abbrev pub bad_hash_type : ℕ → Bool
bad_hash_type hash_type = ltb 2 hash_type

-- what a number handed in stands for: the type with that number
abbrev pub type_reply : ℕ → Reply ℕ
type_reply number = reply (12 when bad_hash_type number else 0) number
