-- What the calls' answers mean, in plain words.
use Rattle.std.specs.Prelude.{ℕ, ◌^◌, ◌<◌, ◌≤◌, ◌≡◌, true, List, length}
use Rattle.fips180.specs.Sha256.{sha256}
use Rattle.fips180.specs.Sha512.{sha384, sha512}
use Rattle.hash.specs.Types.{hash_length, hash_of}
use Rattle.hash.specs.Calls.{hash_step, hash_matches}

-- there is a hash of this type of m: the type is defined, and for SHA-256 the message isn't too long
pub record HasHash (hash_type : ℕ) (m : List ℕ) : Type 0 where
  pub known : hash_type ≤ 2
  pub short : hash_type ≡ 0 → length m < 2 ^ 61

pub record HashesMean : Type 0 where
  -- the types
  pub first : (m : List ℕ) → (hash_of 0 m ≡ sha256 m) × (hash_length 0 ≡ 32)
  pub second : (m : List ℕ) → (hash_of 1 m ≡ sha384 m) × (hash_length 1 ≡ 48)
  pub third : (m : List ℕ) → (hash_of 2 m ≡ sha512 m) × (hash_length 2 ≡ 64)
  -- a hash has its type's length
  pub long : (hash_type : ℕ) (m : List ℕ) → length (hash_of hash_type m) ≡ hash_length hash_type
  -- the hash call accepts exactly where there is a hash and the buffer has its length
  pub accepts : (hash_type : ℕ) (m b : List ℕ) → (hash_step hash_type m b).number ≡ 0 → HasHash hash_type m × (length b ≡ hash_length hash_type)
  pub accepted : (hash_type : ℕ) (m b : List ℕ) → HasHash hash_type m → length b ≡ hash_length hash_type → (hash_step hash_type m b).number ≡ 0
  -- the buffer then has the hash, and else what it had
  pub made : (hash_type : ℕ) (m b : List ℕ) → (hash_step hash_type m b).number ≡ 0 → (hash_step hash_type m b).after ≡ hash_of hash_type m
  pub kept : (hash_type : ℕ) (m b : List ℕ) → 0 < (hash_step hash_type m b).number → (hash_step hash_type m b).after ≡ b
  -- yes is answered for the hash and for nothing else
  pub yes : (hash_type : ℕ) (m h : List ℕ) → hash_matches hash_type m h ≡ true → HasHash hash_type m × (h ≡ hash_of hash_type m)
  pub only : (hash_type : ℕ) (m : List ℕ) → HasHash hash_type m → hash_matches hash_type m (hash_of hash_type m) ≡ true
