-- What each hash type has.
use Prim.Native.Nat.{ℕ, zero, suc, ◌<◌, ◌≤◌}
use mathlib.Core.Path.{◌≡◌, sym, ap, ◌∙◌}
use mathlib.Core.List.{List, []}
use native.Mathlib.Omega.{arith}
use lib.Dec.{lit<, lit≤}
use lib.ListN.{length}
use borrow.Author.Tests.{ne_eqb}
use Rattle.fips180.specs.Sha256.{sha256}
use Rattle.fips180.specs.Sha512.{sha384, sha512}
use Rattle.fips180.proofs.Digest.{sha256_length, sha384_length, sha512_length}
use Rattle.std.specs.Prelude.{Ok}
use Rattle.refusal.specs.Steps.{reply_by}
use Rattle.hash.specs.declared.HashType.{HashType}
use Rattle.hash.specs.Types.{type_number, type_reply, by_type, hash_length, hash_of}

-- a number that stands for a type is that type's
pub type_tried : (k : HashType) (n : ℕ) → reply_by type_number (Ok k) ≡ type_reply n → (type_number k ≡ n) × (n ≤ 2)
type_tried k n e = grind arith

pub type_none : {A : Type 0} (t : ℕ) (a b c none : A) → 2 < t → by_type t a b c none ≡ none
type_none t a b c none h =
    rw (ne_eqb t 0 (λ (e : t ≡ 0). omega arith), ne_eqb t 1 (λ (e : t ≡ 1). omega arith), ne_eqb t 2 (λ (e : t ≡ 2). omega arith))

pub length_positive : (t : ℕ) → t ≤ 2 → 0 < hash_length t
length_positive zero h = lit< tt
length_positive (suc zero) h = lit< tt
length_positive (suc (suc zero)) h = lit< tt
length_positive (suc (suc (suc t))) h = absurd (let z : suc (suc (suc t)) ≤ 2 = h in omega arith)

pub length_bound : (t : ℕ) → hash_length t ≤ 64
length_bound zero = lit≤ tt
length_bound (suc zero) = lit≤ tt
length_bound (suc (suc zero)) = lit≤ tt
length_bound (suc (suc (suc t))) = let e = type_none {A = ℕ} (suc (suc (suc t))) 32 48 64 0 (omega arith) in omega arith

-- a hash has its type's length
pub hash_long : (t : ℕ) (m : List ℕ) → length (hash_of t m) ≡ hash_length t
unfolding hash_of
hash_long zero m = sha256_length m
hash_long (suc zero) m = sha384_length m
hash_long (suc (suc zero)) m = sha512_length m
hash_long (suc (suc (suc t))) m =
    let h : 2 < suc (suc (suc t)) = omega arith in
    ap length (type_none (suc (suc (suc t))) (sha256 m) (sha384 m) (sha512 m) [] h) ∙ sym (type_none {A = ℕ} (suc (suc (suc t))) 32 48 64 0 h)
