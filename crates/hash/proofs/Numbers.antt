-- Which number the calls give, and whether a message is told to have a hash.
use Prim.Native.Nat.{ℕ, ◌^◌, ◌<◌, ◌≤◌}
use mathlib.Core.Path.{◌≡◌, sym, ◌∙◌}
use mathlib.Core.Bool.{false, not}
use mathlib.Core.List.{List}
use native.Mathlib.Omega.{arith}
use lib.Dec.{eqb}
use lib.ListN.{length}
use borrow.Author.Tests.{le-ltb, ltb-false, eq-eqb, leb-false}
use Rattle.refusal.specs.Rules.{◌when◌else◌}
use Rattle.refusal.proofs.Laws.{when_no, when_accepted, accepted_yes, accepted_no}
use Rattle.laws.proofs.Tests.{and_right, equal_no, no_equal}
use Rattle.octets.specs.Octets.{same_bytes}
use Rattle.hash.specs.Types.{hash_length, hash_of, bad_hash_type}
use Rattle.hash.specs.Calls.{too_long, hash_number, hash_matches}

module _ (t n k : ℕ) where
  -- the type is defined and the buffer has its length
  pub number_rest : t ≤ 2 → k ≡ hash_length t → hash_number t n k ≡ (2 when too_long t n else 0)
  unfolding hash_number
  number_rest h e = when_no 12 _ (le-ltb 2 t h) ∙ when_no 3 _ (equal_no e)

  pub record Accepts : Type 0 where
    pub known : t ≤ 2
    pub fits : k ≡ hash_length t
    pub short : too_long t n ≡ false

  pub number_accepts : hash_number t n k ≡ 0 → Accepts
  unfolding hash_number
  number_accepts e =
      let a = when_accepted 12 (bad_hash_type t) _ (omega arith) e in
      let b = when_accepted 3 (not (eqb k (hash_length t))) _ (omega arith) a.1 in
      let c = when_accepted 2 (too_long t n) 0 (omega arith) b.1 in
      record { known = ltb-false 2 t a.0; fits = no_equal k (hash_length t) b.0; short = c.0 }

-- a message that SHA-256 takes
pub short_is : (t n : ℕ) → t ≡ 0 → too_long t n ≡ false → n < 2 ^ 61
short_is t n z e = leb-false (2 ^ 61) n (sym (and_right _ (eq-eqb t 0 z)) ∙ e)

module _ (t : ℕ) (m b : List ℕ) where
  pub matches_refused : 0 < hash_number t (length m) (length b) → false ≡ hash_matches t m b
  unfolding hash_matches
  matches_refused h = sym (accepted_no (same_bytes (hash_of t m) b) false h)

  pub matches_accepted : hash_number t (length m) (length b) ≡ 0 → same_bytes (hash_of t m) b ≡ hash_matches t m b
  unfolding hash_matches
  matches_accepted h = sym (accepted_yes (same_bytes (hash_of t m) b) false h)
