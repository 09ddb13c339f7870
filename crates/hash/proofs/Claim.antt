-- What the calls' answers mean (`specs/Claim`).
use Prim.Native.Nat.{ℕ, suc, zero, ◌^◌, ◌<◌}
use mathlib.Core.Path.{◌≡◌, refl, sym, ◌∙◌}
use mathlib.Core.Bool.{true, false, false≢true}
use mathlib.Core.List.{List}
use native.Mathlib.Omega.{arith}
use lib.Dec.{leb}
use lib.ListN.{length}
use borrow.Author.Tests.{ne_eqb, lt-leb}
use Rattle.refusal.proofs.Laws.{when_no, accepted_yes, accepted_no}
use Rattle.laws.proofs.Tests.{and_left}
use Rattle.octets.proofs.Buffers.{same_eq, same_refl}
use Rattle.hash.specs.Types.{hash_length, hash_of}
use Rattle.hash.specs.Calls.{too_long, hash_number, hash_step, hash_matches}
use Rattle.hash.specs.Claim.{HasHash, HashesMean}
use Rattle.hash.proofs.Types.{hash_long}
use Rattle.hash.proofs.Numbers.{number_accepts, number_rest, short_is, matches_refused, matches_accepted}

has_hash : (t : ℕ) (m : List ℕ) (k : ℕ) → hash_number t (length m) k ≡ 0 → HasHash t m
has_hash t m k e =
    let a = number_accepts t (length m) k e in
    record { known = a.known; short = λ z. short_is t (length m) z a.short }

not_long : (t n : ℕ) → (t ≡ 0 → n < 2 ^ 61) → too_long t n ≡ false
not_long zero n h = lt-leb (2 ^ 61) n (h refl)
not_long (suc t) n h = and_left (leb (2 ^ 61) n) (ne_eqb (suc t) 0 (λ (e : suc t ≡ 0). omega arith))

accepts_it : (t : ℕ) (m : List ℕ) (k : ℕ) → HasHash t m → k ≡ hash_length t → hash_number t (length m) k ≡ 0
accepts_it t m k h e = number_rest t (length m) k h.known e ∙ when_no 2 0 (not_long t (length m) h.short)

-- a number is 0 or it isn't
yes_means : (n : ℕ) (t : ℕ) (m h : List ℕ) → hash_number t (length m) (length h) ≡ n → hash_matches t m h ≡ true → HasHash t m × (h ≡ hash_of t m)
yes_means zero t m h e y =
    (has_hash t m (length h) e, sym (same_eq (hash_of t m) h (matches_accepted t m h e ∙ y)))
yes_means (suc n) t m h e y = absurd (false≢true (matches_refused t m h (omega arith) ∙ y))

pub hashes_mean : HashesMean
unfolding hash_step hash_of
hashes_mean =
    record {
      first = λ m. (refl, refl);
      second = λ m. (refl, refl);
      third = λ m. (refl, refl);
      long = hash_long;
      accepts = λ t m b e. (has_hash t m (length b) e, (number_accepts t (length m) (length b) e).fits);
      accepted = λ t m b h e. accepts_it t m (length b) h e;
      made = λ t m b e. accepted_yes (hash_of t m) b e;
      kept = λ t m b h. accepted_no (hash_of t m) b h;
      yes = λ t m h y. yes_means (hash_number t (length m) (length h)) t m h refl y;
      only =
          λ t m h.
          sym (matches_accepted t m (hash_of t m) (accepts_it t m (length (hash_of t m)) h (hash_long t m))) ∙ same_refl (hash_of t m);
    }
