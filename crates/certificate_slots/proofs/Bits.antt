-- The machine's counts of a mask's bits, as slots, for masks of any width.
use Prim.Native.Nat.{ℕ, zero, suc, ◌+◌, ◌/◌, ◌%◌, ◌^◌, ◌<◌, ◌≤◌}
use mathlib.Core.Path.{◌≡◌, refl, sym, ap, subst, ◌∙◌}
use mathlib.Core.Bool.{true, false, cond}
use mathlib.Core.List.{List, [], ◌∷◌, ◌++◌}
use mathlib.Core.Logic.{◌⊎◌, inl, inr, ⊎_elim, ◌↔◌}
use Rattle.std.specs.Prelude.{Some}
use native.Mathlib.Nat.{mod-lt, eq-or-lt_of_le, le_of_suc-le-suc, not-suc-le-zero}
use native.Mathlib.Omega.{arith}
use lib.Dec.{eqb}
use lib.Count.{ones, ones_step, count_trailing_zeros, under}
use lib.ListN.{length, length-append}
use lib.Pow.{shr_lt}
use borrow.Author.Tests.{eq-eqb, ne_eqb, eqb-true, eqb-false}
use Rattle.std.proofs.lemmas.Nat.Bits.{bit_at-suc}
use Rattle.certificate_slots.specs.Slots.{holds_chain, chains_below, first}

-- a bit is 0 or 1
bit_cases : (b : ℕ) → b < 2 → (b ≡ 0) ⊎ (b ≡ 1)
bit_cases zero h = inl refl
bit_cases (suc zero) h = inr refl
bit_cases (suc (suc b)) h = absurd (omega arith)

one_if : (b k : ℕ) → b < 2 → length {A = ℕ} (cond (eqb b 1) (k ∷ []) []) ≡ b
one_if b k h = ⊎_elim (λ (e : b ≡ 0). rw e refl) (λ (e : b ≡ 1). rw e refl) (bit_cases b h)

-- one slot more counts as its bit
count_next : (k n : ℕ) → length (chains_below (suc k) n) ≡ length (chains_below k n) + n / 2 ^ k % 2
unfolding chains_below holds_chain
count_next k n =
    length-append (chains_below k n) (cond (holds_chain n k) (k ∷ []) [])
    ∙ ap (λ (x : ℕ). length (chains_below k n) + x) (one_if (n / 2 ^ k % 2) k (mod-lt (n / 2 ^ k) (omega arith)))

-- the lowest slot, and those above it
count_step : (w n : ℕ) → length (chains_below (suc w) n) ≡ n % 2 + length (chains_below w (n / 2))
unfolding chains_below
count_step zero n = count_next 0 n ∙ omega arith
count_step (suc w) n =
    let s = count_step w n in
    let a = count_next (suc w) n in
    let b = count_next w (n / 2) in
    let e : n / 2 / 2 ^ w % 2 ≡ n / 2 ^ suc w % 2 = sym (bit_at-suc n w) in
    omega arith

pub ones_count : (w n : ℕ) → n < 2 ^ w → ones n ≡ length (chains_below w n)
unfolding ones chains_below
ones_count zero n h = let e : n ≡ 0 = omega arith in ap ones e
ones_count (suc w) n h =
    ones_step n ∙ ap (λ (x : ℕ). n % 2 + x) (ones_count w (n / 2) (shr_lt w 1 (subst (λ (x : ℕ). n < 2 ^ x) (omega arith) h))) ∙ sym (count_step w n)

-- what the count of trailing zeros of w bits tells: the bits below it aren't set, and the one at it is. For every n, where std's `bit_at-trailing_zeros` has
-- those alone that w bits hold, without 0
pub record Trailing (w n t : ℕ) : Type 0 where
  pub within : t ≤ w
  pub below : (k : ℕ) → k < t → n / 2 ^ k % 2 ≡ 0
  pub here : t < w → n / 2 ^ t % 2 ≡ 1

under_bit : (w n b : ℕ) → n % 2 ≡ b → b < 2 → Trailing w (n / 2) (count_trailing_zeros w (n / 2)) → Trailing (suc w) n (under b (count_trailing_zeros w (n / 2)))
under_bit w n zero e h t =
    record {
      within = let l = t.within in omega arith;
      below = below;
      here = λ l. bit_at-suc n (count_trailing_zeros w (n / 2)) ∙ t.here (omega arith);
    }
  where
    below : (k : ℕ) → k < suc (count_trailing_zeros w (n / 2)) → n / 2 ^ k % 2 ≡ 0
    below zero l = omega arith
    below (suc k) l = bit_at-suc n k ∙ t.below k (omega arith)
under_bit w n (suc b) e h t = record { within = omega arith; below = λ k l. absurd (omega arith); here = λ l. omega arith }

pub trailing_tells : (w n : ℕ) → Trailing w n (count_trailing_zeros w n)
unfolding count_trailing_zeros
trailing_tells zero n = record { within = omega arith; below = λ k l. absurd (omega arith); here = λ l. absurd (omega arith) }
trailing_tells (suc w) n = under_bit w n (n % 2) refl (mod-lt n (omega arith)) (trailing_tells w (n / 2))

-- a slot whose bit isn't set adds nothing, and one whose bit is set comes last
none_next : (k n : ℕ) → n / 2 ^ k % 2 ≡ 0 → chains_below k n ≡ [] → chains_below (suc k) n ≡ []
unfolding chains_below holds_chain
none_next k n e g = rw (g, e) refl

pub none_below : (w n : ℕ) → ((k : ℕ) → k < w → n / 2 ^ k % 2 ≡ 0) → chains_below w n ≡ []
unfolding chains_below
none_below zero n h = refl
none_below (suc w) n h = none_next w n (h w (omega arith)) (none_below w n (λ k l. h k (omega arith)))

first_append : (k : ℕ) (xs ys : List ℕ) → first xs ≡ Some k → first (xs ++ ys) ≡ Some k
first_append k [] ys e = cc
first_append k (x ∷ xs) ys e = e

pub first_below : (w n k : ℕ) → k < w → ((j : ℕ) → j < k → n / 2 ^ j % 2 ≡ 0) → n / 2 ^ k % 2 ≡ 1 → first (chains_below w n) ≡ Some k
unfolding chains_below holds_chain
first_below zero n k l h b = absurd (not-suc-le-zero l)
first_below (suc w) n k l h b =
    ⊎_elim
    (λ (e : k ≡ w). ap (λ (x : ℕ). first (chains_below (suc x) n)) (sym e) ∙ rw (none_below k n h, b) refl)
    (λ (m : k < w). first_append k (chains_below w n) (cond (holds_chain n w) (w ∷ []) []) (first_below w n k m h b))
    (eq-or-lt_of_le (le_of_suc-le-suc l))

-- a slot holds a chain where its bit is 1, and no other does
pub holds_yes : (n k : ℕ) → n / 2 ^ k % 2 ≡ 1 ↔ (holds_chain n k ≡ true)
unfolding holds_chain
holds_yes n k = (eq-eqb (n / 2 ^ k % 2) 1, eqb-true (n / 2 ^ k % 2) 1)

pub holds_no : (n k : ℕ) → n / 2 ^ k % 2 ≡ 0 ↔ (holds_chain n k ≡ false)
unfolding holds_chain
holds_no n k = (
  λ e. ne_eqb (n / 2 ^ k % 2) 1 (λ g. omega arith),
  λ e. ⊎_elim (λ g. g) (λ g. absurd (eqb-false (n / 2 ^ k % 2) 1 e g)) (bit_cases (n / 2 ^ k % 2) (mod-lt (n / 2 ^ k) (omega arith))),
)
