-- What the operations of an integer of w bits are, of words as numbers modulo 2 ^ w.
use Rattle.std.proofs.Common.{ℕ, ◌-◌, ◌*◌, ◌/◌, ◌%◌, ◌<◌, ◌^◌, ◌≡◌, ap, sym, arith, ◌∙◌}
use native.Mathlib.Nat.{mod-eq_of_lt}
use lib.Bits.{bit_or}
use lib.Pow.{shr_le}
use Rattle.fips180.specs.Words.{rotr, shr}
use Rattle.fips180.proofs.Rotations.{rotr_lt}

module _ (w n x : ℕ) (h : x < 2 ^ w) where
  pub shifted : n < w → x / 2 ^ (n % w) % 2 ^ w ≡ shr n (x % 2 ^ w)
  unfolding shr
  shifted l =
      let s = shr_le x n in
      ap (λ (k : ℕ). x / 2 ^ k % 2 ^ w) (mod-eq_of_lt l) ∙ mod-eq_of_lt (omega arith) ∙ ap (λ (y : ℕ). y / 2 ^ n) (sym (mod-eq_of_lt h))

  pub rotated : 0 < n → n < w → bit_or (x / 2 ^ (n % w)) (x * 2 ^ ((w - n % w) % w) % 2 ^ w) % 2 ^ w ≡ rotr w n (x % 2 ^ w)
  unfolding rotr
  rotated p l =
      let e : n % w ≡ n = mod-eq_of_lt l in
      let d : (w - n % w) % w ≡ w - n = ap (λ (k : ℕ). (w - k) % w) e ∙ mod-eq_of_lt (omega arith) in
      (λ j. bit_or (x / 2 ^ e j) (x * 2 ^ d j % 2 ^ w) % 2 ^ w)
      ∙ mod-eq_of_lt (rotr_lt w n x h)
      ∙ ap (rotr w n) (sym (mod-eq_of_lt h))
