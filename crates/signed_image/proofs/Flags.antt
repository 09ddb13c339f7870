-- A flag in one bit.
use Prim.Native.Nat.{ℕ, zero, suc, ◌<◌, ◌/◌, ◌%◌}
use mathlib.Core.Path.{◌≡◌, refl, ap, ◌∙◌}
use mathlib.Core.Bool.{Bool, true, false}
use native.Mathlib.Omega.{arith}
use lib.Dec.{eqb}
use Rattle.laws.specs.Tests.{bit_of}
use Rattle.signed_image.specs.SignedImage.{bad_flag}

pub flag_back : (m : Bool) → eqb (bit_of m % 2) 1 ≡ m
flag_back true = refl
flag_back false = refl

pub flag_good : (m : Bool) → bad_flag (bit_of m) ≡ false
flag_good true = refl
flag_good false = refl

pub flag_small : (m : Bool) → bit_of m / 2 ≡ 0
flag_small true = refl
flag_small false = refl

pub one_bit : (n : ℕ) → n < 2 → bit_of (eqb n 1) ≡ n
one_bit zero h = refl
one_bit (suc zero) h = refl
one_bit (suc (suc n)) h = absurd (let z : suc (suc n) < 2 = h in omega arith)

pub flag_again : (n : ℕ) → n / 2 ≡ 0 → bit_of (eqb (n % 2) 1) ≡ n
flag_again n h =
    let low : n % 2 ≡ n = omega arith in
    ap (λ (k : ℕ). bit_of (eqb k 1)) low ∙ one_bit n (omega arith)
