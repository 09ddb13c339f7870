-- The library's big-endian bytes of 4 and 8 bytes are those of FIPS 180-4, 3.1.
use Rattle.std.proofs.Common.{ℕ, ◌%◌, ◌^◌, ◌<◌, ◌≡◌, List, [], ◌∷◌, ◌/◌, length, ap, sym, arith, ◌∙◌}
use native.Mathlib.Nat.{mod-eq_of_lt}
use lib.Seq.{take_all}
use Rattle.std.specs.Int.{w32, w64, from_be_bytes, to_be_bytes}
use Rattle.laws.proofs.Lists.{run, take_run}
use Rattle.fips180.specs.Padding.{big_endian, from_big}
use Rattle.fips180.proofs.Bytes.{byte_last}

-- a list by its elements
pub listed : (b : List ℕ) (n : ℕ) → length b ≡ n → b ≡ run b 0 0 n
listed b n h = sym (take_all n b (omega arith)) ∙ take_run b 0 n (omega arith)

pub read_four : (b : List ℕ) {x : ℕ} → length b ≡ 4 → x < 2 ^ 32 → x ≡ from_be_bytes w32 b → x % 2 ^ 32 ≡ from_big 0 b
unfolding from_big
read_four b h l e =
    let g : from_big 0 b ≡ from_big 0 (run b 0 0 4) = ap (from_big 0) (listed b 4 h) in
    omega arith

pub read_eight : (b : List ℕ) {x : ℕ} → length b ≡ 8 → x < 2 ^ 64 → x ≡ from_be_bytes w64 b → x % 2 ^ 64 ≡ from_big 0 b
unfolding from_big
read_eight b h l e =
    let g : from_big 0 b ≡ from_big 0 (run b 0 0 8) = ap (from_big 0) (listed b 8 h) in
    omega arith

pub written_four : {x : ℕ} {b : List ℕ} → x < 2 ^ 32 → b ≡ to_be_bytes w32 x → b ≡ big_endian 4 (x % 2 ^ 32)
unfolding big_endian
written_four {x = x} l e =
    e
    ∙ ap (λ (n : ℕ). x / 2 ^ 24 % 256 ∷ x / 2 ^ 16 % 256 ∷ x / 2 ^ 8 % 256 ∷ n ∷ []) (byte_last x)
    ∙ ap (big_endian 4) (sym (mod-eq_of_lt l))

pub written_eight : {x : ℕ} {b : List ℕ} → x < 2 ^ 64 → b ≡ to_be_bytes w64 x → b ≡ big_endian 8 (x % 2 ^ 64)
unfolding big_endian
written_eight {x = x} l e =
    e
    ∙ ap (λ (n : ℕ). x / 2 ^ 56 % 256 ∷ x / 2 ^ 48 % 256 ∷ x / 2 ^ 40 % 256 ∷ x / 2 ^ 32 % 256 ∷ x / 2 ^ 24 % 256 ∷ x / 2 ^ 16 % 256 ∷ x / 2 ^ 8 % 256 ∷ n ∷ [])
    (byte_last x)
    ∙ ap (big_endian 8) (sym (mod-eq_of_lt l))
