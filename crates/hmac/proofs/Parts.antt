-- The parts of an HMAC, for any hash function and block size; and HMAC-SHA-256 from its parts.
use Prim.Native.Nat.{ℕ, zero, suc, ◌<◌, ◌≤◌}
use mathlib.Core.Path.{◌≡◌, refl, sym, ap, ◌∙◌}
use mathlib.Core.List.{List, [], ◌∷◌, ◌++◌}
use native.Mathlib.Nat.{le_of_suc-le-suc, not-suc-le-zero}
use native.Mathlib.Omega.{arith}
use lib.Bits.{bit_xor}
use lib.ListN.{length, get_or, replicate, length-replicate, get_or-replicate}
use borrow.Author.Tests.{lt-ltb, le-ltb}
use Rattle.std.proofs.lemmas.Grind.{same_number_lists}
use Rattle.octets.specs.Octets.{padded, replaced_by}
use Rattle.octets.proofs.Buffers.{replaced_fits}
use Rattle.fips180.specs.Family.{block_bytes}
use Rattle.fips180.specs.Sha256.{family32, sha256}
use Rattle.fips180.proofs.Digest.{sha256_length}
use Rattle.hmac.specs.Hmac.{◌⊕◌, K₀, ipad, opad, hmac}
use Rattle.hmac.specs.HmacSha256.{hmac_sha256}

pub length_xor : (xs ys : List ℕ) → length xs ≡ length ys → length (xs ⊕ ys) ≡ length xs
unfolding ◌⊕◌
length_xor [] ys e = refl
length_xor (x ∷ xs) [] e = absurd (omega arith)
length_xor (x ∷ xs) (y ∷ ys) e = ap suc (length_xor xs ys (omega arith))

pub get_d_xor : (xs ys : List ℕ) (i : ℕ) → i < length xs → i < length ys → get_or (xs ⊕ ys) i 0 ≡ bit_xor (get_or xs i 0) (get_or ys i 0)
unfolding ◌⊕◌
get_d_xor [] ys i h l = absurd (not-suc-le-zero h)
get_d_xor (x ∷ xs) [] i h l = absurd (not-suc-le-zero l)
get_d_xor (x ∷ xs) (y ∷ ys) zero h l = refl
get_d_xor (x ∷ xs) (y ∷ ys) (suc i) h l = get_d_xor xs ys i (le_of_suc-le-suc h) (le_of_suc-le-suc l)

module _ (B : ℕ) (H : List ℕ → List ℕ) (key : List ℕ) where
  pub key_long : B < length key → K₀ B H key ≡ padded B (H key)
  unfolding K₀
  key_long h = rw (lt-ltb B (length key) h) refl

  pub key_fits : length key ≤ B → K₀ B H key ≡ padded B key
  unfolding K₀
  key_fits h = rw (le-ltb B (length key) h) refl

pub mac_of_parts : (key text k a i b o : List ℕ) → k ≡ K₀ 64 sha256 key → a ≡ k ⊕ replicate 64 0x36 → i ≡ sha256 (a ++ text) → b ≡ k ⊕ replicate 64 0x5c
    → o ≡ sha256 (b ++ i) → o ≡ hmac_sha256 key text
unfolding hmac_sha256 hmac ipad opad block_bytes family32
mac_of_parts key text k a i b o e f g h j =
    j
    ∙ ap (λ (x : List ℕ). sha256 (x ++ i)) (h ∙ ap (λ (x : List ℕ). x ⊕ replicate 64 0x5c) e)
    ∙ ap (λ (x : List ℕ). sha256 ((K₀ 64 sha256 key ⊕ replicate 64 0x5c) ++ x)) (g ∙ ap (λ (x : List ℕ). sha256 (x ++ text)) (f ∙ ap (λ (x : List ℕ). x ⊕ replicate 64 0x36) e))

pub mac_length : (key text : List ℕ) → length (hmac_sha256 key text) ≡ 32
unfolding hmac_sha256 hmac
mac_length key text = sha256_length _

-- ---- as code makes them

-- a block with each byte changed by the pad
pub padded_block : (b out : List ℕ) (n pad : ℕ) → length b ≡ n → length out ≡ n → ((k : ℕ) → k < n → get_or out k 0 ≡ bit_xor (get_or b k 0) pad)
    → out ≡ b ⊕ replicate n pad
padded_block b out n pad whole long each =
    let pads = length-replicate n pad in
    let padded = length_xor b (replicate n pad) (whole ∙ sym pads) in
    same_number_lists out (b ⊕ replicate n pad) (long ∙ sym (padded ∙ whole))
    (λ k h.
    each k (omega arith)
    ∙ sym (get_d_xor b (replicate n pad) k (omega arith) (omega arith) ∙ ap (bit_xor (get_or b k 0)) (get_or-replicate n k pad 0 (omega arith))))

module _ {b : List ℕ} (key : List ℕ) where
  pub key_hashed : {d : List ℕ} → 64 < length key → d ≡ sha256 key → b ≡ replaced_by (replicate 64 0) d → b ≡ K₀ 64 sha256 key
  key_hashed {d = d} h is p =
      let l = ap length is ∙ sha256_length key in
      p ∙ replaced_fits (replicate 64 0) d (omega arith) ∙ ap (padded 64) is ∙ sym (key_long 64 sha256 key h)

  pub key_alone : length key ≤ 64 → b ≡ replaced_by (replicate 64 0) key → b ≡ K₀ 64 sha256 key
  key_alone h p = p ∙ replaced_fits (replicate 64 0) key h ∙ sym (key_fits 64 sha256 key h)
