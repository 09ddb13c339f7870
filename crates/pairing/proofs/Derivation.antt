-- The pairing key as one iteration; and what `pairing_key` answers for each kind of key and buffer.
use Prim.Native.Nat.{ℕ}
use mathlib.Core.Path.{◌≡◌, refl, sym, ap, ◌∙◌}
use mathlib.Core.List.{List, []}
use native.Mathlib.Omega.{arith}
use lib.ListN.{length}
use lib.Seq.{take_all}
use borrow.Author.Tests.{eq-eqb, ne_eqb}
use Rattle.octets.specs.Octets.{pasted}
use Rattle.fips180.specs.Padding.{big_endian}
use Rattle.fips180.specs.Family.{block_bytes}
use Rattle.fips180.specs.Sha256.{family32}
use Rattle.std.specs.Prelude.{Result, Ok}
use Rattle.refusal.specs.declared.Refusal.{Refusal}
use Rattle.refusal.specs.Steps.{Reply, reply_of, outcome}
use Rattle.refusal.proofs.Steps.{reply_taken, decided_yes}
use Rattle.octets.proofs.Buffers.{pasted_whole}
use Rattle.hmac.specs.HmacSha256.{hmac_sha256, hmac_number, hmac_reply}
use Rattle.hmac.proofs.Parts.{mac_length}
use Rattle.pairing.specs.CounterMode.{input_data, iterated, counter_mode}
use Rattle.pairing.specs.Pairing.{label, pairing_key, pairing_number, pairing_step}

-- one iteration gives all the bits
pub one_iteration : (key : List ℕ) → hmac_sha256 key (input_data label [] 256 1) ≡ pairing_key key
unfolding pairing_key counter_mode iterated
one_iteration key = let l = mac_length key (input_data label [] 256 1) in sym (take_all 32 (hmac_sha256 key (input_data label [] 256 1)) (omega arith))

module _ (key buffer : List ℕ) where
  pub buffer_refused : (length buffer ≡ 32 → ⊥) → pairing_number key buffer ≡ 3
  unfolding pairing_number
  buffer_refused h = rw (ne_eqb (length buffer) 32 h) refl

  -- in a buffer of the right length the key alone decides, and the text is never too long
  pub key_decides : length buffer ≡ 32 → hmac_number key (input_data label [] 256 1) ≡ pairing_number key buffer
  unfolding pairing_number hmac_number block_bytes family32 input_data label big_endian
  key_decides e = rw (eq-eqb (length buffer) 32 e) refl

  -- the one MAC is the key, and the number is the MAC's
  pub key_put : (d : List ℕ) {new : List ℕ} → length buffer ≡ 32 → reply_of (Ok d) ≡ hmac_reply key (input_data label [] 256 1) → length d ≡ 32
      → new ≡ pasted buffer 0 d → outcome 0 new ≡ pairing_step key buffer
  unfolding pairing_step
  key_put d e r l p =
      let n = ap (λ (a : Reply (List ℕ)). a.number) r in
      let made : ◌≡◌ {A = Result (List ℕ) Refusal} (Ok d) (Ok (hmac_sha256 key (input_data label [] 256 1))) = reply_taken {r = Ok d} r (sym n) in
      let is : d ≡ hmac_sha256 key (input_data label [] 256 1) = cc in
      ap (outcome 0) (p ∙ pasted_whole buffer d (l ∙ sym e) ∙ is ∙ one_iteration key)
      ∙ decided_yes buffer (pairing_key key) (sym (n ∙ key_decides e))
