-- The functions of FIPS 180-4, 4.1, with their rotations nested as code has them, for words of any width.
use Rattle.std.proofs.Common.{ℕ, ◌+◌, ◌-◌, ◌<◌, ◌^◌, ◌≡◌, ap, arith, ◌∙◌}
use lib.Bits.{bit_xor}
use Rattle.fips180.specs.Words.{rotr, shr}
use Rattle.fips180.specs.Family.{Family, Amounts, word_bits, rotations, rotations_shift}
use Rattle.fips180.proofs.Rotations.{nested_two, nested_three}
use Rattle.sha_words.specs.Words.{Grow, GrowShift}

module _ (f : Family) (n : Amounts) (x : ℕ) (h : x < 2 ^ word_bits f) where
  pub rotations_nested : {p i q o r : ℕ} → Grow (word_bits f) n → p ≡ rotr (word_bits f) (n.third - n.second) x → i ≡ bit_xor x p
      → q ≡ rotr (word_bits f) (n.second - n.first) i → o ≡ bit_xor x q → r ≡ rotr (word_bits f) n.first o → r ≡ rotations f n x
  unfolding rotations
  rotations_nested {p = p} {i = i} {q = q} {o = o} {r = r} g e1 e2 e3 e4 e5 =
      let w : ℕ = word_bits f in
      let s = g.second in
      let t = g.third in
      let l = g.within in
      let b : n.first + (n.second - n.first) ≡ n.second = omega arith in
      let c : n.first + (n.second - n.first + (n.third - n.second)) ≡ n.third = omega arith in
      nested_three w n.first (n.second - n.first) (n.third - n.second) x (omega arith) h e1 (e3 ∙ ap (rotr w (n.second - n.first)) e2)
      (e5 ∙ ap (rotr w n.first) e4)
      ∙ (λ j. bit_xor (bit_xor (rotr w n.first x) (rotr w (b j) x)) (rotr w (c j) x))

  pub rotations_shift_nested : {p i q s r : ℕ} → GrowShift (word_bits f) n → p ≡ rotr (word_bits f) (n.second - n.first) x → i ≡ bit_xor x p
      → q ≡ rotr (word_bits f) n.first i → s ≡ shr n.third x → r ≡ bit_xor q s → r ≡ rotations_shift f n x
  unfolding rotations_shift
  rotations_shift_nested {p = p} {i = i} {q = q} {s = s} {r = r} g e1 e2 e3 e4 e5 =
      let w : ℕ = word_bits f in
      let a = g.second in
      let l = g.within in
      let b : n.first + (n.second - n.first) ≡ n.second = omega arith in
      let two = nested_two w n.first (n.second - n.first) x (omega arith) h e1 (e3 ∙ ap (rotr w n.first) e2) in
      e5 ∙ (λ j. bit_xor ((two ∙ (λ k. bit_xor (rotr w n.first x) (rotr w (b k) x))) j) (e4 j))
