-- Laws of the comparison with a text, a byte and two digits at a time.
use Prim.Native.Nat.{ℕ, suc, ◌+◌, ◌*◌, ◌≤◌, ◌<◌}
use mathlib.Core.Path.{◌≡◌, sym, ap, ◌∙◌}
use mathlib.Core.Bool.{Bool, true, false, ◌&&◌}
use mathlib.Core.List.{List, [], ◌∷◌}
use native.Mathlib.Omega.{arith}
use lib.Dec.{eqb}
use lib.ListN.{length, get_or, drop, drop_of_length-le}
use lib.Seq.{drop-cons}
use Rattle.octets.specs.Octets.{same_bytes}
use Rattle.octets.proofs.Buffers.{same_not}
use Rattle.hex_text.specs.HexText.{byte_text, hex_text}

length_hex : (b : List ℕ) → length (hex_text b) ≡ 2 * length b
unfolding hex_text byte_text
length_hex [] = omega arith
length_hex (x ∷ xs) = omega (arith, length_hex xs)

pub other_length : (b t : List ℕ) → (length t ≡ 2 * length b → ⊥) → same_bytes (hex_text b) t ≡ false
other_length b t h = same_not (hex_text b) t (λ e. h (sym e ∙ length_hex b))

-- what is left to compare from byte i on
abbrev pub same_from : List ℕ → List ℕ → ℕ → Bool
same_from b t i = same_bytes (hex_text (drop i b)) (drop (2 * i) t)

pub same_end : (b t : List ℕ) (i : ℕ) → i ≡ length b → length t ≡ 2 * length b → same_from b t i ≡ true
unfolding hex_text
same_end b t i e l =
    let p : length b ≤ i = omega arith in
    let q : length t ≤ 2 * i = omega arith in
    rw (drop_of_length-le b {i = i} p, drop_of_length-le t {i = 2 * i} q)

-- d: the text of byte i
module _ (b t d : List ℕ) (i : ℕ) (p : i < length b) (l : length t ≡ 2 * length b) (e : d ≡ byte_text (get_or b i 0)) where
  pub same_step : same_from b t i ≡ (eqb (get_or d 0 0) (get_or t (2 * i) 0) && (eqb (get_or d 1 0) (get_or t (2 * i + 1) 0) && same_from b t (i + 1)))
  unfolding hex_text byte_text
  same_step =
      let next : suc i ≡ i + 1 = omega arith in
      let second : suc (2 * i) ≡ 2 * i + 1 = omega arith in
      let third : suc (2 * i + 1) ≡ 2 * (i + 1) = omega arith in
      let digits : drop (2 * i) t ≡ get_or t (2 * i) 0 ∷ get_or t (2 * i + 1) 0 ∷ drop (2 * (i + 1)) t =
      drop-cons t (2 * i) 0 (omega arith)
      ∙ ap (λ (k : ℕ). get_or t (2 * i) 0 ∷ drop k t) second
      ∙ ap (λ (r : List ℕ). get_or t (2 * i) 0 ∷ r) (drop-cons t (2 * i + 1) 0 (omega arith))
      ∙ ap (λ (k : ℕ). get_or t (2 * i) 0 ∷ get_or t (2 * i + 1) 0 ∷ drop k t) third in
      (λ j. same_bytes (hex_text (drop-cons b i 0 p j)) (digits j))
      ∙ (λ j. eqb (get_or (sym e j) 0 0) (get_or t (2 * i) 0) && (eqb (get_or (sym e j) 1 0) (get_or t (2 * i + 1) 0) && same_bytes (hex_text (drop (next j) b)) (drop (2 * (i + 1)) t)))

  pub first_differs : eqb (get_or d 0 0) (get_or t (2 * i) 0) ≡ false → same_from b t i ≡ false
  first_differs first = same_step ∙ rw first

  pub second_differs : eqb (get_or d 0 0) (get_or t (2 * i) 0) ≡ true → eqb (get_or d 1 0) (get_or t (2 * i + 1) 0) ≡ false → same_from b t i ≡ false
  second_differs first second = same_step ∙ rw (first, second)

  pub byte_same : eqb (get_or d 0 0) (get_or t (2 * i) 0) ≡ true → eqb (get_or d 1 0) (get_or t (2 * i + 1) 0) ≡ true
      → same_from b t i ≡ same_from b t (i + 1)
  byte_same first second = same_step ∙ rw (first, second)
