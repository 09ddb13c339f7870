-- Lists of words, as the numbers of the words: elements, stores and parts.
use Rattle.std.proofs.Common.{ℕ, ◌<◌, ◌≡◌, List, [], ◌∷◌, length, map, get_or, set, take, drop, ap, sym, arith, ◌∙◌}
use Rattle.std.proofs.lemmas.List.{get_or-map, map-set, length-map, take-map, drop-map}
use Rattle.sha_words.proofs.Bytes.{listed}

module _ {X : Type 0} (number : X → ℕ) where
  pub element : (xs : List X) (i : ℕ) (d : X) → i < length xs → number (get_or xs i d) ≡ get_or (map number xs) i 0
  element xs i d h = sym (get_or-map number xs i d 0 h)

  pub stored : (xs : List X) (i : ℕ) (v : X) {n : ℕ} → number v ≡ n → map number (set xs i v) ≡ set (map number xs) i n
  stored xs i v e = map-set number xs i v ∙ ap (set (map number xs) i) e

  pub count : (xs : List X) {ns : List ℕ} → map number xs ≡ ns → length xs ≡ length ns
  count xs e = sym (length-map xs number) ∙ ap length e

  pub part : (xs : List X) (n at : ℕ) → map number (take n (drop at xs)) ≡ take n (drop at (map number xs))
  part xs n at = sym (take-map number n (drop at xs)) ∙ ap (take n) (sym (drop-map number at xs))

  pub eight : (xs : List X) (a b c d e f g h : X) → length xs ≡ 8
      → number (get_or xs 0 a) ∷ number (get_or xs 1 b) ∷ number (get_or xs 2 c) ∷ number (get_or xs 3 d) ∷ number (get_or xs 4 e)
      ∷ number (get_or xs 5 f) ∷ number (get_or xs 6 g) ∷ number (get_or xs 7 h) ∷ []
      ≡ map number xs
  eight xs a b c d e f g h l =
      (λ i.
      element xs 0 a (omega arith) i ∷ element xs 1 b (omega arith) i ∷ element xs 2 c (omega arith) i ∷ element xs 3 d (omega arith) i
      ∷ element xs 4 e (omega arith) i ∷ element xs 5 f (omega arith) i ∷ element xs 6 g (omega arith) i ∷ element xs 7 h (omega arith) i ∷ [])
      ∙ sym (listed (map number xs) 8 (length-map xs number ∙ l))
