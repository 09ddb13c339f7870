-- A list that holds i at each index i.
use Prim.Native.Nat.{ℕ, zero, suc, ◌<◌}
use mathlib.Core.Path.{◌≡◌, refl, sym, ap, ◌∙◌}
use mathlib.Core.List.{List, [], ◌∷◌, ◌++◌, map}
use native.Mathlib.Omega.{arith}
use native.Mathlib.Numerals.{add-one}
use lib.ListN.{length, get_or}
use Rattle.std.specs.List.{range_with_len}
use Rattle.std.proofs.lemmas.List.FromFn.{fill_by_all, map-range_with_len_more}
use Rattle.vector_report.specs.Counting.{counting}

counted : (n : ℕ) → map (λ (i : ℕ). i) (range_with_len 0 n) ≡ counting n
unfolding counting
counted zero = refl
counted (suc n) =
    ap (λ (k : ℕ). map (λ (i : ℕ). i) (range_with_len 0 k)) (sym (add-one n))
    ∙ map-range_with_len_more (λ (i : ℕ). i) 0 n n (omega arith)
    ∙ ap (λ (l : List ℕ). l ++ (n ∷ [])) (counted n)

pub counting_from : (l : List ℕ) (n : ℕ) → length l ≡ n → ((i : ℕ) → i < n → get_or l i 0 ≡ i) → l ≡ counting n
counting_from l n e h = fill_by_all (λ (i : ℕ). i) l n 0 e h ∙ counted n
