-- Laws on lists that several proofs cite.
use Prim.Native.Nat.{ℕ, zero, suc, ◌+◌, ◌-◌, ◌<◌, ◌≤◌}
use mathlib.Core.Path.{◌≡◌, refl, sym, ap, ◌∙◌}
use mathlib.Core.List.{List, [], ◌∷◌, ◌++◌}
use mathlib.Core.Logic.{◌⊎◌, inl, inr, ⊎_elim}
use native.Mathlib.Nat.{add-zero}
use native.Mathlib.Numerals.{add-one}
use native.Mathlib.Omega.{arith}
use lib.ListN.{length, take, drop, get_or, set, length-drop}
use lib.Seq.{drop-cons, take-suc-set, take_all}

-- the elements from index at on, one at a time
pub take_drop : (b : List ℕ) (at next k : ℕ) → at < length b → suc at ≡ next → take (suc k) (drop at b) ≡ get_or b at 0 ∷ take k (drop next b)
take_drop b at next k h e = ap (take (suc k)) (drop-cons b at 0 h) ∙ ap (λ (n : ℕ). get_or b at 0 ∷ take k (drop n b)) e

-- all elements from index n on, as code lends them
pub take_to_end {ℓ} : {A : Type ℓ} (n : ℕ) (b : List A) → take (length b - n) (drop n b) ≡ drop n b
take_to_end n b = take_all (length b - n) (drop n b) (omega (arith, length-drop n b))

-- k elements from index at + i on, as code reads them
abbrev pub run : List ℕ → ℕ → ℕ → ℕ → List ℕ
run b at i zero = []
run b at i (suc k) = get_or b (at + i) 0 ∷ run b at (suc i) k

take_from : (b : List ℕ) (at i k : ℕ) → at + i + k ≤ length b → take k (drop (at + i) b) ≡ run b at i k
take_from b at i zero h = refl
take_from b at i (suc k) h =
    take_drop b (at + i) (at + suc i) k (omega arith) (omega arith) ∙ ap (λ (l : List ℕ). get_or b (at + i) 0 ∷ l) (take_from b at (suc i) k (omega arith))

pub take_run : (b : List ℕ) (at k : ℕ) → at + k ≤ length b → take k (drop at b) ≡ run b at 0 k
take_run b at k h = ap (λ (n : ℕ). take k (drop n b)) (sym (add-zero at)) ∙ take_from b at 0 k (omega arith)

-- a loop that stores one element a turn, where the first j elements are f j
pub store_next {ℓ} : {A : Type ℓ} (f : ℕ → List A) (w : List A) (j : ℕ) (v : A) → j < length w → take j w ≡ f j → f (suc j) ≡ f j ++ (v ∷ [])
    → take (j + 1) (set w j v) ≡ f (j + 1)
store_next {A = A} f w j v h e g =
    ap (λ (n : ℕ). take n (set w j v)) (add-one j) ∙ take-suc-set w j v h ∙ ap (λ (l : List A). l ++ (v ∷ [])) e ∙ sym g
    ∙ ap f (sym (add-one j))

-- the same loop at its end
pub store_all {ℓ} : {A : Type ℓ} (f : ℕ → List A) (w : List A) (j n : ℕ) → length w ≡ n → j ≡ n → take j w ≡ f j → w ≡ f n
store_all f w j n l e p = sym (take_all j w (omega arith)) ∙ p ∙ ap f e

pub before_or_not : (x j : ℕ) → (x < j) ⊎ (j ≤ x)
before_or_not x zero = inr (omega arith)
before_or_not zero (suc j) = inl (omega arith)
before_or_not (suc x) (suc j) = ⊎_elim (λ (h : x < j). inl (omega arith)) (λ (h : j ≤ x). inr (omega arith)) (before_or_not x j)
