-- Arrays of zeros in a row, as one slice.
use Rattle.std.specs.Prelude.{◌≡◌, ℕ, zero, suc, ◌+◌, ◌*◌, List, ◌++◌, replicate}
use Rattle.std.specs.List.{flat_map}
use Rattle.std.proofs.Common.{arith, ap, sym, ◌∙◌}
use Rattle.std.proofs.lemmas.List.{replicate-append-replicate}
use native.Mathlib.Nat.{zero-mul, suc-mul}

pub zeros_flat : (k n : ℕ) → flat_map {A = ℕ} (λ x. x) (replicate k (replicate n 0)) ≡ replicate (k * n) 0
zeros_flat zero n = ap (λ (m : ℕ). replicate m 0) (sym (zero-mul n))
zeros_flat (suc k) n =
    let e : n + k * n ≡ suc k * n = omega (arith, suc-mul k n) in
    ap (λ (l : List ℕ). replicate n 0 ++ l) (zeros_flat k n) ∙ replicate-append-replicate n (k * n) 0 ∙ ap (λ (m : ℕ). replicate m 0) e
