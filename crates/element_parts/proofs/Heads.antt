-- The first four bytes of an element, and the rest.
use Prim.Native.Nat.{ℕ, ◌≤◌}
use mathlib.Core.Path.{◌≡◌, refl}
use mathlib.Core.List.{List, [], ◌∷◌}
use native.Mathlib.Omega.{arith}
use lib.ListN.{length, get_or, drop}

pub four_and_rest : (b : List ℕ) → 4 ≤ length b → b ≡ get_or b 0 0 ∷ get_or b 1 0 ∷ get_or b 2 0 ∷ get_or b 3 0 ∷ drop 4 b
four_and_rest [] h = absurd (let z : 4 ≤ 0 = h in omega arith)
four_and_rest (x ∷ []) h = absurd (let z : 4 ≤ 1 = h in omega arith)
four_and_rest (x ∷ (y ∷ [])) h = absurd (let z : 4 ≤ 2 = h in omega arith)
four_and_rest (x ∷ (y ∷ (z ∷ []))) h = absurd (let z : 4 ≤ 3 = h in omega arith)
four_and_rest (x ∷ (y ∷ (z ∷ (w ∷ b)))) h = refl
