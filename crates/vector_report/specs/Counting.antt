-- The bytes 0, 1, 2 and so on.
use Rattle.std.specs.Prelude.{ℕ, zero, suc, List, [], ◌∷◌, ◌++◌}

-- the first n of them
unfoldable pub counting : ℕ → List ℕ
counting zero = []
counting (suc n) = counting n ++ (n ∷ [])
