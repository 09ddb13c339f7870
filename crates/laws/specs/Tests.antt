-- Tests: one of several, and a yes or no as a number.
use Rattle.std.specs.Prelude.{ℕ, Bool, true, false, ◌||◌, List, [], ◌∷◌}

-- one of the tests holds
abbrev pub any : List Bool → Bool
any [] = false
any (t ∷ []) = t
any (t ∷ (u ∷ ts)) = t || any (u ∷ ts)

-- 1 for yes, 0 for no
abbrev pub bit_of : Bool → ℕ
bit_of true = 1
bit_of false = 0
