-- The lines of a report on vectors.
use Rattle.std.specs.Prelude.{ℕ, Bool, cond, List, ◌++◌, Option, Some, codes, decimal}
use Rattle.std.specs.Fmt.{◌++?◌}
use Rattle.octets.specs.Octets.{same_bytes}
use Rattle.hex_text.specs.HexText.{hex_text}

-- "NAME: ok" where what was computed is as expected, and else "NAME: " and what was computed
unfoldable pub compared_line : Option (List ℕ) → List ℕ → Bool → Option (List ℕ)
compared_line name computed is_expected = name ++? Some (cond is_expected (codes ": ok\n") (codes ": " ++ hex_text computed ++ codes "\n"))

-- a vector's, by what was published of it
unfoldable pub vector_line : Option (List ℕ) → List ℕ → List ℕ → Option (List ℕ)
vector_line name computed expected = compared_line name computed (same_bytes (hex_text computed) expected)

-- "67 vectors, 0 differ"
abbrev pub last_line : ℕ → ℕ → Option (List ℕ)
last_line run differ = Some (decimal run ++ codes " vectors, " ++ decimal differ ++ codes " differ\n")
