-- Bytes as hexadecimal text in ASCII, two digits a byte, as published vectors are printed.
use Rattle.std.specs.Prelude.{ℕ, ◌+◌, ◌-◌, ◌/◌, ◌%◌, cond, List, [], ◌∷◌, ◌++◌, ltb}

-- "0" to "9" for 0 to 9, "a" to "f" for 10 to 15
unfoldable pub digit_text : ℕ → ℕ
digit_text n = cond (ltb n 10) (0x30 + n) (0x61 + (n - 10))

unfoldable pub byte_text : ℕ → List ℕ
byte_text b = digit_text (b / 16) ∷ digit_text (b % 16) ∷ []

unfoldable pub hex_text : List ℕ → List ℕ
hex_text [] = []
hex_text (b ∷ bs) = byte_text b ++ hex_text bs
