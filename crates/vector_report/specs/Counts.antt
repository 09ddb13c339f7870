-- How a vector counts: as run, and as differing where what was computed isn't what was published.
use Rattle.std.specs.Prelude.{ℕ, ◌+◌, ◌%◌, ◌^◌, cond, List}
use Rattle.octets.specs.Octets.{same_bytes}
use Rattle.hex_text.specs.HexText.{hex_text}

abbrev pub one_more : ℕ → ℕ
one_more n = (n + 1) % 2 ^ 64

-- n vectors differ so far
unfoldable pub differing : List ℕ → List ℕ → ℕ → ℕ
differing computed expected n = cond (same_bytes (hex_text computed) expected) n (one_more n)
