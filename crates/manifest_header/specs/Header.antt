-- 002, "Manifest Header": length (2), magic (2), id (4), signature length (2), signature type (1), reserved (1). Document 01 judges neither of the last two.
use Rattle.std.specs.Prelude.{ℕ, ◌-◌, Bool, not, List, [], ◌∷◌, ltb, eqb}
use Rattle.octets.specs.Octets.{number_at}
use Rattle.laws.specs.Tests.{any}

abbrev pub header_length : ℕ
header_length = 12

-- ---- the fields of a manifest m

abbrev pub total_length : List ℕ → ℕ
total_length m = number_at 2 m 0

abbrev pub magic_number : List ℕ → ℕ
magic_number m = number_at 2 m 2

abbrev pub version_id : List ℕ → ℕ
version_id m = number_at 4 m 4

abbrev pub signature_length : List ℕ → ℕ
signature_length m = number_at 2 m 8

-- ---- document 01, activate's rules but the magic, which the slot and the table of contents (document 02, Item 1) share: "Length unlike the total, ..
-- or signature length 0 or above total less 12, is 8", of a manifest m of so many bytes in total

unfoldable pub header_unfit : ℕ → List ℕ → Bool
header_unfit total m =
    any (
    not (eqb (total_length m) total)
    ∷ eqb (signature_length m) 0
    ∷ ltb (total - header_length) (signature_length m)
    ∷ [])
