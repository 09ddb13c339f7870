-- Document 01 and 002, RootCAs, hash type given by the caller: "count, at least 1; three zero bytes; that many hashes".
use Rattle.std.specs.Prelude.{ℕ, ◌+◌, ◌*◌, Bool, not, List, [], ◌∷◌, ◌++◌, length, get_or, take, drop, eqb}
use Rattle.laws.specs.Tests.{any}
use Rattle.refusal.specs.Steps.{Outcome}
use Rattle.hash.specs.Types.{hash_length, bad_hash_type}
use Rattle.root_cas.specs.declared.RootCas.{RootCas}
use Rattle.element_parts.specs.Parts.{read_number, write_step, shown_part, item_number, item_count, bad_items}

-- the bytes before the hashes
abbrev pub roots_head_length : ℕ
roots_head_length = 4

abbrev pub root_count_of : List ℕ → ℕ
root_count_of b = get_or b 0 0

-- ---- the readers

abbrev pub roots_faults : ℕ → List ℕ → List Bool
roots_faults hash_type b =
    not (eqb (length b) (roots_head_length + hash_length hash_type * root_count_of b))
    ∷ bad_hash_type hash_type
    ∷ eqb (root_count_of b) 0
    ∷ not (eqb (get_or b 1 0) 0)
    ∷ not (eqb (get_or b 2 0) 0)
    ∷ not (eqb (get_or b 3 0) 0)
    ∷ []

unfoldable pub roots_number : ℕ → List ℕ → ℕ
roots_number hash_type b = read_number (any (roots_faults hash_type b))

abbrev pub roots_fields : List ℕ → RootCas
roots_fields b = record { count = root_count_of b }

abbrev pub roots_hashes : ℕ → List ℕ → List ℕ
roots_hashes hash_type b = shown_part (roots_number hash_type b) (drop roots_head_length b)

-- hash i, from 0: "A call whose answer is a part of a lent buffer gives an empty part where it refuses, and a companion call on the same inputs gives
-- the number"
unfoldable pub roots_hash_number : ℕ → List ℕ → ℕ → ℕ
roots_hash_number hash_type b i = item_number (roots_number hash_type b) (root_count_of b) i

abbrev pub roots_hash : ℕ → List ℕ → ℕ → List ℕ
roots_hash hash_type b i = shown_part (roots_hash_number hash_type b i) (take (hash_length hash_type) (drop (roots_head_length + hash_length hash_type * i) b))

-- ---- the writer

abbrev pub roots_field_faults : ℕ → List ℕ → List Bool
roots_field_faults hash_type hashes =
    bad_hash_type hash_type
    ∷ bad_items (hash_length hash_type) hashes
    ∷ []

unfoldable pub roots_fields_malformed : ℕ → List ℕ → Bool
roots_fields_malformed hash_type hashes = any (roots_field_faults hash_type hashes)

abbrev pub roots_bytes : ℕ → List ℕ → List ℕ
roots_bytes hash_type hashes = (item_count (hash_length hash_type) hashes ∷ 0 ∷ 0 ∷ 0 ∷ []) ++ hashes

abbrev pub roots_write_step : ℕ → List ℕ → List ℕ → Outcome (List ℕ)
roots_write_step hash_type hashes buffer = write_step (roots_fields_malformed hash_type hashes) (roots_bytes hash_type hashes) buffer
