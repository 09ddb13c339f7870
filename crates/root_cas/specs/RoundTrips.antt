-- Demand 2: "where we both read and write a thing, the reader gives back what the writer was given"; and what a reader accepts, the writer writes again
-- byte for byte. So each value has one encoding and each encoding one value.
use Rattle.std.specs.Prelude.{ℕ, ◌≡◌, List, length}
use Rattle.octets.specs.Octets.{Bytes}
use Rattle.refusal.specs.Steps.{outcome, reply}
use Rattle.hash.specs.Types.{hash_length}
use Rattle.element_parts.specs.Parts.{item_count}
use Rattle.root_cas.specs.RootCas.{roots_number, roots_fields, roots_hashes, roots_write_step}

-- count and hashes, of each hash type
pub record RoundTrips : Type 0 where
  pub roots_back : (hash_type : ℕ) (hashes buffer : List ℕ)
      → let w = roots_write_step hash_type hashes buffer in
      w.number ≡ 0
      → (reply (roots_number hash_type w.after) (roots_fields w.after) ≡ reply 0 (record { count = item_count (hash_length hash_type) hashes }))
      × (roots_hashes hash_type w.after ≡ hashes)
  pub roots_again : (hash_type : ℕ) (b buffer : List ℕ) → Bytes b → roots_number hash_type b ≡ 0 → length buffer ≡ length b
      → roots_write_step hash_type (roots_hashes hash_type b) buffer ≡ outcome 0 b
