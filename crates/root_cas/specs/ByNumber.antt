-- Document 01: readers show hashes "as parts of the lent element". One hash by its number, from 0: what stands there in an element that is sound, and
-- nothing past the last or where the element is malformed. Its companion gives the 12.
use Rattle.std.specs.Prelude.{ℕ, ◌+◌, ◌*◌, ◌≡◌, List, [], length, take, drop}
use Rattle.hash.specs.Types.{hash_length}
use Rattle.root_cas.specs.RootCas.{roots_head_length, roots_hash, roots_hash_number}

pub record ByNumber : Type 0 where
  pub hash_shown : (hash_type : ℕ) (b : List ℕ) (i : ℕ) → roots_hash_number hash_type b i ≡ 0
      → (length (roots_hash hash_type b i) ≡ hash_length hash_type)
      × (roots_hash hash_type b i ≡ take (hash_length hash_type) (drop (roots_head_length + hash_length hash_type * i) b))
  pub hash_none : (hash_type : ℕ) (b : List ℕ) (i : ℕ) → (roots_hash_number hash_type b i ≡ 0 → ⊥) → roots_hash hash_type b i ≡ []
