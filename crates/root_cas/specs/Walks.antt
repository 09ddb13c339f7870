-- A walk over the hashes of an element that was judged once, whose hashes its reader shows: each, read alone, is what the element gives by that hash's
-- number, so that no caller has the whole element judged for each of them.
use Rattle.std.specs.Prelude.{ℕ, ◌≡◌, List}
use Rattle.hash.specs.Types.{hash_length}
use Rattle.element_parts.specs.Parts.{item}
use Rattle.root_cas.specs.RootCas.{roots_hashes, roots_hash}

pub record Walks : Type 0 where
  -- hash i of the shown part is hash i of the element
  pub hash : (hash_type : ℕ) (b : List ℕ) (i : ℕ) → item (hash_length hash_type) (roots_hashes hash_type b) i ≡ roots_hash hash_type b i
