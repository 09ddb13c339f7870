-- The hashes of a sound element, as a run of items of their width.
use Rattle.std.specs.Prelude.{ℕ, List, drop}
use Rattle.element_parts.specs.declared.Run.{Run}
use Rattle.hash.specs.Types.{hash_length}
use Rattle.root_cas.specs.RootCas.{roots_head_length}

abbrev pub run_of : Run → ℕ × List ℕ
run_of r = (r.width, r.bytes.now)

abbrev pub hash_run : ℕ → List ℕ → ℕ × List ℕ
hash_run hash_type b = (hash_length hash_type, drop roots_head_length b)
