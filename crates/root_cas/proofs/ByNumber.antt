-- One hash by its number.
use Prim.Native.Nat.{ℕ, ◌+◌, ◌*◌, ◌<◌}
use mathlib.Core.Path.{◌≡◌, sym, ap, ◌∙◌}
use mathlib.Core.List.{List, []}
use native.Mathlib.Omega.{arith}
use lib.ListN.{length, take, drop}
use lib.Seq.{drop-drop}
use Rattle.refusal.proofs.Laws.{accepted_yes, accepted_no}
use Rattle.hash.specs.Types.{hash_length}
use Rattle.element_parts.specs.Parts.{shown_part, item}
use Rattle.element_parts.proofs.Items.{item_length, item_shown}
use Rattle.root_cas.specs.RootCas.{roots_head_length, root_count_of, roots_number, roots_hashes, roots_hash, roots_hash_number}
use Rattle.root_cas.specs.ByNumber.{ByNumber}
use Rattle.root_cas.specs.Walks.{Walks}
use Rattle.root_cas.proofs.Roots.{roots_element, hash_accepted, hashes_length}

module _ (t : ℕ) (b : List ℕ) (i : ℕ) where
  -- hash i of all bytes behind the head
  behind : item (hash_length t) (drop roots_head_length b) i ≡ take (hash_length t) (drop (roots_head_length + hash_length t * i) b)
  behind = ap (take (hash_length t)) (drop-drop (hash_length t * i) roots_head_length b)

  hash_shown : roots_hash_number t b i ≡ 0
      → (length (roots_hash t b i) ≡ hash_length t) × (roots_hash t b i ≡ take (hash_length t) (drop (roots_head_length + hash_length t * i) b))
  hash_shown e =
      let k = hash_accepted t b i e in
      let shown : roots_hash t b i ≡ take (hash_length t) (drop (roots_head_length + hash_length t * i) b) = accepted_yes _ [] e in (
        ap length (shown ∙ sym behind) ∙ item_length (hash_length t) (root_count_of b) (drop roots_head_length b) i (hashes_length t b (roots_element t b k.0)) k.1,
        shown,
      )

  hash_none : (roots_hash_number t b i ≡ 0 → ⊥) → roots_hash t b i ≡ []
  hash_none h = let refused : 0 < roots_hash_number t b i = omega (arith, h) in accepted_no _ [] refused

  pub hash_walk : item (hash_length t) (roots_hashes t b) i ≡ roots_hash t b i
  unfolding roots_hash_number
  hash_walk =
      item_shown (hash_length t) (root_count_of b) (drop roots_head_length b) i (roots_number t b) (λ e. hashes_length t b (roots_element t b e))
      ∙ ap (shown_part (roots_hash_number t b i)) behind

-- ---- the claims

pub by_number : ByNumber
by_number = record { hash_shown = hash_shown; hash_none = hash_none }

pub walks : Walks
walks = record { hash = hash_walk }
