-- What holds of the integers and bytes that C holds.
use Rattle.std.specs.Prelude.{ℕ, ◌*◌, ◌^◌, ◌<◌, ◌≤◌, ◌≡◌, true, false, List, [], ◌∷◌, take, drop}
use Rattle.log_history.specs.History.{last_pmr}
use Rattle.log_text.specs.Texts.{text_history}
use Rattle.log_comparison.specs.Comparison.{compare_judgement, pmr_comparison, comparisons}
use Rattle.manifest_slot.specs.declared.Slot.{Slot}
use Rattle.manifest_slot.specs.Slot.{held}
use Rattle.slot_state.specs.Rules.{open_number}
use Rattle.manifest_slot.specs.Calls.{lent_number}
use Rattle.c_encoding.specs.Slots.{no_slot, slot_of, numbers_of}
use Rattle.c_encoding.specs.Comparisons.{pmr_comparison_length, pmr_comparison_bytes, comparison_bytes}

-- ---- the integers of a slot

pub record StateLaws : Type 0 where
  -- what a call hands back, the next call takes as the same slot; magic and id have the widths of their types
  pub back : (s : Slot) → s.magic < 2 ^ 16 → s.active.id.0 < 2 ^ 32 → slot_of (numbers_of s) ≡ s
  -- no other integers stand for the same slot
  pub again : (magic length id receiving total received : ℕ)
      → let n = magic ∷ length ∷ id ∷ receiving ∷ total ∷ received ∷ [] in
      no_slot n ≡ false → numbers_of (slot_of n) ≡ n
  -- integers that stand for no slot are 4 in every call, once the buffers have their lengths
  pub refused : (n pending active : List ℕ) → no_slot n ≡ true → open_number pending active ≡ 0 → lent_number (held (slot_of n) pending active) ≡ 4

-- ---- how two logs compare

pub record ComparisonLaws : Type 0 where
  -- of two texts that a replay takes, comparison[p] is what their histories say of PMR p
  pub pmr : (l r : List ℕ) (p : ℕ) → (compare_judgement l r).number ≡ 0 → p ≤ last_pmr
      → take pmr_comparison_length (drop (pmr_comparison_length * p) (comparison_bytes (comparisons l r)))
      ≡ pmr_comparison_bytes (pmr_comparison (text_history l) (text_history r) p)
