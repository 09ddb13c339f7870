-- The laws of the integers of a slot, and what integers that stand for one say of their fields.
use Prim.Native.Nat.{ℕ, ◌^◌, ◌<◌}
use mathlib.Core.Path.{◌≡◌, refl, sym, ap, ◌∙◌}
use mathlib.Core.Bool.{Bool, true, false}
use mathlib.Core.List.{List, [], ◌∷◌}
use native.Mathlib.Omega.{arith}
use lib.ListN.{get_or}
use lib.Dec.{eqb}
use borrow.Author.Tests.{ltb-false, le-ltb, eqb-true, eqb-false, not-false}
use Rattle.refusal.proofs.Laws.{when_accepted, when_no}
use Rattle.laws.proofs.Tests.{and_yes, any_no, no_any}
use Rattle.manifest_slot.specs.declared.Slot.{Slot}
use Rattle.slot_state.specs.declared.Transfer.{Transfer}
use Rattle.slot_state.specs.declared.Transfer.TheVariants.{Idle, Receiving}
use Rattle.slot_state.specs.State.{wrong_buffers}
use Rattle.manifest_slot.specs.Slot.{unsound, held}
use Rattle.slot_state.specs.Rules.{open_number}
use Rattle.manifest_slot.specs.Calls.{lent_number}
use Rattle.c_encoding.specs.Slots.{slot_faults, no_slot, transfer_of, unsound_slot, slot_of, transfer_numbers, numbers_of}
use Rattle.c_encoding.specs.Laws.{StateLaws}

-- ---- integers that stand for a slot, and those that stand for none

pub is_slot : (n : List ℕ) → no_slot n ≡ false
    → slot_of n ≡ record { magic = get_or n 0 0; active = record { length = get_or n 1 0; id = record { 0 = get_or n 2 0 } }; transfer = transfer_of n }
unfolding slot_of
is_slot n e = rw e

pub is_none : (n : List ℕ) → no_slot n ≡ true → slot_of n ≡ unsound_slot
unfolding slot_of
is_none n e = rw e

pub record Fields (n : List ℕ) : Type 0 where
  pub magic : get_or n 0 0 < 2 ^ 16
  pub id : get_or n 2 0 < 2 ^ 32
  pub flag : get_or n 3 0 < 2
  pub idle : eqb (get_or n 3 0) 0 ≡ true → (get_or n 4 0 ≡ 0) × (get_or n 5 0 ≡ 0)

pub slot_fields : (n : List ℕ) → no_slot n ≡ false → Fields n
slot_fields n e =
    let k = any_no (slot_faults n) e in
    record {
      magic = omega (arith, ltb-false 0xffff (get_or n 0 0) k.0);
      id = omega (arith, ltb-false 0xffffffff (get_or n 2 0) k.1.0);
      flag = omega (arith, ltb-false 1 (get_or n 3 0) k.1.1.0);
      idle = λ z.
          let both = and_yes (eqb (get_or n 4 0) 0) (eqb (get_or n 5 0) 0) (not-false _ (rw z at k.1.1.1.0)) in
          (eqb-true _ _ both.0, eqb-true _ _ both.1);
    }

-- ---- the laws

back_of : (magic length id : ℕ) (t : Transfer) → magic < 2 ^ 16 → id < 2 ^ 32
    → slot_of (magic ∷ length ∷ id ∷ transfer_numbers t) ≡ record { magic = magic; active = record { length = length; id = record { 0 = id } }; transfer = t }
back_of m l i Idle h k =
    let n : List ℕ = m ∷ l ∷ i ∷ 0 ∷ 0 ∷ 0 ∷ [] in
    is_slot n (no_any (slot_faults n) (le-ltb 0xffff m (omega arith), (le-ltb 0xffffffff i (omega arith), (refl, (refl, tt)))))
back_of m l i (Receiving total received) h k =
    let n : List ℕ = m ∷ l ∷ i ∷ 1 ∷ total ∷ received ∷ [] in
    is_slot n (no_any (slot_faults n) (le-ltb 0xffff m (omega arith), (le-ltb 0xffffffff i (omega arith), (refl, (refl, tt)))))

back : (s : Slot) → s.magic < 2 ^ 16 → s.active.id.0 < 2 ^ 32 → slot_of (numbers_of s) ≡ s
unfolding numbers_of
back s h k = back_of s.magic s.active.length s.active.id.0 s.transfer h k

module _ (m l i d t r : ℕ) where
  abbrev n : List ℕ
  n = m ∷ l ∷ i ∷ d ∷ t ∷ r ∷ []

  again_of : Fields n → (idle : Bool) → eqb d 0 ≡ idle → transfer_numbers (transfer_of n) ≡ (d ∷ t ∷ r ∷ [])
  again_of k true e =
      let z = k.idle e in
      rw e (λ j. sym (eqb-true d 0 e) j ∷ sym z.0 j ∷ sym z.1 j ∷ [])
  again_of k false e =
      let one : 1 ≡ d = omega (arith, k.flag, eqb-false d 0 e) in
      rw e (λ j. one j ∷ t ∷ r ∷ [])

  again : no_slot n ≡ false → numbers_of (slot_of n) ≡ n
  unfolding numbers_of
  again e = ap numbers_of (is_slot n e) ∙ ap (λ (x : List ℕ). m ∷ l ∷ i ∷ x) (again_of (slot_fields n e) (eqb d 0) refl)

refused : (n pending active : List ℕ) → no_slot n ≡ true → open_number pending active ≡ 0 → lent_number (held (slot_of n) pending active) ≡ 4
unfolding open_number lent_number unsound
refused n pending active e h =
    ap (λ (s : Slot). lent_number (held s pending active)) (is_none n e)
    ∙ when_no 3 4 (when_accepted 3 (wrong_buffers pending active) 0 (omega arith) h).0

pub state_laws : StateLaws
state_laws = record { back = back; again = again; refused = refused }
