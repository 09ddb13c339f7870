-- The integers in which C keeps a slot (include/cerberus.h, cerberus_slot): magic, active length, active id, receiving, total, received.
use Rattle.std.specs.Prelude.{ℕ, Bool, not, ◌&&◌, cond, List, [], ◌∷◌, get_or, ltb, eqb}
use Rattle.refusal.specs.Steps.{Outcome, decided}
use Rattle.laws.specs.Tests.{any}
use Rattle.slot_state.specs.declared.Transfer.{Transfer}
use Rattle.slot_state.specs.declared.Transfer.TheVariants.{Idle, Receiving}
use Rattle.manifest_slot.specs.declared.Slot.{Slot}
use Rattle.manifest_slot.specs.Slot.{Held, held}

-- integers that no slot has, whatever its numbers: a magic of more than 16 bits, an id of more than 32, a flag above 1, idle with a total or bytes
-- received
abbrev pub slot_faults : List ℕ → List Bool
slot_faults n =
    ltb 0xffff (get_or n 0 0)
    ∷ ltb 0xffffffff (get_or n 2 0)
    ∷ ltb 1 (get_or n 3 0)
    ∷ (eqb (get_or n 3 0) 0 && not (eqb (get_or n 4 0) 0 && eqb (get_or n 5 0) 0))
    ∷ []

abbrev pub no_slot : List ℕ → Bool
no_slot n = any (slot_faults n)

abbrev pub transfer_of : List ℕ → Transfer
transfer_of n = cond (eqb (get_or n 3 0) 0) Idle (Receiving (get_or n 4 0) (get_or n 5 0))

-- a slot outside the rules (an id without an active manifest), for integers that are none: every call refuses it with 4, where 3 doesn't come first
abbrev pub unsound_slot : Slot
unsound_slot = record { magic = 0; active = record { length = 0; id = record { 0 = 1 } }; transfer = Idle }

unfoldable pub slot_of : List ℕ → Slot
slot_of n =
    cond (no_slot n) unsound_slot
    (record {
      magic = get_or n 0 0;
      active = record { length = get_or n 1 0; id = record { 0 = get_or n 2 0 } };
      transfer = transfer_of n;
    })

abbrev pub transfer_numbers : Transfer → List ℕ
transfer_numbers Idle = 0 ∷ 0 ∷ 0 ∷ []
transfer_numbers (Receiving total received) = 1 ∷ total ∷ received ∷ []

unfoldable pub numbers_of : Slot → List ℕ
numbers_of s = s.magic ∷ s.active.length ∷ s.active.id.0 ∷ transfer_numbers s.transfer

-- ---- a slot in C: its six integers, and its two buffers

pub record CSlot : Type 0 where
  pub numbers : List ℕ
  pub pending : List ℕ
  pub active : List ℕ

abbrev pub c_slot : List ℕ → List ℕ → List ℕ → CSlot
c_slot numbers pending active = record { numbers = numbers; pending = pending; active = active }

-- what they stand for, and how it is kept
abbrev pub held_in : CSlot → Held
held_in c = held (slot_of c.numbers) c.pending c.active

abbrev pub kept_in : Held → CSlot
kept_in h = c_slot (numbers_of h.slot) h.pending h.active

-- a slot's step in C: a refused call writes to no pointer, so that integers which stand for no slot stay what they are
abbrev pub slot_step : (Held → Outcome Held) → CSlot → Outcome CSlot
slot_step step c = let o = step (held_in c) in decided o.number c (kept_in o.after)
