-- Document 01, "Manifest slot": the states that are sound, a transfer with more bytes, and a slot with its two buffers.
use Rattle.std.specs.Prelude.{ℕ, ◌+◌, Bool, ◌||◌, List}
use Rattle.slot_state.specs.declared.Transfer.{Transfer}
use Rattle.slot_state.specs.declared.Transfer.TheVariants.{Idle, Receiving}
use Rattle.slot_state.specs.State.{active_unsound, transfer_unsound}
use Rattle.manifest_slot.specs.declared.Slot.{Slot}

-- "Any other state is 4"
unfoldable pub unsound : Slot → Bool
unsound s = active_unsound s.active || transfer_unsound s.transfer

-- "The slot is opened with the 16-bit magic number it expects and has no active manifest"
abbrev pub fresh : ℕ → Slot
fresh magic = record { magic = magic; active = record { length = 0; id = record { 0 = 0 } }; transfer = Idle }

-- ---- a transfer under way

-- the transfer with n bytes more
abbrev pub advanced : Transfer → ℕ → Transfer
advanced Idle n = Idle
advanced (Receiving total received) n = Receiving total (received + n)

-- the slot with another transfer
abbrev pub transferring : Slot → Transfer → Slot
transferring s t = record { magic = s.magic; active = s.active; transfer = t }

-- ---- a slot with its two buffers, as a call finds and leaves them

pub record Held : Type 0 where
  pub slot : Slot
  pub pending : List ℕ
  pub active : List ℕ

abbrev pub held : Slot → List ℕ → List ℕ → Held
held s pending active = record { slot = s; pending = pending; active = active }
