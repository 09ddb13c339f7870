use mathlib.Core.Path.{ap, ◌∙◌}
use Rattle.manifest_slot.specs.declared.Slot.{Slot}
use Rattle.manifest_slot.specs.Slot.{held}
use Rattle.manifest_slot.specs.Calls.{update_step}
use Rattle.manifest_slot.specs.Sequences.{update}
use Rattle.manifest_slot.proofs.Steps.{step_keeps}
use Rattle.c_encoding.specs.Slots.{CSlot, c_slot, held_in}
use Rattle.c_encoding.proofs.SlotSteps.{slot_stored}
use Rattle.cerberus.proofs.slots.cerberus_slot_update.Goals as goal

pub returns : goal.returns
returns c =
    let a = c.args in
    let k : CSlot = c_slot a.slot.now a.pending.now a.active.now in
    let is = c.update-answer.ensures ∙ ap (λ (s : Slot). update_step a.payload.now (held s k.pending k.active)) c.slot_of.ensures in
    slot_stored k (update_step a.payload.now) (step_keeps (update a.payload.now) (held_in k)) is c.store.ensures
