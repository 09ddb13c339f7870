use mathlib.Core.Path.{◌∙◌}
use mathlib.Core.Bool.{Bool}
use lib.Dec.{eqb}
use Rattle.manifest_slot.specs.Slot.{held}
use Rattle.manifest_slot.specs.Calls.{activate_step}
use Rattle.manifest_slot.specs.Sequences.{activate}
use Rattle.manifest_slot.proofs.Steps.{step_keeps}
use Rattle.c_encoding.specs.Slots.{CSlot, c_slot, held_in}
use Rattle.c_encoding.proofs.SlotSteps.{slot_stored}
use Rattle.cerberus.proofs.slots.cerberus_slot_activate.Goals as goal

pub returns : goal.returns
returns c =
    let a = c.args in
    let k : CSlot = c_slot a.slot.now a.pending.now a.active.now in
    let good : Bool = eqb a.signature_good 1 in
    let is = c.activate-answer.ensures ∙ (λ i. activate_step (c.yes.ensures i) (held (c.slot_of.ensures i) k.pending k.active)) in
    slot_stored k (activate_step good) (step_keeps (activate good) (held_in k)) is c.store.ensures
