use Rattle.c_encoding.specs.Slots.{c_slot}
use Rattle.c_encoding.proofs.SlotSteps.{opened_told}
use Rattle.cerberus.proofs.slots.cerberus_slot_open.Goals as goal

pub returns : goal.returns
returns c =
    let a = c.args in
    opened_told (c_slot a.slot.now a.pending.now a.active.now) a.magic c.open.result c.map.result c.open.ensures c.map.ensures.cases c.keep.ensures
