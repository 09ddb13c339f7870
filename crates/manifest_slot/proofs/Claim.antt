-- The claim of specs/Sequences.antt.
use Rattle.std.proofs.Common.{[], ◌∙◌}
use Rattle.manifest_slot.specs.declared.Role.{Role}
use Rattle.manifest_slot.specs.Calls.{open_step}
use Rattle.manifest_slot.specs.Sequences.{after_all, SlotClaim}
use Rattle.manifest_slot.proofs.Steps.{step_keeps}
use Rattle.manifest_slot.proofs.Stays.{stays, magic, forward, above, alone}
use Rattle.manifest_slot.proofs.Reading.{all_read, opened_reads, reads_part}

pub slot_claim : SlotClaim
slot_claim =
    record {
      kept = step_keeps;
      stays = stays;
      magic = magic;
      forward = forward;
      above = above;
      alone = alone;
      reads = λ magic before e cs.
          let opening = (open_step magic before).after in
          let h = after_all cs opening in
          let r = all_read cs opening (record { pending = []; active = [] }) (opened_reads magic before e) in
          (r.sound, reads_part h Role.Active r.sound ∙ r.active, reads_part h Role.Pending r.sound ∙ r.pending);
    }
