use Rattle.std.proofs.Common.{rules}
use Rattle.manifest_slot.specs.Calls.{open_step}
use Rattle.manifest_slot.proofs.Slot.open.Goals as goal

pub returns-in_err-buffers_verdict : goal.returns-in_err-buffers_verdict
unfolding open_step
returns-in_err-buffers_verdict c = search rules
