use mathlib.Core.Path.{ap, ◌∙◌}
use Rattle.log_history.specs.History.{Event}
use Rattle.attestation_log.specs.State.{State}
use Rattle.attestation_log.specs.Calls.{record_step}
use Rattle.c_encoding.specs.Logs.{log_of, CLog, c_log}
use Rattle.c_encoding.proofs.Logs.{log_stored}
use Rattle.cerberus.proofs.log.cerberus_log_record.Goals as goal

pub returns : goal.returns
unfolding record_step
returns c =
    let a = c.args in
    let k : CLog = c_log a.log.now a.buffer.now in
    let event : Event = record { pmr = a.pmr; event_type = a.event_type; digest = a.digest.now } in
    let is = c.record-answer.ensures ∙ ap (λ (s : State). record_step event s k.buffer) c.log_of.ensures in
    log_stored k (log_of k.bytes) c.record-answer.result (log_of k.bytes) _ _ is c.store.ensures
