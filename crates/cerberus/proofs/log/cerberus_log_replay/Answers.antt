use Rattle.refusal.proofs.Steps.{keeps_decided}
use Rattle.attestation_log.specs.Calls.{replay_step, unchanged}
use Rattle.c_encoding.specs.Logs.{log_of, c_log}
use Rattle.c_encoding.proofs.Logs.{log_told}
use Rattle.cerberus.proofs.log.cerberus_log_replay.Goals as goal

pub returns : goal.returns
unfolding replay_step
returns c =
    let a = c.args in
    log_told (c_log a.log.now a.buffer.now) (replay_step a.text.now) (keeps_decided _ (unchanged (log_of a.log.now) a.buffer.now) _) c.replay.result c.map.result c.replay.ensures c.map.ensures.cases c.keep.ensures
