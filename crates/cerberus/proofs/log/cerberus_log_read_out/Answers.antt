use Prim.Native.Nat.{ℕ, ◌*◌}
use mathlib.Core.Path.{◌≡◌, ap, ◌∙◌}
use mathlib.Core.List.{List}
use native.Mathlib.Omega.{arith}
use Rattle.refusal.proofs.Laws.{says_yes}
use Rattle.log_history.specs.History.{entry_length}
use Rattle.attestation_log.specs.State.{State}
use Rattle.attestation_log.specs.Calls.{read_out_step}
use Rattle.c_encoding.specs.Logs.{log_of}
use Rattle.cerberus.proofs.ReadOut.{read_out_told, read_out_few, read_out_length}
use Rattle.refusal.proofs.Steps.{told_refused, told_accepted}
use Rattle.cerberus.proofs.log.cerberus_log_read_out.Goals as goal

pub overflow_mul-text_len : goal.overflow_mul-text_len
overflow_mul-text_len c =
    let state : State = log_of c.args.log.now in
    let buffer : List ℕ = c.args.buffer.now in
    let numbered = read_out_told state buffer c.log_of-state.ensures c.read_out_verdict.ensures in
    let accepted : (read_out_step state buffer).number ≡ 0 = says_yes numbered c.in-Ok.is in
    omega (arith, read_out_few state buffer accepted, ap (λ (s : State). s.count) c.log_of-state.ensures)

pub returns-in-Err : goal.returns-in-Err
returns-in-Err c =
    let state : State = log_of c.args.log.now in
    let buffer : List ℕ = c.args.buffer.now in
    let numbered = read_out_told state buffer c.log_of-state.ensures c.read_out_verdict.ensures in
    told_refused _ _ numbered c.in-Err.is c.number.ensures

pub returns-in-Ok : goal.returns-in-Ok
returns-in-Ok c =
    let state : State = log_of c.args.log.now in
    let buffer : List ℕ = c.args.buffer.now in
    let numbered = read_out_told state buffer c.log_of-state.ensures c.read_out_verdict.ensures in
    let accepted : (read_out_step state buffer).number ≡ 0 = says_yes numbered c.in-Ok.is in
    told_accepted _ _ numbered c.in-Ok.is
    (ap (λ (s : State). entry_length * s.count) c.log_of-state.ensures ∙ read_out_length state buffer accepted)
