-- A read-out, as C is told of it.
use Prim.Native.Nat.{ℕ, ◌*◌, ◌≤◌}
use mathlib.Core.Path.{◌≡◌, refl, sym, ap, ◌∙◌}
use mathlib.Core.List.{List}
use native.Mathlib.Omega.{arith}
use lib.ListN.{length}
use lib.Seq.{length-take-le}
use Rattle.log_history.specs.History.{capacity, entry_length}
use Rattle.attestation_log.proofs.Numbers.{check_accepted}
use Rattle.attestation_log.specs.State.{State}
use Rattle.attestation_log.specs.Calls.{read_out_step, read_out_verdict_step}
use Rattle.attestation_log.proofs.Answers.{read_bytes}

-- a read-out has its companion's number, and the length of all entries
pub read_out_number : (s : State) (buffer : List ℕ) → (read_out_verdict_step s buffer).number ≡ (read_out_step s buffer).number
unfolding read_out_step read_out_verdict_step
read_out_number s buffer = refl

-- the companion's number, of a state that code made
pub read_out_told : {n : ℕ} {made : State} (s : State) (buffer : List ℕ) → made ≡ s
    → n ≡ (read_out_verdict_step made buffer).number → n ≡ (read_out_step s buffer).number
read_out_told s buffer e n = n ∙ ap (λ (x : State). (read_out_verdict_step x buffer).number) e ∙ read_out_number s buffer

pub read_out_few : (s : State) (buffer : List ℕ) → (read_out_step s buffer).number ≡ 0 → s.count ≤ capacity
unfolding read_out_step
read_out_few s buffer e = (check_accepted s buffer e).counts.few

pub read_out_length : (s : State) (buffer : List ℕ) → (read_out_step s buffer).number ≡ 0 → entry_length * s.count ≡ length (read_out_step s buffer).after.bytes
unfolding read_out_step
read_out_length s buffer e =
    let k = check_accepted s buffer e in
    let fits : entry_length * s.count ≤ length buffer = omega (arith, k.counts.few, k.right) in
    sym (ap length (sym (read_bytes s buffer e)) ∙ length-take-le (entry_length * s.count) buffer fits)
