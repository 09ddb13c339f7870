use mathlib.Core.Path.{◌≡◌, refl, sym, ap, ◌∙◌}
use native.Mathlib.Omega.{arith}
use mathlib.Core.Bool.{Bool}
use lib.Dec.{eqb}
use Rattle.refusal.specs.Refusals.{number_of}
use Rattle.refusal.specs.Steps.{Outcome}
use Rattle.refusal.proofs.Laws.{refusal_positive}
use Rattle.requests.specs.Requests.{Served, served}
use Rattle.commands.specs.Commands.{command_step}
use Rattle.commands.proofs.Claims.{command_claims}
use Rattle.c_encoding.specs.Slots.{c_slot}
use Rattle.c_encoding.specs.Messages.{CServed, c_served, served_in}
use Rattle.c_encoding.proofs.SlotSteps.{served_refused}
use Rattle.cerberus.proofs.messages.cerberus_command.Goals as goal

pub returns-in-Err : goal.returns-in-Err
returns-in-Err c =
    let lent : CServed = let a = c.args in c_served (c_slot a.slot.now a.pending.now a.active.now) a.response.now a.written.now in
    let good : Bool = eqb c.args.signature_good 1 in
    let step : Served → Outcome Served = command_step good c.args.message.now in
    let made : let a = c.args in command_step c.yes-good.result a.message.now (served c.slot_of.result a.pending.now a.active.now a.response.now 0) ≡ step (served_in lent) = let a = c.args in
    λ i. command_step (c.yes-good.ensures i) a.message.now (served (c.slot_of.ensures i) a.pending.now a.active.now a.response.now 0) in
    served_refused lent step c.command-answer.result.verdict (c.command-answer.ensures ∙ made)
    (command_claims.kept good c.args.message.now (served_in lent) refl) (c.number.ensures ∙ ap number_of (sym c.in-Err.is))
    (omega (arith, c.number.ensures, refusal_positive c.in-Err.why))
