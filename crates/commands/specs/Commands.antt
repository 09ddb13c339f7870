-- Document 01, "Message header and PCD commands": the command call. "3, then 4, then 1, 11, 2, then the rest in rising order".
use Rattle.std.specs.Prelude.{ℕ, Bool, ◌||◌, List, length, ltb, Result, Ok, Err}
use Rattle.refusal.specs.declared.Refusal.{Refusal}
use Rattle.refusal.specs.Refusals.{number_of}
use Rattle.refusal.specs.Rules.{◌when◌else◌, accepted◌then◌else◌}
use Rattle.refusal.specs.Steps.{Outcome, outcome, given}
use Rattle.slot_state.specs.State.{wrong_buffers}
use Rattle.manifest_slot.specs.Slot.{unsound}
use Rattle.message_header.specs.Header.{command_of, command_byte, body_of}
use Rattle.command_bodies.specs.Bodies.{request_of}
use Rattle.requests.specs.Requests.{Served, served, served_step}
use Rattle.commands.specs.declared.Answer.{Answer}

-- "The response buffer must have at least ten bytes for every command, else 3"
abbrev pub response_length : ℕ
response_length = 10

-- what every command asks first
unfoldable pub ready_number : Served → ℕ
ready_number b =
    3 when (wrong_buffers b.held.pending b.held.active || ltb (length b.response) response_length) else
    4 when unsound b.held.slot else
    0

-- buffers and state, then the header, then the body, then the request on the slot
unfoldable pub command_step : Bool → List ℕ → Served → Outcome Served
command_step good message b =
    accepted ready_number b then
    given (command_of message) b (λ command.
    given (request_of command (body_of message)) b (λ request.
    served_step good (command_byte message) (body_of message) request b))
    else outcome (ready_number b) b

-- what the function's answer says, with the buffers at exit: "the answer says length 0" beside a refusal
abbrev pub written_of : Result ℕ Refusal → ℕ
written_of (Ok n) = n
written_of (Err why) = 0

abbrev pub answered : Answer → List ℕ → List ℕ → List ℕ → Outcome Served
answered r pending active response = outcome (number_of r.verdict) (served r.slot pending active response (written_of r.verdict))
