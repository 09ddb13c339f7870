-- What holds of every command, whatever the message, the slot and the buffers.
use Rattle.std.specs.Prelude.{ℕ, ◌^◌, ◌<◌, ◌≡◌, Bool, List, take, drop}
use Rattle.octets.specs.Octets.{number_at}
use Rattle.refusal.specs.Steps.{Keeps}
use Rattle.message_header.specs.Header.{header_length, command_of, command_byte}
use Rattle.requests.specs.Requests.{Served}
use Rattle.commands.specs.Commands.{response_length, command_step}

pub record CommandClaims : Type 0 where
  -- a refused command changes nothing, and answers length 0
  pub kept : (good : Bool) (message : List ℕ) (b : Served) → b.written ≡ 0 → Keeps b (command_step good message b)
  -- where a response is written, its first five bytes read as a header are ours and name the command, and the version id behind them reads back
  pub answers : (good : Bool) (message : List ℕ) (b : Served) → b.held.slot.active.id.0 < 2 ^ 32 → b.written ≡ 0
      → let done = (command_step good message b).after in
      done.written ≡ response_length
      → (command_of (take header_length done.response) ≡ command_of message)
      × (command_byte done.response ≡ command_byte message)
      × (number_at 4 done.response 6 ≡ b.held.slot.active.id.0)
  -- "Bytes after the tenth stay", whatever the command and its verdict
  pub rest : (good : Bool) (message : List ℕ) (b : Served) → drop response_length (command_step good message b).after.response ≡ drop response_length b.response
  -- "The other three write no response; the answer says length 0": where the answer says so, the response buffer is as it was
  pub silent : (good : Bool) (message : List ℕ) (b : Served) → (command_step good message b).after.written ≡ 0
      → (command_step good message b).after.response ≡ b.response
