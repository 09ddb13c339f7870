-- A request on one slot with its two buffers: the slot call's step, and the bytes of the reply. Document 01: "A command does what the slot call does."
use Rattle.std.specs.Prelude.{ℕ, Bool, cond, List, [], ◌∷◌, ◌++◌, length, eqb, Result, Ok, Err}
use Rattle.octets.specs.Octets.{bytes_of, pasted}
use Rattle.refusal.specs.declared.Refusal.{Refusal}
use Rattle.refusal.specs.Refusals.{refusal_number}
use Rattle.refusal.specs.Steps.{Outcome, outcome, within}
use Rattle.message_header.specs.Header.{opening}
use Rattle.slot_state.specs.declared.Active.{Active}
use Rattle.manifest_slot.specs.declared.Slot.{Slot}
use Rattle.manifest_slot.specs.Slot.{Held, held}
use Rattle.manifest_slot.specs.Calls.{prepare_lent, update_lent, activate_lent}
use Rattle.command_bodies.specs.declared.Request.{Request}
use Rattle.command_bodies.specs.declared.Request.TheVariants.{GetId, Prepare, Update, Activate}
use Rattle.requests.specs.declared.Performed.{Performed}

-- a slot with its buffers, and the bytes that answer
pub record Replied : Type 0 where
  pub held : Held
  pub reply : List ℕ

-- "The other three write no response"
abbrev pub silently : Held → Replied
silently h = record { held = h; reply = [] }

-- "valid 0 or 1"
abbrev pub valid_byte : Active → ℕ
valid_byte a = cond (eqb a.length 0) 0 1

-- "Get PCD Id writes ten bytes: 7e 14 14 00, the command byte, valid 0 or 1, version id (0 if none)"
abbrev pub id_reply : ℕ → Active → List ℕ
id_reply byte a = opening ++ (0x00 ∷ byte ∷ valid_byte a ∷ bytes_of 4 a.id.0)

-- the request of a command byte with its body; buffers, state and body are judged by then
unfoldable pub request_step : Bool → ℕ → List ℕ → Request → Held → Outcome Replied
request_step good byte body GetId h = outcome 0 (record { held = h; reply = id_reply byte h.slot.active })
request_step good byte body (Prepare total) h = within silently (prepare_lent total h)
request_step good byte body Update h = within silently (update_lent body h)
request_step good byte body Activate h = within silently (activate_lent good h)

-- ---- the response, from the reply once

-- what a command finds and leaves: a slot with its buffers, the response buffer, and how many bytes of it were written
pub record Served : Type 0 where
  pub held : Held
  pub response : List ℕ
  pub written : ℕ

abbrev pub served : Slot → List ℕ → List ℕ → List ℕ → ℕ → Served
served s pending active response written = record { held = held s pending active; response = response; written = written }

-- "Bytes after the tenth stay"; "The other three write no response; the answer says length 0"
abbrev pub responded : List ℕ → Replied → Served
responded response r = record { held = r.held; response = pasted response 0 r.reply; written = length r.reply }

-- the request with its response
abbrev pub served_step : Bool → ℕ → List ℕ → Request → Served → Outcome Served
served_step good byte body request b = within (responded b.response) (request_step good byte body request b.held)

-- what a request's answer says, with the buffers at exit; refused, it hands no slot back, and the caller's stands
abbrev pub performed : Result Performed Refusal → Slot → List ℕ → List ℕ → List ℕ → Outcome Served
performed (Ok done) before pending active response = outcome 0 (served done.slot pending active response done.written)
performed (Err why) before pending active response = outcome (refusal_number why) (served before pending active response 0)
