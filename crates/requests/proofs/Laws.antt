-- What holds of every request with its response, and what Get PCD Id's response says.
use Prim.Native.Nat.{ℕ, ◌^◌, ◌≤◌, ◌<◌}
use mathlib.Core.Path.{◌≡◌, refl, ap, sym, ◌∙◌}
use mathlib.Core.Bool.{Bool}
use mathlib.Core.List.{List, [], ◌∷◌, ◌++◌}
use native.Mathlib.Omega.{arith}
use lib.ListN.{length, take, drop}
use Rattle.octets.specs.Octets.{number_at, bytes_of, pasted}
use Rattle.octets.proofs.Numbers.{number_append, read_written}
use Rattle.octets.proofs.Buffers.{pasted_fits, pasted_none, pasted_behind}
use Rattle.refusal.specs.Steps.{Keeps}
use Rattle.refusal.proofs.Steps.{keeps_decided, keeps_within}
use Rattle.slot_state.specs.declared.Active.{Active}
use Rattle.manifest_slot.specs.Slot.{Held}
use Rattle.manifest_slot.specs.Calls.{prepare_lent, update_lent, activate_lent}
use Rattle.message_header.specs.Header.{header_length, lookup, offered, foreign, unoffered_kind, command_of, command_byte}
use Rattle.command_bodies.specs.declared.Request.{Request}
use Rattle.command_bodies.specs.declared.Request.TheVariants.{GetId, Prepare, Update, Activate}
use Rattle.requests.specs.Requests.{silently, valid_byte, id_reply, request_step, Served, responded, served_step}

-- ---- a refused request leaves its slot and its buffers, and no reply

request_keeps : (good : Bool) (byte : ℕ) (body : List ℕ) (r : Request) (h : Held) → Keeps (silently h) (request_step good byte body r h)
unfolding request_step prepare_lent update_lent activate_lent
request_keeps good byte body GetId h = λ p. absurd (omega (arith, p))
request_keeps good byte body (Prepare total) h = keeps_within silently (keeps_decided _ h _)
request_keeps good byte body Update h = keeps_within silently (keeps_decided _ h _)
request_keeps good byte body Activate h = keeps_within silently (keeps_decided _ h _)

-- what stands after a request without a reply, where nothing else changed
unchanged : (b : Served) → b.written ≡ 0 → responded b.response (silently b.held) ≡ b
unchanged b e = λ i. record { held = b.held; response = pasted_none b.response i; written = sym e i }

pub keeps_served : (good : Bool) (byte : ℕ) (body : List ℕ) (r : Request) (b : Served) → b.written ≡ 0 → Keeps b (served_step good byte body r b)
keeps_served good byte body r b e h = ap (responded b.response) (request_keeps good byte body r b.held h) ∙ unchanged b e

-- ---- the response

-- none where nothing was written
pub served_silent : (good : Bool) (byte : ℕ) (body : List ℕ) (r : Request) (b : Served) → (served_step good byte body r b).after.written ≡ 0
    → (served_step good byte body r b).after.response ≡ b.response
unfolding request_step
served_silent good byte body GetId b e = absurd (omega arith)
served_silent good byte body (Prepare total) b e = pasted_none b.response
served_silent good byte body Update b e = pasted_none b.response
served_silent good byte body Activate b e = pasted_none b.response

-- the bytes behind a reply stay
abbrev Behind : ℕ → Active → List ℕ → List ℕ → Type 0
Behind byte a before later = drop (length (id_reply byte a)) later ≡ drop (length (id_reply byte a)) before

pub served_behind : (good : Bool) (byte : ℕ) (body : List ℕ) (r : Request) (b : Served)
    → Behind byte b.held.slot.active b.response (served_step good byte body r b).after.response
unfolding request_step
served_behind good byte body GetId b = pasted_behind b.response (id_reply byte b.held.slot.active)
served_behind good byte body (Prepare total) b = ap (drop (length (id_reply byte b.held.slot.active))) (pasted_none b.response)
served_behind good byte body Update b = ap (drop (length (id_reply byte b.held.slot.active))) (pasted_none b.response)
served_behind good byte body Activate b = ap (drop (length (id_reply byte b.held.slot.active))) (pasted_none b.response)

-- ---- what Get PCD Id writes: read as a header, it names the command of its byte, and its version id reads back

id_named : (byte : ℕ) (a : Active) (tail : List ℕ) → command_of (take header_length (id_reply byte a ++ tail)) ≡ lookup offered byte
unfolding command_of foreign unoffered_kind
id_named byte a tail = refl

id_version : (byte : ℕ) (a : Active) (tail : List ℕ) → a.id.0 < 2 ^ 32 → number_at 4 (id_reply byte a ++ tail) 6 ≡ a.id.0
id_version byte a tail h =
    number_append 4 (0x7e ∷ 0x14 ∷ 0x14 ∷ 0x00 ∷ byte ∷ valid_byte a ∷ []) (bytes_of 4 a.id.0 ++ tail) 0 ∙ read_written 4 a.id.0 tail h

abbrev pub IdSaid : ℕ → Active → List ℕ → Type 0
IdSaid byte a response =
    (command_of (take header_length response) ≡ lookup offered byte)
    × (command_byte response ≡ byte)
    × (number_at 4 response 6 ≡ a.id.0)

-- the response of a request that wrote one, where there was room for it
pub served_id : (good : Bool) (byte : ℕ) (body : List ℕ) (r : Request) (b : Served) → b.held.slot.active.id.0 < 2 ^ 32
    → length (id_reply byte b.held.slot.active) ≤ length b.response
    → 0 < (served_step good byte body r b).after.written
    → IdSaid byte b.held.slot.active (served_step good byte body r b).after.response
unfolding request_step
served_id good byte body GetId b small room wrote =
    let a = b.held.slot.active in
    let tail = drop (length (id_reply byte a)) b.response in
    let full : pasted b.response 0 (id_reply byte a) ≡ id_reply byte a ++ tail = pasted_fits b.response 0 (id_reply byte a) room in (
      ap (λ (l : List ℕ). command_of (take header_length l)) full ∙ id_named byte a tail,
      ap command_byte full,
      ap (λ (l : List ℕ). number_at 4 l 6) full ∙ id_version byte a tail small,
    )
served_id good byte body (Prepare total) b small room wrote = absurd (omega (arith, wrote))
served_id good byte body Update b small room wrote = absurd (omega (arith, wrote))
served_id good byte body Activate b small room wrote = absurd (omega (arith, wrote))
