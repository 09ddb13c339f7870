-- The claims of specs/Claims.antt.
use Prim.Native.Nat.{ℕ, zero, suc, ◌^◌, ◌≤◌, ◌<◌}
use mathlib.Core.Path.{◌≡◌, refl, sym, subst, ◌∙◌}
use mathlib.Core.Bool.{Bool}
use mathlib.Core.List.{List, [], ◌∷◌}
use native.Mathlib.Omega.{arith}
use borrow.Author.Tests.{ltb-false}
use lib.Dec.{ltb}
use lib.ListN.{length, take, drop}
use Rattle.laws.proofs.Tests.{or_no}
use Rattle.octets.specs.Octets.{number_at}
use Rattle.refusal.specs.Rules.{accepted◌then◌else◌}
use Rattle.refusal.specs.Steps.{Outcome, outcome, Reply, refused_by, continued, given, Keeps}
use Rattle.refusal.proofs.Laws.{when_accepted}
use Rattle.refusal.proofs.Steps.{keeps_accepted, keeps_given}
use Rattle.slot_state.specs.State.{wrong_buffers}
use Rattle.message_header.specs.declared.Command.{Command}
use Rattle.message_header.specs.Header.{header_length, lookup, offered, flags_number, command_of, command_byte, body_of}
use Rattle.command_bodies.specs.declared.Request.{Request}
use Rattle.command_bodies.specs.Bodies.{request_of}
use Rattle.requests.specs.Requests.{Served, served_step}
use Rattle.requests.proofs.Laws.{keeps_served, served_silent, served_behind, served_id}
use Rattle.commands.specs.Commands.{response_length, ready_number, command_step}
use Rattle.commands.specs.Claims.{CommandClaims}

-- ---- a refused command changes nothing

kept : (good : Bool) (message : List ℕ) (b : Served) → b.written ≡ 0 → Keeps b (command_step good message b)
unfolding command_step
kept good message b e =
    keeps_accepted (ready_number b) b _
    (keeps_given (command_of message) b _ (λ c.
    keeps_given (request_of c (body_of message)) b _ (λ r.
    keeps_served good (command_byte message) (body_of message) r b e)))

-- ---- what holds of a command's outcome, where it holds of a refusal and of each request

module _ (P : Outcome Served → Type 0) (b : Served) (refusals : (n : ℕ) → P (outcome n b)) where
  by_reply : {A : Type 0} (r : Reply A) (next : A → Outcome Served) → ((x : A) → P (next x)) → P (given r b next)
  by_reply {A = A} r next h = go r.values
    where
      go : (xs : List A) → P (continued r.number xs b next)
      go [] = refusals r.number
      go (x ∷ xs) = h x

  by_number : (n : ℕ) (o : Outcome Served) → P o → P (accepted n then o else outcome n b)
  by_number zero o p = p
  by_number (suc n) o p = refusals (suc n)

  by_request : (good : Bool) (message : List ℕ) → ((r : Request) → P (served_step good (command_byte message) (body_of message) r b)) → P (command_step good message b)
  unfolding command_step
  by_request good message h =
      by_number (ready_number b) _
      (by_reply (command_of message) _ (λ c. by_reply (request_of c (body_of message)) _ h))

-- ---- the response

abbrev Silent : Served → Outcome Served → Type 0
Silent b o = o.after.written ≡ 0 → o.after.response ≡ b.response

silent : (good : Bool) (message : List ℕ) (b : Served) → Silent b (command_step good message b)
silent good message b = by_request (Silent b) b (λ n e. refl) good message (λ r. served_silent good (command_byte message) (body_of message) r b)

abbrev Behind : Served → Outcome Served → Type 0
Behind b o = drop response_length o.after.response ≡ drop response_length b.response

rest : (good : Bool) (message : List ℕ) (b : Served) → Behind b (command_step good message b)
rest good message b = by_request (Behind b) b (λ n. refl) good message (λ r. served_behind good (command_byte message) (body_of message) r b)

-- ---- what Get PCD Id writes

-- ready buffers have room for it
room : (b : Served) → ready_number b ≡ 0 → response_length ≤ length b.response
unfolding ready_number
room b e =
    ltb-false (length b.response) response_length
    (or_no (wrong_buffers b.held.pending b.held.active) (ltb (length b.response) response_length) (when_accepted 3 _ _ (omega arith) e).0).1

-- a header's flags refuse, or its command byte decides
named : (message : List ℕ) → flags_number message ≡ 0 → command_of message ≡ lookup offered (command_byte message)
unfolding command_of
named message e = rw e

unnamed : (message : List ℕ) {n : ℕ} → flags_number message ≡ suc n → command_of message ≡ refused_by (suc n)
unfolding command_of
unnamed message e = rw e

module _ (good : Bool) (message : List ℕ) (b : Served) (small : b.held.slot.active.id.0 < 2 ^ 32) (none : b.written ≡ 0) where
  abbrev Answers : Outcome Served → Type 0
  Answers o =
      o.after.written ≡ response_length
      → (command_of (take header_length o.after.response) ≡ command_of message)
      × (command_byte o.after.response ≡ command_byte message)
      × (number_at 4 o.after.response 6 ≡ b.held.slot.active.id.0)

  unwritten : (n : ℕ) → Answers (outcome n b)
  unwritten n wrote = absurd (omega (arith, none, wrote))

  module _ (ready : ready_number b ≡ 0) (ours : command_of message ≡ lookup offered (command_byte message)) where
    each : (r : Request) → Answers (served_step good (command_byte message) (body_of message) r b)
    each r wrote =
        let id = served_id good (command_byte message) (body_of message) r b small (room b ready) (omega (arith, wrote)) in
        (id.0 ∙ sym ours, id.1, id.2)

  answers : Answers (command_step good message b)
  unfolding command_step
  answers = by_ready (ready_number b) refl
    where
      next : Command → Outcome Served
      next c = given (request_of c (body_of message)) b (λ r. served_step good (command_byte message) (body_of message) r b)

      by_flags : ready_number b ≡ 0 → (n : ℕ) → flags_number message ≡ n → Answers (given (command_of message) b next)
      by_flags ready zero e =
          let ours : command_of message ≡ lookup offered (command_byte message) = named message e in
          by_reply Answers b unwritten (command_of message) next (λ c. by_reply Answers b unwritten (request_of c (body_of message)) _ (each ready ours))
      by_flags ready (suc n) e = subst (λ (r : Reply Command). Answers (given r b next)) (sym (unnamed message e)) (unwritten (suc n))

      by_ready : (n : ℕ) → ready_number b ≡ n → Answers (accepted n then given (command_of message) b next else outcome n b)
      by_ready zero e = by_flags e (flags_number message) refl
      by_ready (suc n) e = unwritten (suc n)

pub command_claims : CommandClaims
command_claims = record { kept = kept; answers = answers; rest = rest; silent = silent }
