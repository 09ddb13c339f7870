-- Where buffers and state are accepted: the parts of the buffers that hold manifests are there, and opened buffers are zeros.
use Rattle.std.proofs.Common.{◌≡◌, ℕ, false, List, length, replicate, take, sym, ap, ◌∙◌, length-take-le}
use Rattle.std.specs.Prelude.{Result, Ok}
use Rattle.octets.specs.Octets.{zeros, pasted}
use Rattle.refusal.specs.declared.Refusal.{Refusal}
use Rattle.refusal.specs.Refusals.{number_of}
use Rattle.refusal.specs.Steps.{outcome}
use Rattle.refusal.proofs.Laws.{says_yes}
use Rattle.refusal.proofs.Steps.{decided_yes, decided_accepted}
use Rattle.slot_state.specs.declared.Transfer.{Transfer}
use Rattle.slot_state.specs.State.{buffer_length, received_of, too_long}
use Rattle.slot_state.specs.Rules.{open_number, update_rule}
use Rattle.slot_state.proofs.Accepted.{open_accepted, payload_accepted}
use Rattle.manifest_slot.specs.declared.Slot.{Slot}
use Rattle.manifest_slot.specs.Slot.{fresh, advanced, transferring, Held, held}
use Rattle.manifest_slot.specs.Calls.{open_step, lent_number, update_lent}
use Rattle.manifest_slot.proofs.Accepted.{lent_fits}

module _ (s : Slot) (pending active : List ℕ) (accepted : 0 ≡ lent_number (held s pending active)) where
  pub active_part : s.active.length ≡ length (take s.active.length active)
  active_part = sym (length-take-le s.active.length active (lent_fits (held s pending active) (sym accepted)).1)

  pub pending_part : received_of s.transfer ≡ length (take (received_of s.transfer) pending)
  pending_part = sym (length-take-le (received_of s.transfer) pending (lent_fits (held s pending active) (sym accepted)).0)

-- an opening's end, whatever slot there was before
pub open_done : (magic : ℕ) (before : Slot) (pending active : List ℕ) {s : Slot} {p a : List ℕ} → 0 ≡ open_number pending active
    → s ≡ fresh magic → p ≡ replicate (length pending) 0 → a ≡ replicate (length active) 0
    → outcome 0 (held s p a) ≡ open_step magic (held before pending active)
unfolding zeros open_step
open_done magic before pending active accepted f p a =
    let lengths = open_accepted pending active (sym accepted) in
    let zeroed = λ (n : ℕ). replicate n 0 in
    (λ i. outcome 0 (held (f i) ((p ∙ ap zeroed lengths.0) i) ((a ∙ ap zeroed lengths.1) i)))
    ∙ decided_yes (held before pending active) (held (fresh magic) (zeros buffer_length) (zeros buffer_length)) (sym accepted)

-- an update's end where its own rules accept: the transfer advances, and the payload stands behind the bytes received
pub update_done : {X : Type 0} (payload : List ℕ) (h : Held) {own : Result X Refusal} {x : X} {received : ℕ} {t : Transfer} {next : Slot} {pending : List ℕ}
    → number_of own ≡ update_rule h.slot.transfer (length payload) → own ≡ Ok x
    → received ≡ received_of h.slot.transfer → (too_long h.slot.transfer (length payload) ≡ false → t ≡ advanced h.slot.transfer (length payload))
    → next ≡ transferring h.slot t → pending ≡ pasted h.pending received payload
    → outcome (number_of own) (held next pending h.active) ≡ update_lent payload h
unfolding update_lent
update_done payload h e f r t s p =
    let few = (payload_accepted h.slot.transfer (length payload) (says_yes e f)).0 in
    let next = s ∙ ap (transferring h.slot) (t few) in
    let pending = p ∙ ap (λ (n : ℕ). pasted h.pending n payload) r in
    decided_accepted _ _ e f (λ i. held (next i) (pending i) h.active)
