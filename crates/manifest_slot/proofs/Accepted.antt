-- What the number 0 of a call says of its slot, its buffers and what it was given.
use Rattle.std.proofs.Common.{◌≡◌, ℕ, ◌≤◌, Bool, false, eqb, List, length, arith, eq-eqb}
use Rattle.refusal.specs.Rules.{◌when◌else◌}
use Rattle.refusal.proofs.Laws.{when_accepted, first_accepted}
use Rattle.slot_state.specs.State.{buffer_length, shortest, outside, wrong_buffers, incomplete, received_of}
use Rattle.slot_state.specs.Rules.{prepare_rule, update_rule}
use Rattle.slot_state.proofs.States.{right_buffers, active_bound, transfer_bounds}
use Rattle.manifest_slot.specs.Slot.{unsound, Held}
use Rattle.manifest_slot.specs.Calls.{lent_number, prepare_number, update_number, bad_header, stale, pending_rule, signature_rule, activate_rule, activate_number}
use Rattle.manifest_slot.specs.Sequences.{Sound}
use Rattle.manifest_slot.proofs.States.{sound_parts}

module _ (h : Held) where
  pub lent_accepted : lent_number h ≡ 0 → Sound h
  unfolding lent_number
  lent_accepted e =
      let p = when_accepted 3 (wrong_buffers h.pending h.active) (4 when unsound h.slot else 0) (omega arith) e in
      let q = when_accepted 4 (unsound h.slot) 0 (omega arith) p.1 in
      let w = right_buffers h.pending h.active p.0 in
      record { pending = w.0; active = w.1; slot = q.0 }

  pub sound_accepted : Sound h → lent_number h ≡ 0
  unfolding lent_number
  sound_accepted s = rw (eq-eqb _ _ s.pending, eq-eqb _ _ s.active, s.slot)

  -- what the reader and activate take of a buffer is there
  pub lent_fits : lent_number h ≡ 0 → (received_of h.slot.transfer ≤ length h.pending) × (h.slot.active.length ≤ length h.active)
  lent_fits e =
      let s = lent_accepted e in
      let p = sound_parts h.slot s.slot in
      let t = transfer_bounds h.slot.transfer p.1 in
      (omega (arith, s.pending), omega (arith, s.active, active_bound h.slot.active p.0))

  pub prepare_accepted : (total : ℕ) → prepare_number total h ≡ 0 → (lent_number h ≡ 0) × (outside shortest buffer_length total ≡ false)
  unfolding prepare_number prepare_rule
  prepare_accepted total e =
      let p = first_accepted (lent_number h) (prepare_rule total) e in
      (p.0, (when_accepted 5 (outside shortest buffer_length total) 0 (omega arith) p.1).0)

  pub update_accepted : (payload : List ℕ) → update_number payload h ≡ 0 → (lent_number h ≡ 0) × (update_rule h.slot.transfer (length payload) ≡ 0)
  unfolding update_number
  update_accepted payload e =
      let own : ℕ = update_rule h.slot.transfer (length payload) in
      let p = first_accepted (lent_number h) (2 when eqb (length payload) 0 else own) e in
      (p.0, (when_accepted 2 (eqb (length payload) 0) own (omega arith) p.1).1)

  pub activate_accepted : (good : Bool) → activate_number good h ≡ 0
      → (lent_number h ≡ 0) × (incomplete h.slot.transfer ≡ false) × (stale h.slot h.pending ≡ false)
  unfolding activate_number activate_rule pending_rule
  activate_accepted good e =
      let newer : ℕ = 9 when stale h.slot h.pending else 0 in
      let headed : ℕ = 8 when bad_header h.slot h.pending else newer in
      let p = first_accepted (lent_number h) (activate_rule good h.slot h.pending) e in
      let own = (first_accepted (pending_rule h.slot h.pending) (signature_rule good) p.1).0 in
      let q = when_accepted 6 (incomplete h.slot.transfer) headed (omega arith) own in
      let r = when_accepted 8 (bad_header h.slot h.pending) newer (omega arith) q.1 in
      (p.0, q.0, (when_accepted 9 (stale h.slot h.pending) 0 (omega arith) r.1).0)
