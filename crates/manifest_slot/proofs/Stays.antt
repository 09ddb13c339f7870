-- What stays with each call: a sound slot, its magic number, and the active manifest, which only an accepted activate changes, for a higher id.
use Rattle.std.proofs.Common.{◌≡◌, ℕ, ◌+◌, ◌<◌, ◌≤◌, Bool, false, not, eqb, ltb, leb, List, length, take, sym, refl, ap, ◌∙◌, subst, ⊎_elim, arith, length-take-le, le-ltb, eqb-true, leb-false}
use borrow.Author.Tests.{not-false}
use Rattle.laws.proofs.Tests.{and_no}
use Rattle.octets.specs.Octets.{padded}
use Rattle.octets.proofs.Buffers.{length_padded, length_pasted, replaced_fits}
use Rattle.manifest_header.specs.Header.{version_id}
use Rattle.slot_state.specs.State.{buffer_length, shortest, total_of, received_of}
use Rattle.slot_state.proofs.States.{inside, inside_active, transfer_bounds, complete}
use Rattle.slot_state.proofs.Accepted.{payload_accepted}
use Rattle.manifest_slot.specs.Slot.{advanced, Held}
use Rattle.manifest_slot.specs.Calls.{update_number, activate_number, activated}
use Rattle.manifest_slot.specs.Sequences.{Call, prepare, update, activate, step, Sound}
use Rattle.manifest_slot.proofs.States.{sound_parts, parts_sound, advanced_sound, advanced_received}
use Rattle.manifest_slot.proofs.Accepted.{lent_accepted, prepare_accepted, update_accepted, activate_accepted}
use Rattle.manifest_slot.proofs.Steps.{number_for, does, step_number, step_done, step_alone}

-- ---- a sound slot stays sound

-- the payload of an accepted update fits behind the bytes received
pub update_fits : (h : Held) (payload : List ℕ) → Sound h → update_number payload h ≡ 0
    → received_of h.slot.transfer + length payload ≤ length h.pending
update_fits h payload s e =
    let n : ℕ = length payload in
    let k = payload_accepted h.slot.transfer n (update_accepted h payload e).1 in
    let t = advanced_sound h.slot.transfer n (sound_parts h.slot s.slot).1 k.0 in
    omega (arith, s.pending, advanced_received h.slot.transfer n k.1, transfer_bounds (advanced h.slot.transfer n) t)

-- what an accepted activate makes active is whole, and a manifest may have its length
pub activate_whole : (h : Held) (good : Bool) → Sound h → activate_number good h ≡ 0
    → (received_of h.slot.transfer ≡ total_of h.slot.transfer) × (shortest ≤ total_of h.slot.transfer) × (length (take (total_of h.slot.transfer) h.pending) ≡ total_of h.slot.transfer)
activate_whole h good s e =
    let t = (sound_parts h.slot s.slot).1 in
    let w = complete h.slot.transfer t (activate_accepted h good e).1 in
    let l = inside shortest buffer_length (total_of h.slot.transfer) w.1 in
    (w.0, l.0, length-take-le (total_of h.slot.transfer) h.pending (omega (arith, s.pending, l)))

-- it and then zeros fill the active buffer
pub activate_fills : (h : Held) → Sound h → length (take (total_of h.slot.transfer) h.pending) ≡ total_of h.slot.transfer
    → (activated h).active ≡ padded buffer_length (take (total_of h.slot.transfer) h.pending)
activate_fills h s l =
    let n : ℕ = total_of h.slot.transfer in
    let room = (transfer_bounds h.slot.transfer (sound_parts h.slot s.slot).1).1 in
    replaced_fits h.active (take n h.pending) (omega (arith, l, room, s.active)) ∙ ap (λ (k : ℕ). padded k (take n h.pending)) s.active

pub accepted_sound : (c : Call) (h : Held) → Sound h → number_for c h ≡ 0 → Sound (does c h)
accepted_sound (prepare total) h s e =
    let k = prepare_accepted h total e in
    let none : ltb total 0 ≡ false = le-ltb total 0 (omega arith) in
    record {
      pending = s.pending;
      active = s.active;
      slot = parts_sound (does (prepare total) h).slot (sound_parts h.slot s.slot).0 (rw (k.1, none));
    }
accepted_sound (update payload) h s e =
    let k = payload_accepted h.slot.transfer (length payload) (update_accepted h payload e).1 in
    let p = sound_parts h.slot s.slot in
    record {
      pending = length_pasted h.pending (received_of h.slot.transfer) payload (update_fits h payload s e) ∙ s.pending;
      active = s.active;
      slot = parts_sound (does (update payload) h).slot p.0 (advanced_sound h.slot.transfer (length payload) p.1 k.0);
    }
accepted_sound (activate good) h s e =
    let d = does (activate good) h in
    let n : ℕ = total_of h.slot.transfer in
    let w = complete h.slot.transfer (sound_parts h.slot s.slot).1 (activate_accepted h good e).1 in
    let l = (activate_whole h good s e).2 in
    record {
      pending = s.pending;
      active = ap length (activate_fills h s l) ∙ length_padded buffer_length (take n h.pending) (omega (arith, l, inside shortest buffer_length n w.1));
      slot = parts_sound d.slot (inside_active d.slot.active w.1) refl;
    }

pub stays : (c : Call) (h : Held) → Sound h → Sound (step c h).after
stays c h s = step_alone Sound c h s (accepted_sound c h s)

-- ---- the magic number stays

pub magic : (c : Call) (h : Held) → (step c h).after.slot.magic ≡ h.slot.magic
magic c h = step_alone (λ k. k.slot.magic ≡ h.slot.magic) c h refl (λ e. does_magic c)
  where
    does_magic : (c : Call) → (does c h).slot.magic ≡ h.slot.magic
    does_magic (prepare total) = refl
    does_magic (update payload) = refl
    does_magic (activate good) = refl

-- ---- the active manifest

-- the id that an accepted activate finds is above that of the manifest that is active
activate_above : (good : Bool) (h : Held) → (h.slot.active.length ≡ 0 → ⊥) → activate_number good h ≡ 0
    → h.slot.active.id.0 < version_id h.pending
activate_above good h some e =
    let id : ℕ = h.slot.active.id.0 in
    ⊎_elim
    (λ (n : not (eqb h.slot.active.length 0) ≡ false). absurd (some (eqb-true h.slot.active.length 0 (not-false _ n))))
    (λ (n : leb (version_id h.pending) id ≡ false). leb-false (version_id h.pending) id n)
    (and_no (not (eqb h.slot.active.length 0)) (leb (version_id h.pending) id) (activate_accepted h good e).2)

pub above : (good : Bool) (h : Held) → (h.slot.active.length ≡ 0 → ⊥) → (step (activate good) h).number ≡ 0
    → h.slot.active.id.0 < (step (activate good) h).after.slot.active.id.0
above good h some e = subst (λ (k : Held). h.slot.active.id.0 < k.slot.active.id.0) (sym (step_done (activate good) h e)) (activate_above good h some (sym (step_number (activate good) h) ∙ e))

-- a slot whose active id is at least that of h
abbrev pub Forward : Held → Held → Type 0
Forward h k = (k.slot.active.length ≡ 0 → ⊥) × (h.slot.active.id.0 ≤ k.slot.active.id.0)

accepted_forward : (c : Call) (h : Held) → (h.slot.active.length ≡ 0 → ⊥) → number_for c h ≡ 0 → Forward h (does c h)
accepted_forward (prepare total) h some e = (some, omega arith)
accepted_forward (update payload) h some e = (some, omega arith)
accepted_forward (activate good) h some e =
    let s = lent_accepted h (activate_accepted h good e).0 in
    let w = activate_whole h good s e in
    ((λ z. omega (arith, z, w.1)), omega (arith, activate_above good h some e))

pub forward : (c : Call) (h : Held) → (h.slot.active.length ≡ 0 → ⊥) → Forward h (step c h).after
forward c h some = step_alone (Forward h) c h (some, omega arith) (accepted_forward c h some)

-- a slot with the active manifest of h
abbrev pub SameActive : Held → Held → Type 0
SameActive h k = (k.slot.active ≡ h.slot.active) × (k.active ≡ h.active)

pub alone : (c : Call) (h : Held) → ((good : Bool) → c ≡ activate good → (step c h).number ≡ 0 → ⊥) → SameActive h (step c h).after
alone c h other = step_alone (SameActive h) c h (refl, refl) (accepted_same c (λ good a e. other good a (step_number c h ∙ e)))
  where
    accepted_same : (c : Call) → ((good : Bool) → c ≡ activate good → number_for c h ≡ 0 → ⊥) → number_for c h ≡ 0 → SameActive h (does c h)
    accepted_same (prepare total) other e = (refl, refl)
    accepted_same (update payload) other e = (refl, refl)
    accepted_same (activate good) other e = absurd (other good refl e)
