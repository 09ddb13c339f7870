-- Over a list of calls the reader gives back what the updates brought.
use Rattle.std.proofs.Common.{◌≡◌, ℕ, ◌-◌, List, [], ◌∷◌, ◌++◌, length, take, sym, refl, ap, ◌∙◌, subst, take_at}
use Rattle.refusal.specs.Rules.{accepted◌then◌else◌}
use Rattle.refusal.proofs.Laws.{accepted_yes}
use Rattle.octets.specs.Octets.{zeros}
use Rattle.octets.proofs.Buffers.{length_zeros, take_pasted}
use Rattle.slot_state.specs.State.{buffer_length, total_of, received_of}
use Rattle.slot_state.proofs.Accepted.{payload_accepted}
use Rattle.manifest_slot.specs.declared.Role.{Role}
use Rattle.manifest_slot.specs.Slot.{unsound, fresh, Held, held}
use Rattle.manifest_slot.specs.Calls.{open_step, manifest_of, read_step}
use Rattle.manifest_slot.specs.Sequences.{Call, prepare, update, activate, step, after_all, Brought, brings, brought_by, Sound}
use Rattle.manifest_slot.proofs.States.{advanced_received}
use Rattle.manifest_slot.proofs.Accepted.{sound_accepted, update_accepted}
use Rattle.manifest_slot.proofs.Steps.{number_for, does, step_both}
use Rattle.manifest_slot.proofs.Stays.{update_fits, activate_whole, activate_fills, accepted_sound}

-- the reader gives back what the updates brought
pub record Reads (h : Held) (b : Brought) : Type 0 where
  pub sound : Sound h
  pub active : manifest_of Role.Active h ≡ b.active
  pub pending : manifest_of Role.Pending h ≡ b.pending

accepted_reads : (c : Call) (h : Held) (b : Brought) → Reads h b → number_for c h ≡ 0 → Reads (does c h) (brings c b)
accepted_reads (prepare total) h b r e = record { sound = accepted_sound (prepare total) h r.sound e; active = r.active; pending = refl }
accepted_reads (update payload) h b r e =
    let k = payload_accepted h.slot.transfer (length payload) (update_accepted h payload e).1 in
    let n : ℕ = received_of h.slot.transfer in
    record {
      sound = accepted_sound (update payload) h r.sound e;
      active = r.active;
      pending = ap (λ (m : ℕ). take m (does (update payload) h).pending) (advanced_received h.slot.transfer (length payload) k.1)
          ∙ take_pasted h.pending n payload (update_fits h payload r.sound e)
          ∙ ap (λ (l : List ℕ). l ++ payload) r.pending;
    }
accepted_reads (activate good) h b r e =
    let n : ℕ = total_of h.slot.transfer in
    let w = activate_whole h good r.sound e in
    record {
      sound = accepted_sound (activate good) h r.sound e;
      active = ap (take n) (activate_fills h r.sound w.2)
          ∙ take_at (take n h.pending) (zeros (buffer_length - length (take n h.pending))) n w.2
          ∙ ap (λ (m : ℕ). take m h.pending) (sym w.0)
          ∙ r.pending;
      pending = refl;
    }

pub all_read : (cs : List Call) (h : Held) (b : Brought) → Reads h b → Reads (after_all cs h) (brought_by cs h b)
unfolding after_all brought_by
all_read [] h b r = r
all_read (c ∷ cs) h b r = all_read cs (step c h).after (accepted (step c h).number then brings c b else b) (step_both Reads c h b r (accepted_reads c h b r))

pub opened_reads : (magic : ℕ) (before : Held) → (open_step magic before).number ≡ 0 → Reads (open_step magic before).after (record { pending = []; active = [] })
unfolding open_step unsound
opened_reads magic before e =
    subst (λ (h : Held). Reads h (record { pending = []; active = [] })) (sym (accepted_yes opening before e))
    (record {
      sound = record { pending = length_zeros buffer_length; active = length_zeros buffer_length; slot = refl };
      active = refl;
      pending = refl;
    })
  where
    opening : Held
    opening = held (fresh magic) (zeros buffer_length) (zeros buffer_length)

pub reads_part : (h : Held) (role : Role) → Sound h → (read_step role h).after ≡ manifest_of role h
unfolding read_step
reads_part h role s = accepted_yes (manifest_of role h) [] (sound_accepted h s)
