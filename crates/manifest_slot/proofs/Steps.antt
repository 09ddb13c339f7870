-- What a call leaves, by its number: a refused one what it found, an accepted one what it does.
use Rattle.std.proofs.Common.{◌≡◌, ℕ, zero, suc, ◌<◌, [], sym, refl, ap, ◌∙◌, subst, arith}
use Rattle.refusal.specs.Rules.{accepted◌then◌else◌}
use Rattle.refusal.specs.Steps.{Outcome, decided, Keeps}
use Rattle.refusal.proofs.Laws.{accepted_yes, accepted_no}
use Rattle.refusal.proofs.Steps.{keeps_decided}
use Rattle.manifest_slot.specs.Slot.{Held}
use Rattle.manifest_slot.specs.Calls.{prepare_number, prepared, prepare_step, update_number, updated, update_step, activate_number, activated, activate_step}
use Rattle.manifest_slot.specs.Sequences.{Call, prepare, update, activate, step, Brought, brings}

-- the number of a call, and what an accepted one leaves
abbrev pub number_for : Call → Held → ℕ
number_for (prepare total) h = prepare_number total h
number_for (update payload) h = update_number payload h
number_for (activate good) h = activate_number good h

abbrev pub does : Call → Held → Held
does (prepare total) h = prepared total h
does (update payload) h = updated payload h
does (activate good) h = activated h

pub step_decided : (c : Call) (h : Held) → step c h ≡ decided (number_for c h) h (does c h)
unfolding prepare_step update_step activate_step
step_decided (prepare total) h = refl
step_decided (update payload) h = refl
step_decided (activate good) h = refl

pub step_number : (c : Call) (h : Held) → (step c h).number ≡ number_for c h
step_number c h = ap (λ (o : Outcome Held). o.number) (step_decided c h)

-- a refused call changes no state and no buffer
pub step_keeps : (c : Call) (h : Held) → Keeps h (step c h)
step_keeps c h = subst (Keeps h) (sym (step_decided c h)) (keeps_decided (number_for c h) h (does c h))

pub step_done : (c : Call) (h : Held) → (step c h).number ≡ 0 → (step c h).after ≡ does c h
step_done c h e = ap (λ (o : Outcome Held). o.after) (step_decided c h) ∙ accepted_yes (does c h) h (sym (step_number c h) ∙ e)

-- what holds before a call, and after what it does where it is accepted, holds after it: of the slot and of what the calls brought
pub step_both : (P : Held → Brought → Type 0) (c : Call) (h : Held) (b : Brought) → P h b → (number_for c h ≡ 0 → P (does c h) (brings c b))
    → P (step c h).after (accepted (step c h).number then brings c b else b)
step_both P c h b p f = go (step c h).number refl
  where
    go : (n : ℕ) → (step c h).number ≡ n → P (step c h).after (accepted (step c h).number then brings c b else b)
    go zero e =
        subst (λ (x : Held × Brought). P x.0 x.1) (λ i. (sym (step_done c h e) i, sym (accepted_yes (brings c b) b e) i))
        (f (sym (step_number c h) ∙ e))
    go (suc n) e =
        let r : 0 < (step c h).number = omega (arith, e) in
        subst (λ (x : Held × Brought). P x.0 x.1) (λ i. (sym (step_keeps c h r) i, sym (accepted_no (brings c b) b r) i)) p

-- of the slot alone
pub step_alone : (P : Held → Type 0) (c : Call) (h : Held) → P h → (number_for c h ≡ 0 → P (does c h)) → P (step c h).after
step_alone P c h = step_both (λ k b. P k) c h (record { pending = []; active = [] })
