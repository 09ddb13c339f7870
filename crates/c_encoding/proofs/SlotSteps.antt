-- A slot's step in C, from that of the Rattle call: what is stored where it accepts, and that nothing is where it refuses.
use Prim.Native.Nat.{ℕ, zero, suc, ◌<◌, ◌≤◌}
use mathlib.Core.Path.{◌≡◌, ap, subst, ◌∙◌}
use mathlib.Core.List.{List}
use native.Mathlib.Omega.{arith}
use Rattle.refusal.specs.declared.Refusal.{Refusal}
use Rattle.std.specs.Prelude.{Result, Ok, Err, MatchResult, IsOkAnd}
use Rattle.refusal.specs.Refusals.{number_of}
use Rattle.refusal.specs.Steps.{Outcome, outcome, decided, Keeps}
use Rattle.refusal.proofs.Laws.{refusal_positive}
use Rattle.refusal.proofs.Steps.{decided_yes, decided_no, keeps_decided}
use Rattle.manifest_slot.specs.declared.Slot.{Slot}
use Rattle.manifest_slot.specs.Calls.{slot_outcome, open_step}
use Rattle.manifest_slot.specs.Slot.{Held, held}
use Rattle.c_encoding.specs.Answers.{told}
use Rattle.requests.specs.Requests.{Served, served}
use Rattle.c_encoding.specs.Messages.{CServed, c_served, served_in, served_step}
use Rattle.c_encoding.specs.Slots.{slot_of, numbers_of, CSlot, c_slot, held_in, kept_in, slot_step}

-- ---- a slot call

module _ (c : CSlot) {r : ℕ} {numbers pending active : List ℕ} {s : Slot} where
  stored_by : (n : ℕ) → (0 < n → held s pending active ≡ held_in c) → outcome r numbers ≡ decided n c.numbers (numbers_of s)
      → outcome r (c_slot numbers pending active) ≡ decided n c (c_slot (numbers_of s) pending active)
  stored_by zero keeps e = ap (λ (o : Outcome (List ℕ)). outcome o.number (c_slot o.after pending active)) e
  stored_by (suc n) keeps e =
      let h = keeps (omega arith) in
      ap (λ (o : Outcome (List ℕ)). outcome o.number (c_slot o.after pending active)) e
      ∙ (λ i. outcome (suc n) (c_slot c.numbers (h i).pending (h i).active))

  -- the call's answer, and the next slot as it is kept
  pub slot_stored : {n : ℕ} (step : Held → Outcome Held) → Keeps (held_in c) (step (held_in c)) → outcome n (held s pending active) ≡ step (held_in c)
      → outcome r numbers ≡ decided n c.numbers (numbers_of s) → outcome r (c_slot numbers pending active) ≡ slot_step step c
  slot_stored {n} step keeps is stored =
      let same : 0 < n → held s pending active ≡ held_in c =
      λ h. ap (λ (o : Outcome Held). o.after) is ∙ keeps (subst (λ (k : ℕ). 0 < k) (ap (λ (o : Outcome Held). o.number) is) h) in
      stored_by n same stored ∙ ap (λ (o : Outcome Held). decided o.number c (kept_in o.after)) is

-- ---- an opening, which is handed no slot

-- what it answers, whatever slot the caller has
abbrev Opens : CSlot → ℕ → Result Slot Refusal → List ℕ → List ℕ → Type 0
Opens c magic o pending active = (before : Slot) → slot_outcome o before pending active ≡ open_step magic (held before c.pending c.active)

open_keeps : (c : CSlot) (magic : ℕ) → Keeps (held_in c) (open_step magic (held_in c))
unfolding open_step
open_keeps c magic = keeps_decided _ (held_in c) _

-- its slot's numbers are told
pub opened_told : (c : CSlot) (magic : ℕ) (o : Result Slot Refusal) (m : Result (List ℕ) Refusal) {r : ℕ} {numbers pending active : List ℕ} → Opens c magic o pending active
    → MatchResult o (λ s. IsOkAnd m (λ n. n ≡ numbers_of s)) (λ why. m ≡ Err why) → outcome r numbers ≡ told m c.numbers
    → outcome r (c_slot numbers pending active) ≡ slot_step (open_step magic) c
opened_told c magic (Ok s) (Ok n) is e stored =
    slot_stored c (open_step magic) (open_keeps c magic) (is (slot_of c.numbers)) (stored ∙ ap (λ (l : List ℕ). outcome 0 l) e)
opened_told c magic (Ok s) (Err why) is e stored = absurd e
opened_told c magic (Err why) m is e stored =
    slot_stored c (open_step magic) (open_keeps c magic) (is (slot_of c.numbers))
    (stored ∙ ap (λ (x : Result (List ℕ) Refusal). told x c.numbers) e ∙ decided_no c.numbers (numbers_of (slot_of c.numbers)) (refusal_positive why))

-- ---- the command call

module _ {A : Type 0} (c : CServed) (step : Served → Outcome Served) (v : Result A Refusal) {s : Slot} {pending active response : List ℕ} {written : ℕ}
    (is : outcome (number_of v) (served s pending active response written) ≡ step (served_in c)) where
  whole : decided (number_of v) c (c_served (c_slot (numbers_of s) pending active) response written) ≡ served_step step c
  whole = ap (λ (o : Outcome Served). decided o.number c (c_served (kept_in o.after.held) o.after.response o.after.written)) is

  pub served_refused : {r : ℕ} → Keeps (served_in c) (step (served_in c)) → r ≡ number_of v → 0 < r
      → outcome r (c_served (c_slot c.slot.numbers pending active) response c.written) ≡ served_step step c
  served_refused {r} keeps e h =
      let refused : 0 < number_of v = subst (λ (k : ℕ). 0 < k) e h in
      let same : served s pending active response written ≡ served_in c =
      ap (λ (o : Outcome Served). o.after) is ∙ keeps (subst (λ (k : ℕ). 0 < k) (ap (λ (o : Outcome Served). o.number) is) refused) in
      (λ i. outcome (e i) (c_served (c_slot c.slot.numbers (same i).held.pending (same i).held.active) (same i).response c.written))
      ∙ decided_no c _ refused
      ∙ whole

  pub served_accepted : {r : ℕ} {numbers : List ℕ} → r ≡ number_of v → r ≤ 0 → numbers ≡ numbers_of s
      → outcome 0 (c_served (c_slot numbers pending active) response written) ≡ served_step step c
  served_accepted {r} e h n =
      let none : number_of v ≡ 0 = omega (arith, e, h) in
      (λ i. outcome 0 (c_served (c_slot (n i) pending active) response written))
      ∙ decided_yes c _ none
      ∙ whole
