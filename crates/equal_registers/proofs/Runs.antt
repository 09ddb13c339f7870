-- The accepted records of a run are the history that its state is of, and its buffer where nobody else wrote it.
use Prim.Native.Nat.{ℕ, zero, suc, ◌≤◌}
use mathlib.Core.Path.{◌≡◌, refl, sym, ap, ◌∙◌, subst}
use mathlib.Core.Bool.{not}
use mathlib.Core.List.{List, [], ◌∷◌}
use native.Mathlib.Omega.{arith}
use lib.ListN.{length}
use lib.Dec.{eqb}
use borrow.Author.Tests.{le-ltb}
use Rattle.refusal.specs.Rules.{accepted◌then◌else◌}
use Rattle.refusal.specs.Steps.{decided}
use Rattle.refusal.proofs.Laws.{when_accepted}
use Rattle.log_history.specs.History.{buffer_length, last_pmr, Event, IsHistory, fold_of, HasText}
use Rattle.log_text.specs.Texts.{bad_text_length, whole_history}
use Rattle.log_text.proofs.TextChecks.{text_whole}
use Rattle.attestation_log.specs.State.{State}
use Rattle.attestation_log.specs.Calls.{register_step}
use Rattle.log_claim.specs.Sequences.{Kind, reset, record_event, register_read, read_out, read_out_verdict, check, replay, Element, own, other, written, AllAllowed, observe, Configuration, next, after, Found, Response, same_history, found_number, found_history, history_number, history_bytes, history_next, history_step, response}
use Rattle.log_claim.proofs.Steps.{register_follows}
use Rattle.log_claim.proofs.Records.{holds_ends, read_ends}
use Rattle.log_claim.proofs.Sequences.{find_history, Holds, Observed, element_observed, start_observed}
use Rattle.equal_registers.specs.Runs.{Run, records_next, records_after, records_from, records_in, end_of, register_at_end, Untouched, text_at_end}

-- ---- one call

-- a text's history is the one that its entries name
found_history_law : (text : List ℕ) (f : Found text) → found_number f ≡ 0 → found_history f ≡ whole_history text
found_history_law text (yes w) e = sym (text_whole text w.0 w.1)
found_history_law text (no r) e = absurd (omega arith)

-- an accepted call leaves the records that the history says
next_history : (k : Kind) (h : List Event) → history_number find_history k h ≡ 0 → history_next find_history k h ≡ records_next k h
next_history reset h e = refl
next_history (record_event x) h e = refl
next_history (register_read pmr) h e = refl
next_history read_out h e = refl
next_history read_out_verdict h e = refl
next_history check h e = refl
next_history (replay text) h e = found_history_law text (find_history text) (when_accepted 2 (bad_text_length (length text)) _ (omega arith) e).1

-- the records x after an accepted call are the history in its response r
accepted_same : (n : ℕ) (x h : List Event) (r : Response) → (n ≡ 0 → x ≡ r.history) → (accepted n then x else h) ≡ (decided n (same_history h) r).after.history
accepted_same zero x h r f = f refl
accepted_same (suc n) x h r f = refl

-- a call that the history answers with the same number n leaves its records
answered : (k : Kind) (lent : ℕ) (h : List Event) (n : ℕ) → n ≡ (history_step find_history k lent h).number
    → (accepted n then records_next k h else h) ≡ (history_step find_history k lent h).after.history
unfolding history_step
answered k lent h n e =
    ap (λ (m : ℕ). accepted m then records_next k h else h) e
    ∙ accepted_same (history_step find_history k lent h).number (records_next k h) h (record { bytes = history_bytes find_history k h; history = history_next find_history k h })
    (λ q. sym (next_history k h (when_accepted 3 (not (eqb lent buffer_length)) (history_number find_history k h) (omega arith) q).1))

-- and one that leaves them, whatever it is answered with
left_alone : (n : ℕ) (h : List Event) → (accepted n then h else h) ≡ h
left_alone zero h = refl
left_alone (suc n) h = refl

module _ (f : Configuration) (h : List Event) where
  abbrev number : Element → ℕ
  number c = (observe c f.state f.buffer).number

  element_records : (c : Element) → Observed find_history c f h → records_after c (number c) h ≡ (response find_history c h).after.history
  unfolding response history_step
  element_records (own reset) o = answered reset buffer_length h _ (o.follows.answer refl).0
  element_records (own (record_event e)) o = answered (record_event e) buffer_length h _ (o.follows.answer refl).0
  element_records (own (register_read pmr)) o = answered (register_read pmr) buffer_length h _ (o.follows.answer refl).0
  element_records (own read_out) o = left_alone (number (own read_out)) h
  element_records (own read_out_verdict) o = left_alone (number (own read_out_verdict)) h
  element_records (own check) o = left_alone (number (own check)) h
  element_records (own (replay text)) o = answered (replay text) buffer_length h _ (o.follows.answer refl).0
  element_records (other k lent) o = answered k (length lent) h _ (o.follows.answer refl).0
  element_records (written b) o = refl

  pub records_cons : (c : Element) → Observed find_history c f h → (cs : List Element)
      → records_from h f (c ∷ cs) ≡ records_from (response find_history c h).after.history (next c f) cs
  unfolding records_from
  records_cons c o cs = ap (λ (g : List Event). records_from g (next c f) cs) (element_records c o)

-- ---- a run

records_hold : (cs : List Element) → AllAllowed cs → (f : Configuration) (h : List Event) → Holds f h → Holds (after f cs) (records_from h f cs)
unfolding after records_from
records_hold [] y f h w = w
records_hold (c ∷ cs) y f h w =
    let o = element_observed find_history c y.0 f h w in
    subst (Holds (after (next c f) cs)) (sym (records_cons f h c o cs))
    (records_hold cs y.1 (next c f) (response find_history c h).after.history o.holds)

module _ (r : Run) where
  run_holds : Holds (end_of r) (records_in r)
  unfolding records_in end_of after
  run_holds =
      let s = r.started in
      let o = start_observed find_history r.first s.begins s.allowed.0 r.from [] s.accepted in
      subst (Holds (after (next r.first r.from) r.rest)) (sym (records_cons r.from [] r.first o r.rest))
      (records_hold r.rest s.allowed.1 (next r.first r.from) (response find_history r.first []).after.history o.holds)

  -- its records are a history
  pub run_history : IsHistory (records_in r)
  run_history = run_holds.history

  -- the text that it reads out is theirs, where nobody else wrote the buffer
  pub run_text : Untouched r → HasText (text_at_end r) (records_in r)
  unfolding text_at_end
  run_text u = (run_history, sym (read_ends (end_of r) (records_in r) (holds_ends (end_of r) (records_in r) run_holds u)))

  -- and its register at the end is their fold, whatever the buffer holds
  pub run_register : (p : ℕ) → p ≤ last_pmr → register_at_end p r ≡ fold_of p (records_in r)
  unfolding register_at_end history_step
  run_register p low =
      ap (λ (s : State). (register_step p s (end_of r).buffer).after.bytes) run_holds.state
      ∙ ((register_follows find_history (records_in r) run_history (end_of r).buffer run_holds.long p).answer refl).1
      ∙ rw (le-ltb last_pmr p low)
