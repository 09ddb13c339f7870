-- The laws of steps, once for any record.
use Prim.Native.Nat.{ℕ, zero, suc, ◌<◌}
use mathlib.Core.Path.{◌≡◌, refl, sym, ap, ◌∙◌}
use mathlib.Core.List.{List, [], ◌∷◌}
use native.Mathlib.Omega.{arith}
use Rattle.refusal.specs.declared.Refusal.{Refusal}
use Rattle.std.specs.Prelude.{Result, Ok, Err}
use Rattle.refusal.specs.Refusals.{refusal_number, number_of}
use Rattle.refusal.specs.Rules.{first◌then◌, accepted◌then◌else◌}
use Rattle.refusal.specs.Steps.{Outcome, outcome, decided, within, Keeps, Reply, reply, refused_by, reply_of, continued, given}
use Rattle.refusal.proofs.Laws.{refusal_positive, accepted_no, first_yes, first_no, says_no, says_yes}

module _ {A : Type 0} where
  -- ---- by the number

  pub decided_yes : {n : ℕ} (before done : A) → n ≡ 0 → outcome 0 done ≡ decided n before done
  decided_yes before done e = rw e

  pub decided_no : {n : ℕ} (before done : A) → 0 < n → outcome n before ≡ decided n before done
  decided_no {n = n} before done h = λ i. outcome n (sym (accepted_no {n = n} done before h) i)

  -- rules that are asked before others
  pub decided_first : (n m : ℕ) (before done : A) → (accepted n then decided m before done else outcome n before) ≡ decided (first n then m) before done
  decided_first zero m before done = refl
  decided_first (suc n) m before done = refl

  -- ---- by the answer of a function, which has the step's number

  pub decided_refused : {X : Type 0} {v : Result X Refusal} {n : ℕ} {why : Refusal} (before done : A) → number_of v ≡ n → v ≡ Err why → outcome (number_of v) before ≡ decided n before done
  decided_refused before done e f = (λ i. outcome (e i) before) ∙ decided_no before done (says_no e f)

  pub decided_accepted : {X : Type 0} {v : Result X Refusal} {x : X} {n : ℕ} {left : A} (before done : A) → number_of v ≡ n → v ≡ Ok x → left ≡ done
      → outcome (number_of v) left ≡ decided n before done
  decided_accepted before done e f is = (λ i. outcome (ap number_of f i) (is i)) ∙ decided_yes before done (says_yes e f)

  -- the same, where the refusal's number is told, or 0
  pub told_refused : {X : Type 0} {v : Result X Refusal} {why : Refusal} {n r : ℕ} (before done : A) → number_of v ≡ n → v ≡ Err why → r ≡ refusal_number why
      → outcome r before ≡ decided n before done
  told_refused before done e f g = (λ i. outcome ((g ∙ ap number_of (sym f)) i) before) ∙ decided_refused before done e f

  pub told_accepted : {X : Type 0} {v : Result X Refusal} {x : X} {n : ℕ} {left : A} (before done : A) → number_of v ≡ n → v ≡ Ok x → left ≡ done → outcome 0 left ≡ decided n before done
  told_accepted before done e f is = (λ i. outcome 0 (is i)) ∙ decided_yes before done (says_yes e f)

  -- the first rules refuse, or accept and others decide
  pub first_refused : {X : Type 0} {v : Result X Refusal} {n : ℕ} {why : Refusal} (m : ℕ) (before done : A) → number_of v ≡ n → v ≡ Err why
      → outcome (number_of v) before ≡ decided (first n then m) before done
  first_refused m before done e f = decided_refused before done (e ∙ sym (first_no m (says_no e f))) f

  pub first_passed : {X : Type 0} {v : Result X Refusal} {x : X} {n m : ℕ} {o : Outcome A} (before done : A) → number_of v ≡ n → v ≡ Ok x → o ≡ decided m before done
      → o ≡ decided (first n then m) before done
  first_passed before done e f is = is ∙ ap (λ (k : ℕ). decided k before done) (sym (first_yes _ (says_yes e f)))

  -- ---- "the state handed back is the state handed in": each way to put a call together keeps

  pub keeps_decided : (n : ℕ) (before done : A) → Keeps before (decided n before done)
  keeps_decided n before done h = accepted_no {n = n} done before h

  pub keeps_accepted : (n : ℕ) (before : A) (o : Outcome A) → Keeps before o → Keeps before (accepted n then o else outcome n before)
  keeps_accepted zero before o k h = k h
  keeps_accepted (suc n) before o k h = refl

  pub keeps_within : {B : Type 0} (place : B → A) {before : B} {o : Outcome B} → Keeps before o → Keeps (place before) (within place o)
  keeps_within place k h = ap place (k h)

  pub keeps_given : {B : Type 0} (r : Reply B) (before : A) (next : B → Outcome A) → ((x : B) → Keeps before (next x)) → Keeps before (given r before next)
  keeps_given {B = B} r before next k = go r.values
    where
      go : (xs : List B) → Keeps before (continued r.number xs before next)
      go [] h = refl
      go (x ∷ xs) h = k x h

  -- ---- replies

  pub reply_yes : {n : ℕ} (x : A) → n ≡ 0 → ◌≡◌ {A = Reply A} (record { number = 0; values = x ∷ [] }) (reply n x)
  reply_yes x e = rw e

  pub reply_no : {n : ℕ} (x : A) → 0 < n → refused_by n ≡ reply n x
  reply_no {n = n} x h = λ i. record { number = n; values = sym (accepted_no {n = n} (x ∷ []) [] h) i }

  -- what a `Result` is whose reply is known
  pub reply_taken : {r : Result A Refusal} {n : ℕ} {x : A} → reply_of r ≡ reply n x → n ≡ 0 → r ≡ Ok x
  reply_taken {r = Ok y} {x = x} e h = ap Ok (ap first_value (ap (λ (p : Reply A). p.values) e ∙ ap (λ (p : Reply A). p.values) (sym (reply_yes x h))))
    where
      first_value : List A → A
      first_value [] = x
      first_value (v ∷ vs) = v
  reply_taken {r = Err why} e h = absurd (omega (arith, refusal_positive why, ap (λ (p : Reply A). p.number) e))

  -- and what is known of the reply by the `Result`
  pub reply_number : (r : Result A Refusal) {n : ℕ} (x : A) → reply_of r ≡ reply n x → number_of r ≡ n
  reply_number (Ok y) x e = ap (λ (p : Reply A). p.number) e
  reply_number (Err why) x e = ap (λ (p : Reply A). p.number) e

  pub reply_value : (r : Result A Refusal) {n : ℕ} {x y : A} → reply_of r ≡ reply n x → r ≡ Ok y → y ≡ x
  reply_value r {x = x} {y = y} e f = ap (result_or y) (sym f ∙ reply_taken e (sym (reply_number r x e) ∙ ap number_of f))
    where
      result_or : A → Result A Refusal → A
      result_or z (Ok v) = v
      result_or z (Err w) = z

  -- what goes on from a reply
  pub given_yes : {B : Type 0} {n : ℕ} (x : B) (before : A) (next : B → Outcome A) → n ≡ 0 → given (reply n x) before next ≡ next x
  given_yes x before next e = rw e

  pub given_no : {B : Type 0} {n : ℕ} (x : B) (before : A) (next : B → Outcome A) → 0 < n → given (reply n x) before next ≡ outcome n before
  given_no {n = zero} x before next h = absurd (omega arith)
  given_no {n = suc n} x before next h = refl
