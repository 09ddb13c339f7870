-- What stands behind pointers after a call that hands values back: a refused call writes to none.
use Rattle.std.specs.Prelude.{ℕ, List, Result, Ok, Err, length}
use Rattle.refusal.specs.declared.Refusal.{Refusal}
use Rattle.refusal.specs.Refusals.{refusal_number}
use Rattle.refusal.specs.Steps.{Outcome, outcome, decided, Reply, given}

-- an answer whose value stands behind one pointer
abbrev pub told : {A : Type 0} → Result A Refusal → A → Outcome A
told (Ok x) before = outcome 0 x
told (Err why) before = outcome (refusal_number why) before

-- what is shown of the value replied, in the place of what stood there before
abbrev pub shown : {A B : Type 0} → Reply A → (A → B) → B → Outcome B
shown r show before = given r before (λ x. outcome 0 (show x))

-- the length of a part, by which C is told it
abbrev pub length_shown : Outcome (List ℕ) → ℕ → Outcome ℕ
length_shown o before = decided o.number before (length o.after)
