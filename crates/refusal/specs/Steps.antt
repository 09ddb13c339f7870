-- What a call answers and leaves, once for any record of what it may change. "Each returns its number and nothing else; the state handed back is the state
-- handed in, and every buffer keeps its bytes" (document 01, "Numbers that say no") is one law about these definitions: `Keeps`.
use Rattle.std.specs.Prelude.{ℕ, ◌<◌, ◌≡◌, List, [], ◌∷◌, Result, Ok, Err}
use Rattle.refusal.specs.declared.Refusal.{Refusal}
use Rattle.refusal.specs.Refusals.{refusal_number}
use Rattle.refusal.specs.Rules.{accepted◌then◌else◌}

-- ---- a call that may change something

-- a call's number, and what stands after it
pub record Outcome (A : Type 0) : Type 0 where
  pub number : ℕ
  pub after : A

abbrev pub outcome : {A : Type 0} → ℕ → A → Outcome A
outcome number after = record { number = number; after = after }

-- the number decides: an accepted call leaves `done`, a refused one what stood before it
abbrev pub decided : {A : Type 0} → ℕ → A → A → Outcome A
decided number before done = outcome number (accepted number then done else before)

-- the same call, as a change of a larger record
abbrev pub within : {A B : Type 0} → (A → B) → Outcome A → Outcome B
within place o = outcome o.number (place o.after)

-- a refused call leaves what stood before it
abbrev pub Keeps : {A : Type 0} → A → Outcome A → Type 0
Keeps before o = 0 < o.number → o.after ≡ before

-- ---- a call that hands back a value only where it accepts

-- its number, and the value, none beside a refusal
pub record Reply (A : Type 0) : Type 0 where
  pub number : ℕ
  pub values : List A

-- x where the number is 0
abbrev pub reply : {A : Type 0} → ℕ → A → Reply A
reply n x = record { number = n; values = accepted n then (x ∷ []) else [] }

-- no value, for that number
abbrev pub refused_by : {A : Type 0} → ℕ → Reply A
refused_by n = record { number = n; values = [] }

-- what a `Result` says, by what is seen of its value
abbrev pub reply_by : {A B : Type 0} → (A → B) → Result A Refusal → Reply B
reply_by view (Ok x) = record { number = 0; values = view x ∷ [] }
reply_by view (Err why) = refused_by (refusal_number why)

-- the same, where all of its value is seen
abbrev pub reply_of : {A : Type 0} → Result A Refusal → Reply A
reply_of = reply_by (λ x. x)

-- the first of the values decides how it goes on; without one, what stood before is left
abbrev pub continued : {A B : Type 0} → ℕ → List A → B → (A → Outcome B) → Outcome B
continued number [] before next = outcome number before
continued number (x ∷ xs) before next = next x

-- `given r before next`: the value replied decides how it goes on
abbrev pub given : {A B : Type 0} → Reply A → B → (A → Outcome B) → Outcome B
given r before next = continued r.number r.values before next
