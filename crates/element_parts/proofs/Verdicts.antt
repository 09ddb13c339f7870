-- What a reader's judgement says of its number, and a writer's of its step: once for all elements.
use Prim.Native.Nat.{ℕ}
use mathlib.Core.Path.{◌≡◌, refl, sym, ap}
use mathlib.Core.Bool.{Bool, true, false, not}
use mathlib.Core.List.{List}
use native.Mathlib.Omega.{arith}
use borrow.Author.Tests.{ne_eqb}
use lib.Dec.{eqb, lit<}
use lib.ListN.{length}
use Rattle.laws.proofs.Tests.{equal_no, no_equal}
use Rattle.refusal.specs.Steps.{outcome}
use Rattle.refusal.proofs.Laws.{when_accepted, accepted_yes}
use Rattle.refusal.proofs.Steps.{decided_yes}
use Rattle.element_parts.specs.Parts.{read_number, write_number, write_step}

-- ---- a reader that judges m, and has the number n

pub read_yes : {m : Bool} → m ≡ false → read_number m ≡ 0
read_yes e = ap read_number e

pub read_accepted : (m : Bool) → read_number m ≡ 0 → m ≡ false
read_accepted m e = (when_accepted 12 m 0 (lit< tt) e).0

pub read_refused : (m : Bool) → read_number m ≡ 12 → m ≡ true
read_refused true e = refl
read_refused false e = absurd (let z : ◌≡◌ {A = ℕ} 0 12 = e in omega arith)

-- ---- a writer

pub write_yes : {m : Bool} {n k : ℕ} → m ≡ false → k ≡ n → write_number m n k ≡ 0
write_yes {n = n} {k = k} e f = rw (e, equal_no f)

-- sound fields, and a buffer of another length
pub write_wrong_buffer : {m : Bool} {n k : ℕ} → m ≡ false → (k ≡ n → ⊥) → write_number m n k ≡ 3
write_wrong_buffer {n = n} {k = k} e f = rw (e, ne_eqb k n f)

-- only sound fields have a length
pub length_if_sound : (m : Bool) (n k buffer : ℕ) → (m ≡ false → n ≡ k) → write_number m n buffer ≡ write_number m k buffer
length_if_sound true n k buffer f = refl
length_if_sound false n k buffer f = ap (λ (l : ℕ). write_number false l buffer) (f refl)

-- fields that break a rule
pub write_malformed : {m : Bool} (bytes buffer : List ℕ) → m ≡ true → outcome 12 buffer ≡ write_step m bytes buffer
write_malformed bytes buffer e = rw e

module _ (m : Bool) (bytes buffer : List ℕ) where
  -- an accepted writer's fields are sound, and its buffer has the element's length
  pub write_accepted : (write_step m bytes buffer).number ≡ 0 → (m ≡ false) × (length buffer ≡ length bytes)
  write_accepted e =
      let p = when_accepted 12 m _ (lit< tt) e in
      let q = when_accepted 3 (not (eqb (length buffer) (length bytes))) 0 (lit< tt) p.1 in
      (p.0, no_equal (length buffer) (length bytes) q.0)

  -- it leaves the element's bytes
  pub write_after : (write_step m bytes buffer).number ≡ 0 → (write_step m bytes buffer).after ≡ bytes
  write_after e = accepted_yes bytes buffer e

  pub write_done : m ≡ false → length buffer ≡ length bytes → write_step m bytes buffer ≡ outcome 0 bytes
  write_done e l = sym (decided_yes buffer bytes (write_yes e l))
