-- What a test that is made of others says of them.
use Prim.Native.Nat.{ℕ}
use mathlib.Core.Path.{◌≡◌, refl, sym, ap}
use mathlib.Core.Bool.{Bool, true, false, not, ◌&&◌, ◌||◌, false≢true, true≢false}
use mathlib.Core.List.{List, [], ◌∷◌}
use mathlib.Core.Logic.{◌⊎◌, inl, inr}
use borrow.Author.Tests.{eq-eqb, eqb-true, not-false}
use lib.Dec.{eqb}
use mir.Val.{bool_byte}
use Rattle.laws.specs.Tests.{any, bit_of}

pub and_yes : (a b : Bool) → (a && b) ≡ true → (a ≡ true) × (b ≡ true)
and_yes true b e = (refl, e)
and_yes false b e = absurd (false≢true e)

pub and_both : {a b : Bool} → a ≡ true → b ≡ true → (a && b) ≡ true
and_both p q = rw (p, q)

pub and_left : {a : Bool} (b : Bool) → a ≡ false → (a && b) ≡ false
and_left b p = rw p

pub and_right : {a : Bool} (b : Bool) → a ≡ true → (a && b) ≡ b
and_right b p = rw p

pub and_no : (a b : Bool) → (a && b) ≡ false → (a ≡ false) ⊎ (b ≡ false)
and_no true b e = inr e
and_no false b e = inl refl

pub or_no : (a b : Bool) → (a || b) ≡ false → (a ≡ false) × (b ≡ false)
or_no true b e = absurd (true≢false e)
or_no false b e = (refl, e)

-- a test that can't hold, before another, and one that does
pub or_left : {a : Bool} (b : Bool) → a ≡ false → (a || b) ≡ b
or_left b e = rw e

pub or_yes : {a : Bool} (b : Bool) → a ≡ true → (a || b) ≡ true
or_yes b e = rw e

-- a second test that matters only where the first doesn't hold
pub or_same : (a b c : Bool) → (a ≡ false → b ≡ c) → (a || b) ≡ (a || c)
or_same true b c h = refl
or_same false b c h = h refl

-- a test that can't hold
pub is_no : (b : Bool) → (b ≡ true → ⊥) → b ≡ false
is_no true h = absurd (h refl)
is_no false h = refl

-- two tests that hold together
pub both_ways : (a b : Bool) → (a ≡ true → b ≡ true) → (b ≡ true → a ≡ true) → a ≡ b
both_ways true b f g = sym (f refl)
both_ways false b f g = sym (is_no b (λ e. false≢true (g e)))

-- `any` of a list of tests is false exactly where each of them is
abbrev pub None : List Bool → Type 0
None [] = Unit {0}
None (t ∷ ts) = (t ≡ false) × None ts

pub any_no : (ts : List Bool) → any ts ≡ false → None ts
any_no [] e = tt
any_no (t ∷ []) e = (e, tt)
any_no (t ∷ (u ∷ ts)) e = let p = or_no t (any (u ∷ ts)) e in (p.0, any_no (u ∷ ts) p.1)

pub no_any : (ts : List Bool) → None ts → any ts ≡ false
no_any [] p = refl
no_any (t ∷ []) p = p.0
no_any (t ∷ (u ∷ ts)) p = rw p.0 (no_any (u ∷ ts) p.1)

-- a test for another number, where the two are equal
pub equal_no : {a b : ℕ} → a ≡ b → not (eqb a b) ≡ false
equal_no {a} {b} h = ap not (eq-eqb a b h)

pub no_equal : (a b : ℕ) → not (eqb a b) ≡ false → a ≡ b
no_equal a b h = eqb-true a b (not-false (eqb a b) h)

-- a yes or no, as code casts it to a byte
pub bit_byte : (t : Bool) → bool_byte t ≡ bit_of t
bit_byte true = refl
bit_byte false = refl
