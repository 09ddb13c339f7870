-- Runs of items, over the item's width: of regions, and of hashes of each type.
use Prim.Native.Nat.{ℕ, zero, suc, ◌≤◌, ◌<◌, ◌+◌, ◌*◌, ◌/◌, ◌%◌}
use mathlib.Core.Path.{◌≡◌, refl, sym, ap, subst, ◌∙◌}
use mathlib.Core.Bool.{Bool, true, false}
use mathlib.Core.List.{List, []}
use mathlib.Core.Logic.{◌⊎◌, inl, inr}
use native.Mathlib.Omega.{arith}
use native.Mathlib.Nat.{mul-le-mul_left, mul-suc, mul-div_right, mul-mod_right, lt-mul-div-succ, div-add-mod, add-zero, zero-lt-suc}
use borrow.Author.Tests.{ne_eqb, eqb-false, le-ltb, ltb-false, lt-leb, leb-true, leb-false}
use lib.Dec.{leb, lit<}
use lib.ListN.{length, take, drop, length-drop, drop_of_length-le}
use lib.Seq.{length-take-le, take-nil, drop-nil}
use Rattle.laws.proofs.Tests.{any_no, no_any, equal_no, no_equal}
use Rattle.refusal.specs.Rules.{◌when◌else◌}
use Rattle.refusal.proofs.Laws.{first_yes, when_no, first_accepted, when_accepted}
use Rattle.element_parts.specs.Parts.{read_number, shown_part, item, item_number, item_count, item_faults, bad_items}

-- past the last item
pub item_past : (w : ℕ) (l : List ℕ) (i : ℕ) → item_count w l < i → [] ≡ item w l i
item_past zero l i h = refl
item_past (suc w) l i h =
    let next : length l / suc w + 1 ≤ i = omega arith in
    let end : length l ≤ suc w * i = omega (arith, lt-mul-div-succ (length l) {b = suc w} (zero-lt-suc w), mul-le-mul_left (suc w) next) in
    sym (ap (take (suc w)) (drop_of_length-le l {i = suc w * i} end) ∙ take-nil (suc w))

-- each of n items has its w bytes, and there is no other
pub item_length : (w n : ℕ) (l : List ℕ) (i : ℕ) → length l ≡ w * n → i < n → length (item w l i) ≡ w
item_length w n l i e h =
    let next : suc i ≤ n = h in
    let room : w * i + w ≤ w * n = subst (λ (k : ℕ). k ≤ w * n) (mul-suc w i) (mul-le-mul_left w next) in
    length-take-le w (drop (w * i) l) (omega (arith, length-drop (w * i) l))

pub item_none : (w n : ℕ) (l : List ℕ) (i : ℕ) → length l ≡ w * n → n ≤ i → item w l i ≡ []
item_none w n l i e h = ap (take w) (drop_of_length-le l {i = w * i} (omega (arith, mul-le-mul_left w h))) ∙ take-nil w

-- ---- an item by its number

-- it is there in a sound element that has so many, and in no other
pub item_there : {number n i : ℕ} → number ≡ 0 → i < n → item_number number n i ≡ 0
item_there {n = n} {i = i} e h = first_yes _ e ∙ when_no 12 0 (lt-leb n i h)

pub item_accepted : (number n i : ℕ) → item_number number n i ≡ 0 → (number ≡ 0) × (i < n)
item_accepted number n i e =
    let k = first_accepted number _ e in
    let low = (when_accepted 12 (leb n i) 0 (lit< tt) k.1).0 in
    (k.0, leb-false n i low)

-- by the judgement m of the element, it is there, or it is 12
pub item_cases : (m : Bool) (n i : ℕ)
    → ((item_number (read_number m) n i ≡ 0) × (read_number m ≡ 0) × (i < n)) ⊎ ((item_number (read_number m) n i ≡ 12) × (read_number m ≡ 0 → i < n → ⊥))
item_cases true n i = inr (refl, λ e h. let z : ◌≡◌ {A = ℕ} 12 0 = e in omega arith)
item_cases false n i = tested (leb n i) refl
  where
    tested : (t : Bool) → leb n i ≡ t → (((12 when t else 0) ≡ 0) × (read_number false ≡ 0) × (i < n)) ⊎ (((12 when t else 0) ≡ 12) × (read_number false ≡ 0 → i < n → ⊥))
    tested true e = inr (refl, λ z h. omega (arith, leb-true n i e))
    tested false e = inl (refl, refl, leb-false n i e)

-- of the part of n items that a reader shows, the item is shown by its own number
pub item_shown : (w n : ℕ) (part : List ℕ) (i number : ℕ) → (number ≡ 0 → length part ≡ w * n)
    → item w (shown_part number part) i ≡ shown_part (item_number number n i) (item w part i)
item_shown w n part i (suc k) e = ap (take w) (drop-nil (w * i)) ∙ take-nil w
item_shown w n part i zero e = tested (leb n i) refl
  where
    tested : (t : Bool) → leb n i ≡ t → item w part i ≡ shown_part (12 when t else 0) (item w part i)
    tested true f = item_none w n part i (e refl) (leb-true n i f)
    tested false f = refl

-- ---- runs and their counts

-- n items of w bytes
pub counted : (w n : ℕ) (l : List ℕ) → 0 < w → length l ≡ w * n → item_count w l ≡ n
counted w n l p e = ap (λ (k : ℕ). k / w) e ∙ mul-div_right n p

-- ---- a run that a writer takes

-- a whole number of items, which is not 0 and which a byte can say
pub record GoodItems (w : ℕ) (l : List ℕ) : Type 0 where
  pub whole : length l ≡ w * item_count w l
  pub some : item_count w l ≡ 0 → ⊥
  pub few : item_count w l ≤ 255

pub good_items : (w : ℕ) (l : List ℕ) → bad_items w l ≡ false → GoodItems w l
good_items w l e =
    let p = any_no (item_faults w l) e in
    let whole : w * (length l / w) + 0 ≡ length l = ap (λ (k : ℕ). w * (length l / w) + k) (sym (no_equal (length l % w) 0 p.0)) ∙ div-add-mod (length l) w in
    record { whole = sym (sym (add-zero (w * (length l / w))) ∙ whole); some = eqb-false (item_count w l) 0 p.1.0; few = ltb-false 255 (item_count w l) p.1.1.0 }

pub items_good : (w : ℕ) (l : List ℕ) → GoodItems w l → bad_items w l ≡ false
items_good w l g =
    no_any (item_faults w l)
    (equal_no (ap (λ (k : ℕ). k % w) g.whole ∙ mul-mod_right w (item_count w l)), (ne_eqb (item_count w l) 0 g.some, (le-ltb 255 (item_count w l) g.few, tt)))

-- n items of w bytes, where n is a byte that is not 0
pub items_of : (w n : ℕ) (l : List ℕ) → 0 < w → length l ≡ w * n → (n ≡ 0 → ⊥) → n < 256 → GoodItems w l
items_of w n l p e some few =
    let c : item_count w l ≡ n = counted w n l p e in
    record { whole = e ∙ ap (λ (k : ℕ). w * k) (sym c); some = λ z. some (sym c ∙ z); few = omega (arith, c) }
