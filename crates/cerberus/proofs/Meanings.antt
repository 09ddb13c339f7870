-- The refusals' meaning: the laws of specs/Laws.antt.
use Prim.Native.Nat.{ℕ, zero, suc, ◌+◌}
use mathlib.Core.Path.{◌≡◌, refl, sym, ap, ◌∙◌}
use mathlib.Core.List.{List, [], ◌∷◌}
use native.Mathlib.Omega.{arith}
use Rattle.std.specs.Prelude.{Result, Ok, Err, slice_get}
use Rattle.std.specs.Option.{ok_or}
use Rattle.refusal.specs.declared.Refusal.{Refusal}
use Rattle.refusal.specs.declared.NoRefusal.{NoRefusal}
use Rattle.refusal.specs.Refusals.{refusal_number, refusals, refusal_of}
use Rattle.refusal.proofs.Laws.{good_row}
use Rattle.cerberus.specs.Laws.{MeaningLaws}

-- the numbers of these refusals rise by one from k on
abbrev Rising : ℕ → List Refusal → Type 0
Rising k [] = Unit {0}
Rising k (r ∷ rs) = (refusal_number r ≡ k) × Rising (suc k) rs

abbrev number_or : ℕ → Result Refusal NoRefusal → ℕ
number_or k (Ok r) = refusal_number r
number_or k (Err none) = k

in_order : (k : ℕ) (rs : List Refusal) (n : ℕ) (none : NoRefusal) → Rising k rs → number_or (k + n) (ok_or (slice_get rs n) none) ≡ k + n
in_order k [] n none r = refl
in_order k (x ∷ rs) zero none r = r.0 ∙ omega arith
in_order k (x ∷ rs) (suc n) none r =
    let next : suc k + n ≡ k + suc n = omega arith in
    ap (λ (m : ℕ). number_or m (ok_or (slice_get rs n) none)) (sym next) ∙ in_order (suc k) rs n none r.1 ∙ next

others : (n : ℕ) (why : Refusal) → refusal_of n ≡ Ok why → refusal_number why ≡ n
unfolding refusal_of
others zero why e = ap (number_or 0) (sym e)
others (suc n) why e =
    let next : 1 + n ≡ suc n = omega arith in
    ap (number_or (1 + n)) (sym e)
    ∙ in_order 1 refusals n (record { 0 = suc n }) (refl, (refl, (refl, (refl, (refl, (refl, (refl, (refl, (refl, (refl, (refl, (refl, tt))))))))))))
    ∙ next

pub meaning_laws : MeaningLaws
meaning_laws = record { named = λ why. (good_row why).back; others = others; fits = λ why. (good_row why).fits }
