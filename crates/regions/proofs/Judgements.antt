-- Runs that have no bad region, and document 01's judgement.
use Prim.Native.Nat.{ℕ, zero, suc, ◌<◌, ◌≤◌, ◌+◌, ◌*◌}
use mathlib.Core.Path.{◌≡◌, refl, sym, ap, ◌∙◌}
use mathlib.Core.Bool.{Bool, false, ◌||◌, or-false, or_assoc}
use mathlib.Core.List.{List}
use mathlib.Core.Logic.{⊎_elim}
use native.Mathlib.Omega.{arith}
use native.Mathlib.Nat.{eq-or-lt_of_le, add-zero, zero-add}
use native.Mathlib.Numerals.{add-one}
use Rattle.std.specs.List.{list_any, range_with_len}
use borrow.Author.Tests.{ltb-true, ltb-false}
use Rattle.laws.proofs.Tests.{or_no, or_left}
use Rattle.regions.specs.declared.region.Region.{Region}
use Rattle.regions.specs.Region.{region_length, region_at, RunsOfSound, any_region, start_above_end, end_is_last}
use Rattle.regions.specs.Meaning.{EndIsLastMeans}

module _ (bad : Region → Bool) (l : List ℕ) where
  -- a run is good exactly where each of its regions is
  pub each_good : (n i : ℕ) → any_region bad l n ≡ false → i < n → bad (region_at l (region_length * i)) ≡ false
  unfolding any_region
  each_good zero i e h = absurd (let z : i < 0 = h in omega arith)
  each_good (suc n) i e h =
      let p = or_no (any_region bad l n) (bad (region_at l (region_length * n))) e in
      let last : i ≤ n = omega arith in
      ⊎_elim
      (λ (q : i ≡ n). ap (λ (k : ℕ). bad (region_at l (region_length * k))) q ∙ p.1)
      (λ (q : i < n). each_good n i p.0 q)
      (eq-or-lt_of_le last)

  pub all_good : (n : ℕ) → ((i : ℕ) → i < n → bad (region_at l (region_length * i)) ≡ false) → any_region bad l n ≡ false
  unfolding any_region
  all_good zero h = refl
  all_good (suc n) h =
      or_left (bad (region_at l (region_length * n))) (all_good n (λ i k. let next : i < suc n = omega arith in h i next)) ∙ (let last : n < suc n = omega arith in h n last)

  -- the regions from number a on are looked at in turn
  from : (n a : ℕ) → any_region bad l (a + n) ≡ (any_region bad l a || list_any (λ i. bad (region_at l (region_length * i))) (range_with_len a n))
  unfolding any_region
  from zero a = rw (add-zero a, or-false)
  from (suc n) a =
      let rest : Bool = list_any (λ i. bad (region_at l (region_length * i))) (range_with_len (a + 1) n) in
      let e : a + suc n ≡ a + 1 + n = omega arith in
      ap (any_region bad l) e
      ∙ from n (a + 1)
      ∙ ap (λ (k : ℕ). any_region bad l k || rest) (add-one a)
      ∙ or_assoc (any_region bad l a) (bad (region_at l (region_length * a))) rest

  pub in_turn : (n : ℕ) → list_any (λ i. bad (region_at l (region_length * i))) (range_with_len 0 n) ≡ any_region bad l n
  unfolding any_region
  in_turn n = sym (from n 0) ∙ ap (any_region bad l) (zero-add n)

-- ---- document 01's

pub end_is_last_law : RunsOfSound end_is_last
end_is_last_law = record { each = each_good start_above_end }

pub end_is_last_means : EndIsLastMeans
end_is_last_means =
    record {
      bad = λ r e. ltb-true r.end r.start e;
      good = λ r e. ltb-false r.end r.start e;
      each = each_good start_above_end;
      run = all_good start_above_end;
    }
