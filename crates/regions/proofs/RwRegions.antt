-- An R/W region: what its writer wrote, its reader reads back; what its reader accepts, its writer writes again.
use Prim.Native.Nat.{ℕ, ◌/◌, ◌%◌, ◌^◌}
use mathlib.Core.Path.{◌≡◌, refl, sym, ap, ◌∙◌}
use mathlib.Core.Bool.{Bool, false}
use mathlib.Core.List.{List, [], ◌∷◌}
use native.Mathlib.Omega.{arith}
use borrow.Author.Tests.{le-ltb}
use lib.ListN.{length, get_or}
use Rattle.laws.proofs.Tests.{any_no, no_any, or_no, or_left, equal_no, no_equal}
use Rattle.octets.specs.Octets.{Bytes}
use Rattle.refusal.specs.Steps.{outcome, reply}
use Rattle.regions.specs.declared.rw_region.RwRegion.{RwRegion}
use Rattle.regions.specs.Region.{region_at, Addresses, Judgement}
use Rattle.regions.specs.RwRegion.{operation_number, bad_operation, rw_region_length, RwFields, rw_fields_of, rw_region_fields, rw_region_faults, rw_region_number, rw_fields_malformed, rw_region_bytes, rw_region_write_step}
use Rattle.element_parts.proofs.Verdicts.{read_yes, read_accepted, write_accepted, write_after, write_done}
use Rattle.element_parts.proofs.Heads.{four_and_rest}
use Rattle.regions.proofs.Operations.{operation_small, operation_injective}
use Rattle.regions.proofs.Regions.{region_behind, region_rest}

-- ---- an element that the reader accepts

record RwElement (j : Judgement) (b : List ℕ) : Type 0 where
  pub long : length b ≡ rw_region_length
  pub high : get_or b 0 0 / 2 ^ 2 ≡ 0
  pub zero1 : get_or b 1 0 ≡ 0
  pub zero2 : get_or b 2 0 ≡ 0
  pub zero3 : get_or b 3 0 ≡ 0
  pub sound : j.bad_region (region_at b 4) ≡ false

module _ (j : Judgement) where
  rw_element : (b : List ℕ) → rw_region_number j b ≡ 0 → RwElement j b
  unfolding rw_region_number
  rw_element b e =
      let p = any_no (rw_region_faults j b) (read_accepted _ e) in
      record {
        long = no_equal _ _ p.0;
        high = no_equal _ _ p.1.0;
        zero1 = no_equal _ _ p.1.1.0;
        zero2 = no_equal _ _ p.1.1.1.0;
        zero3 = no_equal _ _ p.1.1.1.1.0;
        sound = p.1.1.1.1.1.0;
      }

  rw_accepted : (b : List ℕ) → RwElement j b → rw_region_number j b ≡ 0
  unfolding rw_region_number
  rw_accepted b k =
      read_yes (no_any (rw_region_faults j b) (equal_no k.long, (equal_no k.high, (equal_no k.zero1, (equal_no k.zero2, (equal_no k.zero3, (k.sound, tt)))))))

  -- ---- the round trips

  pub rw_back : (r : RwRegion) (buffer : List ℕ) → Addresses r.region
      → let w = rw_region_write_step j (rw_fields_of r) buffer in
      w.number ≡ 0 → reply (rw_region_number j w.after) (rw_region_fields w.after) ≡ reply 0 (rw_fields_of r)
  rw_back r buffer f e =
      let n : ℕ = operation_number r.operation in
      let small = operation_small r.operation in
      let bytes : List ℕ = rw_region_bytes (rw_fields_of r) in
      let malformed : Bool = rw_fields_malformed j (rw_fields_of r) in
      let high : n / 2 ^ 2 ≡ 0 = omega (arith, small) in
      let low : n % 2 ^ 2 ≡ n = omega (arith, small) in
      let at : region_at bytes 4 ≡ r.region = region_behind (n ∷ 0 ∷ 0 ∷ 0 ∷ []) r.region f in
      let sound = (or_no (bad_operation n) (j.bad_region r.region) (write_accepted malformed bytes buffer e).0).1 in
      let yes = rw_accepted bytes (record { long = refl; high = high; zero1 = refl; zero2 = refl; zero3 = refl; sound = ap j.bad_region at ∙ sound }) in
      ap (λ (b : List ℕ). reply (rw_region_number j b) (rw_region_fields b)) (write_after malformed bytes buffer e)
      ∙ (λ i. reply (yes i) (record { operation = low i; region = at i }))

  pub rw_again : (b buffer : List ℕ) → Bytes b → rw_region_number j b ≡ 0 → length buffer ≡ length b → rw_region_write_step j (rw_region_fields b) buffer ≡ outcome 0 b
  rw_again b buffer y e l =
      let k = rw_element b e in
      let low : get_or b 0 0 % 2 ^ 2 ≡ get_or b 0 0 = omega (arith, k.high) in
      let few : bad_operation (get_or b 0 0 % 2 ^ 2) ≡ false = le-ltb 3 (get_or b 0 0 % 2 ^ 2) (omega arith) in
      let rest = region_rest b 4 y k.long in
      let same : rw_region_bytes (rw_region_fields b) ≡ b =
      (λ i. low i ∷ sym k.zero1 i ∷ sym k.zero2 i ∷ sym k.zero3 i ∷ rest i) ∙ sym (four_and_rest b (omega (arith, k.long))) in
      write_done (rw_fields_malformed j (rw_region_fields b)) (rw_region_bytes (rw_region_fields b)) buffer (or_left (j.bad_region (region_at b 4)) few ∙ k.sound) (l ∙ k.long)
      ∙ ap (outcome 0) same

pub rw_same : (r s : RwRegion) → rw_fields_of r ≡ rw_fields_of s → r ≡ s
rw_same r s e =
    let o = operation_injective r.operation s.operation (ap (λ (f : RwFields). f.operation) e) in
    λ i. record { operation = o i; region = (e i).region }
