-- A region: what its writer wrote, its reader reads back; what its reader accepts, its writer writes again.
use Prim.Native.Nat.{ℕ, ◌≤◌, ◌+◌, ◌*◌}
use mathlib.Core.Path.{◌≡◌, refl, sym, ap, ◌∙◌}
use mathlib.Core.Bool.{false}
use mathlib.Core.List.{List, [], ◌++◌, append-nil}
use native.Mathlib.Omega.{arith}
use native.Mathlib.Nat.{add_assoc, add-zero}
use lib.ListN.{length, take, drop, length-drop}
use lib.Seq.{take-add, take_all, drop-drop}
use Rattle.laws.proofs.Tests.{any_no, no_any, equal_no, no_equal}
use Rattle.octets.specs.Octets.{Bytes, number_at, bytes_of}
use Rattle.octets.proofs.Numbers.{number_append, number_drop, number_take, read_written, written_read}
use Rattle.refusal.specs.Steps.{outcome, reply}
use Rattle.regions.specs.declared.region.Region.{Region}
use Rattle.element_parts.specs.Parts.{item}
use Rattle.regions.specs.Region.{region_length, region_at, Addresses, Judgement, region_faults, region_number, region_bytes, region_write_step}
use Rattle.element_parts.proofs.Verdicts.{read_yes, read_accepted, write_accepted, write_after, write_done}

-- ---- a region in a list of bytes

-- region i of a run, read alone
pub region_item : (l : List ℕ) (i : ℕ) → region_at (item region_length l i) 0 ≡ region_at l (region_length * i)
region_item l i =
    let start = number_take 4 8 (drop (8 * i) l) 0 (omega arith) ∙ number_drop 4 (8 * i) l 0 ∙ ap (number_at 4 l) (add-zero (8 * i)) in
    let end = number_take 4 8 (drop (8 * i) l) 4 (omega arith) ∙ number_drop 4 (8 * i) l 4 in
    λ j. record { start = start j; end = end j }

-- the region behind p
pub region_behind : (p : List ℕ) (r : Region) → Addresses r → region_at (p ++ region_bytes r) (length p + 0) ≡ r
region_behind p r f =
    let b = region_bytes r in
    let start : number_at 4 (p ++ b) (length p + 0) ≡ r.start = number_append 4 p b 0 ∙ read_written 4 r.start (bytes_of 4 r.end) f.start in
    let end : number_at 4 (p ++ b) (length p + 0 + 4) ≡ r.end =
    ap (number_at 4 (p ++ b)) (add_assoc (length p) 0 4)
    ∙ number_append 4 p b 4
    ∙ number_append 4 (bytes_of 4 r.start) (bytes_of 4 r.end) 0
    ∙ ap (λ (l : List ℕ). number_at 4 l 0) (sym (append-nil (bytes_of 4 r.end)))
    ∙ read_written 4 r.end [] f.end in
    λ i. record { start = start i; end = end i }

-- the bytes of the region at index i are those that stand there
pub region_bytes_law : (b : List ℕ) (i : ℕ) → Bytes b → i + 8 ≤ length b → region_bytes (region_at b i) ≡ take 8 (drop i b)
region_bytes_law b i y h =
    (λ j. written_read 4 b i y (omega arith) j ++ written_read 4 b (i + 4) y (omega arith) j)
    ∙ ap (λ (l : List ℕ). take 4 (drop i b) ++ take 4 l) (sym (drop-drop 4 i b))
    ∙ sym (take-add 4 4 (drop i b))

-- a region that is the rest of an element
pub region_rest : (b : List ℕ) (i : ℕ) → Bytes b → length b ≡ i + 8 → region_bytes (region_at b i) ≡ drop i b
region_rest b i y h = region_bytes_law b i y (omega arith) ∙ take_all 8 (drop i b) (omega (arith, length-drop i b))

-- ---- an element that the reader accepts, by any judgement

module _ (j : Judgement) where
  pub region_element : (b : List ℕ) → region_number j b ≡ 0 → (length b ≡ region_length) × (j.bad_region (region_at b 0) ≡ false)
  unfolding region_number
  region_element b e = let p = any_no (region_faults j b) (read_accepted _ e) in (no_equal _ _ p.0, p.1.0)

  pub region_accepted : (b : List ℕ) → length b ≡ region_length → j.bad_region (region_at b 0) ≡ false → region_number j b ≡ 0
  unfolding region_number
  region_accepted b l s = read_yes (no_any (region_faults j b) (equal_no l, (s, tt)))

  -- ---- the round trips

  pub region_back : (r : Region) (buffer : List ℕ) → Addresses r
      → let w = region_write_step j r buffer in
      w.number ≡ 0 → reply (region_number j w.after) (region_at w.after 0) ≡ reply 0 r
  region_back r buffer f e =
      let at : region_at (region_bytes r) 0 ≡ r = region_behind [] r f in
      let sound = (write_accepted (j.bad_region r) (region_bytes r) buffer e).0 in
      let yes = region_accepted (region_bytes r) refl (ap j.bad_region at ∙ sound) in
      ap (λ (b : List ℕ). reply (region_number j b) (region_at b 0)) (write_after (j.bad_region r) (region_bytes r) buffer e) ∙ (λ i. reply (yes i) (at i))

  pub region_again : (b buffer : List ℕ) → Bytes b → region_number j b ≡ 0 → length buffer ≡ length b → region_write_step j (region_at b 0) buffer ≡ outcome 0 b
  region_again b buffer y e l =
      let k = region_element b e in
      write_done (j.bad_region (region_at b 0)) (region_bytes (region_at b 0)) buffer k.1 (l ∙ k.0) ∙ ap (outcome 0) (region_rest b 0 y (omega (arith, k.0)))
