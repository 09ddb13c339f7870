-- Demand 2: "where we both read and write a thing, the reader gives back what the writer was given"; and what a reader accepts, the writer writes again
-- byte for byte. So each value has one encoding and each encoding one value.
use Rattle.std.specs.Prelude.{ℕ, ◌≡◌, List, length}
use Rattle.octets.specs.Octets.{Bytes}
use Rattle.refusal.specs.Steps.{outcome, reply}
use Rattle.regions.specs.declared.region.Region.{Region}
use Rattle.regions.specs.declared.rw_region.RwRegion.{RwRegion}
use Rattle.regions.specs.Region.{region_at, Addresses, Judgement, region_number, region_write_step}
use Rattle.regions.specs.RwRegion.{rw_fields_of, rw_region_fields, rw_region_number, rw_region_write_step}

-- however regions are judged
pub record RoundTrips (j : Judgement) : Type 0 where
  -- a region
  pub region_back : (r : Region) (buffer : List ℕ) → Addresses r
      → let w = region_write_step j r buffer in
      w.number ≡ 0 → reply (region_number j w.after) (region_at w.after 0) ≡ reply 0 r
  pub region_again : (b buffer : List ℕ) → Bytes b → region_number j b ≡ 0 → length buffer ≡ length b
      → region_write_step j (region_at b 0) buffer ≡ outcome 0 b
  -- an R/W region; its fields by their numbers fix it
  pub rw_back : (r : RwRegion) (buffer : List ℕ) → Addresses r.region
      → let w = rw_region_write_step j (rw_fields_of r) buffer in
      w.number ≡ 0 → reply (rw_region_number j w.after) (rw_region_fields w.after) ≡ reply 0 (rw_fields_of r)
  pub rw_same : (r s : RwRegion) → rw_fields_of r ≡ rw_fields_of s → r ≡ s
  pub rw_again : (b buffer : List ℕ) → Bytes b → rw_region_number j b ≡ 0 → length buffer ≡ length b
      → rw_region_write_step j (rw_region_fields b) buffer ≡ outcome 0 b
