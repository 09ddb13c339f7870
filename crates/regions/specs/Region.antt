-- Document 01 and 002, Region: "start and end, 4 bytes each; end is the last valid address, so start above end is 12".
use Rattle.std.specs.Prelude.{ℕ, zero, suc, ◌+◌, ◌-◌, ◌*◌, ◌^◌, ◌<◌, ◌≡◌, Bool, false, not, ◌||◌, List, [], ◌∷◌, ◌++◌, length, ltb, eqb}
use Rattle.octets.specs.Octets.{number_at, bytes_of}
use Rattle.laws.specs.Tests.{any}
use Rattle.refusal.specs.Steps.{Outcome, Reply, reply}
use Rattle.regions.specs.declared.region.Region.{Region}
use Rattle.element_parts.specs.Parts.{read_number, write_step, item}

abbrev pub region_length : ℕ
region_length = 8

-- the region that the eight bytes from index i on name
abbrev pub region_at : List ℕ → ℕ → Region
region_at b i = record { start = number_at 4 b i; end = number_at 4 b (i + 4) }

-- how many bytes it holds: "end is the last valid address"
abbrev pub region_size : Region → ℕ
region_size r = r.end + 1 - r.start

-- addresses of 32 bits, as the type of the fields has it
pub record Addresses (r : Region) : Type 0 where
  pub start : r.start < 2 ^ 32
  pub end : r.end < 2 ^ 32

-- ---- how regions are judged

-- Readers, writers and their laws take any judgement: Item 9 of document 02 changes it and nothing else
pub record Judgement : Type 0 where
  -- a region breaks a rule, wherever it stands
  pub bad_region : Region → Bool
  -- one of the first n regions of a run breaks a rule, or they do together
  pub bad_regions : List ℕ → ℕ → Bool

-- a run that breaks no rule has no region that does
pub record RunsOfSound (j : Judgement) : Type 0 where
  pub each : (l : List ℕ) (n i : ℕ) → j.bad_regions l n ≡ false → i < n → j.bad_region (region_at l (region_length * i)) ≡ false

-- one of the first n regions of a run is bad
unfoldable pub any_region : (Region → Bool) → List ℕ → ℕ → Bool
any_region bad l zero = false
any_region bad l (suc n) = any_region bad l n || bad (region_at l (region_length * n))

abbrev pub start_above_end : Region → Bool
start_above_end r = ltb r.end r.start

-- document 01: "end is the last valid address, so start above end is 12", "inside a signed image too"
abbrev pub end_is_last : Judgement
end_is_last = record { bad_region = start_above_end; bad_regions = any_region start_above_end }

-- ---- the reader

abbrev pub region_faults : Judgement → List ℕ → List Bool
region_faults j b =
    not (eqb (length b) region_length)
    ∷ j.bad_region (region_at b 0)
    ∷ []

unfoldable pub region_number : Judgement → List ℕ → ℕ
region_number j b = read_number (any (region_faults j b))

-- what is read of an element
abbrev pub read_region : Judgement → List ℕ → Reply Region
read_region j b = reply (region_number j b) (region_at b 0)

-- region i, from 0, of a run, read alone: 12 past the last
abbrev pub run_region : Judgement → List ℕ → ℕ → Reply Region
run_region j l i = read_region j (item region_length l i)

-- ---- the writer

abbrev pub region_bytes : Region → List ℕ
region_bytes r = bytes_of 4 r.start ++ bytes_of 4 r.end

abbrev pub region_write_step : Judgement → Region → List ℕ → Outcome (List ℕ)
region_write_step j r buffer = write_step (j.bad_region r) (region_bytes r) buffer
