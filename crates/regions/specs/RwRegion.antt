-- Document 01 and 002, RWRegion, 12 bytes: "six zero bits and two bits of operation (0 nothing, 1 restore, 2 erase, 3 reserved, which means nothing but
-- is shown as reserved), three zero bytes, region".
use Rattle.std.specs.Prelude.{ℕ, ◌/◌, ◌%◌, ◌^◌, Bool, not, ◌||◌, List, [], ◌∷◌, length, get_or, ltb, eqb}
use Rattle.laws.specs.Tests.{any}
use Rattle.refusal.specs.Steps.{Outcome}
use Rattle.regions.specs.declared.rw_region.Operation.{Operation}
use Rattle.regions.specs.declared.rw_region.Operation.TheVariants.{Nothing, Restore, Erase, Reserved}
use Rattle.regions.specs.declared.region.Region.{Region}
use Rattle.regions.specs.declared.rw_region.RwRegion.{RwRegion}
use Rattle.element_parts.specs.Parts.{read_number, write_step}
use Rattle.regions.specs.Region.{region_at, Judgement, region_bytes}

abbrev pub rw_region_length : ℕ
rw_region_length = 12

-- ---- operations: "0 nothing, 1 restore, 2 erase, 3 reserved"

abbrev pub operation_number : Operation → ℕ
operation_number Nothing = 0
operation_number Restore = 1
operation_number Erase = 2
operation_number Reserved = 3

-- "two bits of operation" hold no greater number
abbrev pub bad_operation : ℕ → Bool
bad_operation n = ltb 3 n

-- ---- the fields, with the operation by its number

pub record RwFields : Type 0 where
  pub operation : ℕ
  pub region : Region

abbrev pub rw_fields_of : RwRegion → RwFields
rw_fields_of r = record { operation = operation_number r.operation; region = r.region }

-- ---- the reader

-- the two low bits of the first byte, and the region from index 4 on
abbrev pub rw_region_fields : List ℕ → RwFields
rw_region_fields b = record { operation = get_or b 0 0 % 2 ^ 2; region = region_at b 4 }

abbrev pub rw_region_faults : Judgement → List ℕ → List Bool
rw_region_faults j b =
    not (eqb (length b) rw_region_length)
    ∷ not (eqb (get_or b 0 0 / 2 ^ 2) 0)
    ∷ not (eqb (get_or b 1 0) 0)
    ∷ not (eqb (get_or b 2 0) 0)
    ∷ not (eqb (get_or b 3 0) 0)
    ∷ j.bad_region (region_at b 4)
    ∷ []

unfoldable pub rw_region_number : Judgement → List ℕ → ℕ
rw_region_number j b = read_number (any (rw_region_faults j b))

-- ---- the writer

-- the operation is given by its number
abbrev pub rw_fields_malformed : Judgement → RwFields → Bool
rw_fields_malformed j f = bad_operation f.operation || j.bad_region f.region

abbrev pub rw_region_bytes : RwFields → List ℕ
rw_region_bytes f = f.operation ∷ 0 ∷ 0 ∷ 0 ∷ region_bytes f.region

abbrev pub rw_region_write_step : Judgement → RwFields → List ℕ → Outcome (List ℕ)
rw_region_write_step j f buffer = write_step (rw_fields_malformed j f) (rw_region_bytes f) buffer
