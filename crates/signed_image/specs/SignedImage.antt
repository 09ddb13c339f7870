-- Document 01 and 002, SignedImage: "five zero bits and hash type (0, 1, 2 for 32, 48, 64 bytes); region count, at least 1; seven zero bits and the
-- must-validate bit; a zero byte; hash; regions".
use Rattle.std.specs.Prelude.{ℕ, ◌+◌, ◌*◌, ◌/◌, ◌%◌, ◌^◌, Bool, not, ◌||◌, List, [], ◌∷◌, ◌++◌, length, get_or, take, drop, ltb, eqb}
use Rattle.laws.specs.Tests.{any}
use Rattle.refusal.specs.Steps.{Outcome, Reply, reply}
use Rattle.hash.specs.Types.{type_number, hash_length, bad_hash_type}
use Rattle.regions.specs.declared.region.Region.{Region}
use Rattle.signed_image.specs.declared.SignedImage.{SignedImage}
use Rattle.element_parts.specs.Parts.{read_number, write_step, shown_part, item_number, item_count, bad_items}
use Rattle.regions.specs.Region.{region_length, region_at, Judgement}

-- the bytes before the hash
abbrev pub image_head_length : ℕ
image_head_length = 4

-- the length of an element with this hash type and so many regions
abbrev pub image_length : ℕ → ℕ → ℕ
image_length hash_type count = image_head_length + hash_length hash_type + region_length * count

-- ---- the fields as they stand in an element b

abbrev pub hash_type_of : List ℕ → ℕ
hash_type_of b = get_or b 0 0 % 2 ^ 3

abbrev pub region_count_of : List ℕ → ℕ
region_count_of b = get_or b 1 0

abbrev pub must_validate_of : List ℕ → Bool
must_validate_of b = eqb (get_or b 2 0 % 2) 1

abbrev pub hash_of : List ℕ → List ℕ
hash_of b = take (hash_length (hash_type_of b)) (drop image_head_length b)

abbrev pub regions_of : List ℕ → List ℕ
regions_of b = drop (image_head_length + hash_length (hash_type_of b)) b

-- ---- the readers

abbrev pub image_faults : Judgement → List ℕ → List Bool
image_faults j b =
    not (eqb (length b) (image_length (hash_type_of b) (region_count_of b)))
    ∷ not (eqb (get_or b 0 0 / 2 ^ 3) 0)
    ∷ bad_hash_type (hash_type_of b)
    ∷ eqb (region_count_of b) 0
    ∷ not (eqb (get_or b 2 0 / 2) 0)
    ∷ not (eqb (get_or b 3 0) 0)
    ∷ j.bad_regions (regions_of b) (region_count_of b)
    ∷ []

unfoldable pub image_number : Judgement → List ℕ → ℕ
image_number j b = read_number (any (image_faults j b))

-- the fields, with the hash type by its number
pub record ImageFields : Type 0 where
  pub hash_type : ℕ
  pub region_count : ℕ
  pub must_validate : Bool

abbrev pub image_fields_of : SignedImage → ImageFields
image_fields_of i = record { hash_type = type_number i.hash_type; region_count = i.region_count; must_validate = i.must_validate }

abbrev pub image_fields : List ℕ → ImageFields
image_fields b = record { hash_type = hash_type_of b; region_count = region_count_of b; must_validate = must_validate_of b }

-- "Readers show hash and regions as parts of the lent element"
abbrev pub image_hash : Judgement → List ℕ → List ℕ
image_hash j b = shown_part (image_number j b) (hash_of b)

abbrev pub image_regions : Judgement → List ℕ → List ℕ
image_regions j b = shown_part (image_number j b) (regions_of b)

-- region i, from 0: 12 where the element is malformed or has no such region
unfoldable pub image_region_number : Judgement → List ℕ → ℕ → ℕ
image_region_number j b i = item_number (image_number j b) (region_count_of b) i

abbrev pub image_region : Judgement → List ℕ → ℕ → Reply Region
image_region j b i = reply (image_region_number j b i) (region_at (regions_of b) (region_length * i))

-- ---- the writer: "Fields that break the rules are 12, and so are a hash of a length unlike its type, region bytes that aren't a multiple of 8 .. and a
-- count above 255"

abbrev pub image_field_faults : Judgement → ℕ → List ℕ → List ℕ → List Bool
image_field_faults j hash_type hash regions =
    bad_hash_type hash_type
    ∷ not (eqb (length hash) (hash_length hash_type))
    ∷ bad_items region_length regions
    ∷ j.bad_regions regions (item_count region_length regions)
    ∷ []

unfoldable pub image_fields_malformed : Judgement → ℕ → List ℕ → List ℕ → Bool
image_fields_malformed j hash_type hash regions = any (image_field_faults j hash_type hash regions)

-- "the must-validate bit", given as a number, holds no greater one
abbrev pub bad_flag : ℕ → Bool
bad_flag must_validate = ltb 1 must_validate

abbrev pub image_bytes : ℕ → ℕ → List ℕ → List ℕ → List ℕ
image_bytes hash_type must_validate hash regions = (hash_type ∷ item_count region_length regions ∷ must_validate ∷ 0 ∷ []) ++ hash ++ regions

abbrev pub image_write_step : Judgement → ℕ → ℕ → List ℕ → List ℕ → List ℕ → Outcome (List ℕ)
image_write_step j hash_type must_validate hash regions buffer =
    write_step (bad_flag must_validate || image_fields_malformed j hash_type hash regions) (image_bytes hash_type must_validate hash regions) buffer
