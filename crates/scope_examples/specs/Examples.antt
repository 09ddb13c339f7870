-- Document 01, "Examples at the edges": those that are marked P, "proved once of the definitions, as one collected statement over a table of them".
use Rattle.std.specs.Prelude.{ℕ, ◌≡◌, Bool, List, [], ◌∷◌, length}
use Rattle.laws.specs.Tests.{bit_of}
use Rattle.refusal.specs.Steps.{Reply, reply}
use Rattle.message_header.specs.Header.{command_of}
use Rattle.regions.specs.declared.rw_region.Operation.{Operation}
use Rattle.regions.specs.declared.rw_region.Operation.TheVariants.{Erase, Reserved}
use Rattle.regions.specs.Region.{region_size, end_is_last, region_number}
use Rattle.regions.specs.RwRegion.{RwFields, rw_fields_of, rw_region_number, rw_region_fields}
use Rattle.signed_image.specs.SignedImage.{image_number, image_fields, image_hash, image_regions, image_write_step}

-- ---- what an example says

pub data Example : Type 0 where
  -- the header of this message has this number
  header : List ℕ → ℕ → Example
  -- the R/W region of these bytes is read as this
  rw_region : List ℕ → Reply RwFields → Example
  -- an R/W region with this first byte whose start and end are equal is accepted, and the region holds so many bytes
  start_is_end : ℕ → ℕ → Example
  -- a signed image with a hash of this type, which has so many bytes, and with one region has so many bytes
  one_region_image : ℕ → ℕ → ℕ → Example

-- what the writer makes of an image's fields, where their element has n bytes
pub record ImageOf (n hash_type : ℕ) (must_validate : Bool) (hash region buffer : List ℕ) : Type 0 where
  -- it takes a buffer of n bytes, and no other
  pub accepted : length buffer ≡ n → (image_write_step end_is_last hash_type (bit_of must_validate) hash region buffer).number ≡ 0
  pub refused : (length buffer ≡ n → ⊥) → (image_write_step end_is_last hash_type (bit_of must_validate) hash region buffer).number ≡ 3
  -- what it writes has n bytes, and reads back as what was given
  pub bytes : length buffer ≡ n → length (image_write_step end_is_last hash_type (bit_of must_validate) hash region buffer).after ≡ n
  pub back : length buffer ≡ n
      → let element = (image_write_step end_is_last hash_type (bit_of must_validate) hash region buffer).after in
      (reply (image_number end_is_last element) (image_fields element)
      ≡ reply 0 (record { hash_type = hash_type; region_count = 1; must_validate = must_validate }))
      × ((image_hash end_is_last element ≡ hash) × (image_regions end_is_last element ≡ region))

-- a to d are the bytes of an address; `region_number end_is_last region ≡ 0` says that region is the eight bytes of a sound region
abbrev pub Holds : Example → Type 0
Holds (header message n) = (command_of message).number ≡ n
Holds (rw_region element r) = reply (rw_region_number end_is_last element) (rw_region_fields element) ≡ r
Holds (start_is_end first n) = (a b c d : ℕ)
    → let element = first ∷ 0x00 ∷ 0x00 ∷ 0x00 ∷ a ∷ b ∷ c ∷ d ∷ a ∷ b ∷ c ∷ d ∷ [] in
    (rw_region_number end_is_last element ≡ 0) × (region_size (rw_region_fields element).region ≡ n)
Holds (one_region_image hash_type hash_bytes n) = (must_validate : Bool) (hash region buffer : List ℕ)
    → length hash ≡ hash_bytes → region_number end_is_last region ≡ 0
    → ImageOf n hash_type must_validate hash region buffer

-- ---- the table

-- "a PCD command after them": Get PCD Id's, where a line names none
abbrev pub pcd_command : ℕ
pcd_command = 0x62

-- the R/W region of the second line, with this first byte, and how it is shown with this operation
abbrev pub rw_bytes : ℕ → List ℕ
rw_bytes first = first ∷ 0x00 ∷ 0x00 ∷ 0x00 ∷ 0x00 ∷ 0x10 ∷ 0x00 ∷ 0x00 ∷ 0xff ∷ 0x1f ∷ 0x00 ∷ 0x00 ∷ []

abbrev pub rw_shown : Operation → Reply RwFields
rw_shown o = reply 0 (rw_fields_of (record { operation = o; region = record { start = 0x1000; end = 0x1fff } }))

unfoldable pub table : List Example
table =
    -- "first four bytes 7e 14 14 00, a PCD command after them: ours": each of the four
    header (0x7e ∷ 0x14 ∷ 0x14 ∷ 0x00 ∷ 0x62 ∷ []) 0
    ∷ header (0x7e ∷ 0x14 ∷ 0x14 ∷ 0x00 ∷ 0x63 ∷ []) 0
    ∷ header (0x7e ∷ 0x14 ∷ 0x14 ∷ 0x00 ∷ 0x64 ∷ []) 0
    ∷ header (0x7e ∷ 0x14 ∷ 0x14 ∷ 0x00 ∷ 0x65 ∷ []) 0
    -- "fe 14 14 00: 1"
    ∷ header (0xfe ∷ 0x14 ∷ 0x14 ∷ 0x00 ∷ pcd_command ∷ []) 1
    -- "7e 14 14 20: 11"
    ∷ header (0x7e ∷ 0x14 ∷ 0x14 ∷ 0x20 ∷ pcd_command ∷ []) 11
    -- "7e 14 14 80: 11"
    ∷ header (0x7e ∷ 0x14 ∷ 0x14 ∷ 0x80 ∷ pcd_command ∷ []) 11
    -- "7e 14 14 60: 1"
    ∷ header (0x7e ∷ 0x14 ∷ 0x14 ∷ 0x60 ∷ pcd_command ∷ []) 1
    -- "the four bytes alone: 1"
    ∷ header (0x7e ∷ 0x14 ∷ 0x14 ∷ 0x00 ∷ []) 1
    -- "02 00 00 00 00 10 00 00 ff 1f 00 00 is erase, 0x1000 to 0x1fff"
    ∷ rw_region (rw_bytes 0x02) (rw_shown Erase)
    -- "first byte 03: reserved"
    ∷ rw_region (rw_bytes 0x03) (rw_shown Reserved)
    -- "first byte 04: 12"
    ∷ rw_region (rw_bytes 0x04) (record { number = 12; values = [] })
    -- "start and end equal: one byte, accepted"
    ∷ start_is_end 0x02 1
    -- "a signed image with SHA-256 and one region has 44 bytes": SHA-256 is hash type 0 and has 32 bytes
    ∷ one_region_image 0 32 44
    ∷ []
