-- Demand 2: "where we both read and write a thing, the reader gives back what the writer was given"; and what a reader accepts, the writer writes again
-- byte for byte. So each value has one encoding and each encoding one value.
use Rattle.std.specs.Prelude.{ℕ, ◌≡◌, Bool, List, length}
use Rattle.laws.specs.Tests.{bit_of}
use Rattle.octets.specs.Octets.{Bytes}
use Rattle.refusal.specs.Steps.{outcome, reply}
use Rattle.element_parts.specs.Parts.{item_count}
use Rattle.regions.specs.Region.{region_length, Judgement}
use Rattle.signed_image.specs.SignedImage.{hash_type_of, must_validate_of, image_fields, image_number, image_hash, image_regions, image_write_step}

-- fields, hash and regions, however regions are judged
pub record RoundTrips (j : Judgement) : Type 0 where
  pub image_back : (hash_type : ℕ) (must_validate : Bool) (hash regions buffer : List ℕ)
      → let w = image_write_step j hash_type (bit_of must_validate) hash regions buffer in
      w.number ≡ 0
      → (reply (image_number j w.after) (image_fields w.after)
      ≡ reply 0 (record { hash_type = hash_type; region_count = item_count region_length regions; must_validate = must_validate }))
      × ((image_hash j w.after ≡ hash) × (image_regions j w.after ≡ regions))
  pub image_again : (b buffer : List ℕ) → Bytes b → image_number j b ≡ 0 → length buffer ≡ length b
      → image_write_step j (hash_type_of b) (bit_of (must_validate_of b)) (image_hash j b) (image_regions j b) buffer ≡ outcome 0 b
