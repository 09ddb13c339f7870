-- Document 01: "Readers show hash and regions as parts of the lent element". One region by its number, from 0: what stands there in an element that is
-- sound, and nothing past the last or where the element is malformed.
use Rattle.std.specs.Prelude.{ℕ, ◌*◌, ◌<◌, ◌≡◌, List, []}
use Rattle.refusal.specs.Steps.{reply}
use Rattle.regions.specs.Region.{region_length, region_at, Judgement}
use Rattle.signed_image.specs.SignedImage.{region_count_of, regions_of, image_number, image_region}

-- however regions are judged
pub record ByNumber (j : Judgement) : Type 0 where
  pub region_shown : (b : List ℕ) (i : ℕ) → image_number j b ≡ 0 → i < region_count_of b → image_region j b i ≡ reply 0 (region_at (regions_of b) (region_length * i))
  pub region_none : (b : List ℕ) (i : ℕ) → (image_number j b ≡ 0 → i < region_count_of b → ⊥) → image_region j b i ≡ record { number = 12; values = [] }
