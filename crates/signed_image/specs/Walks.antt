-- A walk over the regions of an element that was judged once, whose regions its reader shows: each, read alone, is what the element gives by that
-- region's number, so that no caller has the whole element judged for each of them.
use Rattle.std.specs.Prelude.{ℕ, ◌+◌, ◌*◌, ◌<◌, ◌≡◌, List, length, take, drop}
use Rattle.regions.specs.Region.{region_length, Judgement, read_region, run_region}
use Rattle.signed_image.specs.SignedImage.{image_head_length, region_count_of, image_number, image_hash, image_regions, image_region}

pub record Walks (j : Judgement) : Type 0 where
  -- region i of the shown part is region i of the element, in number and value; the part of a refused element is empty, and each is 12
  pub region : (b : List ℕ) (i : ℕ) → run_region j (image_regions j b) i ≡ image_region j b i
  -- in an accepted element it is the eight bytes from there on, which may be read as a region
  pub region_bytes_law : (b : List ℕ) (i : ℕ) → image_number j b ≡ 0 → i < region_count_of b
      → read_region j (take region_length (drop (image_head_length + length (image_hash j b) + region_length * i) b)) ≡ image_region j b i
