-- What document 01's judgement of regions says, in plain words: "end is the last valid address, so start above end is 12", "inside a signed image too".
use Rattle.std.specs.Prelude.{ℕ, ◌*◌, ◌<◌, ◌≤◌, ◌≡◌, true, false, List}
use Rattle.regions.specs.declared.region.Region.{Region}
use Rattle.regions.specs.Region.{region_length, region_at, end_is_last}

pub record EndIsLastMeans : Type 0 where
  -- a region is bad exactly where its start is above its end
  pub bad : (r : Region) → end_is_last.bad_region r ≡ true → r.end < r.start
  pub good : (r : Region) → end_is_last.bad_region r ≡ false → r.start ≤ r.end
  -- a run is good exactly where each of its first n regions is
  pub each : (l : List ℕ) (n i : ℕ) → end_is_last.bad_regions l n ≡ false → i < n → end_is_last.bad_region (region_at l (region_length * i)) ≡ false
  pub run : (l : List ℕ) (n : ℕ) → ((i : ℕ) → i < n → end_is_last.bad_region (region_at l (region_length * i)) ≡ false) → end_is_last.bad_regions l n ≡ false
