-- What the trait `Word` says of a family besides its definitions in FIPS 180-4.
use Rattle.std.specs.Prelude.{◌≡◌, ℕ, ◌<◌, ◌≤◌, ◌%◌, List, length, get_or}
use Rattle.fips180.specs.Family.{Family, Amounts}

-- a family over words of n bytes, whose rounds are whole groups of sixteen
pub record Sizes (n : ℕ) (f : Family) : Type 0 where
  pub bytes : f.word_bytes ≡ n
  pub some : 0 < n
  pub few : n ≤ 8
  pub rounds : length f.constants ≡ f.rounds
  pub groups : f.rounds % 16 ≡ 0
  pub first : 16 ≤ f.rounds

-- three amounts as code has them
abbrev pub amounts_of : List ℕ → Amounts
amounts_of a = record { first = get_or a 0 0; second = get_or a 1 0; third = get_or a 2 0 }

-- the amounts of three rotations of words of w bits, which grow: code nests the rotations
pub record Grow (w : ℕ) (n : Amounts) : Type 0 where
  pub first : 0 < n.first
  pub second : n.first < n.second
  pub third : n.second < n.third
  pub within : n.third < w

-- the same of two rotations and a shift
pub record GrowShift (w : ℕ) (n : Amounts) : Type 0 where
  pub first : 0 < n.first
  pub second : n.first < n.second
  pub within : n.second < w
  pub shift : n.third < w
