-- What a report says of itself after each part. That its bytes were written, and what they are, no contract can say here: std's write to standard output
-- promises no more than a count.
use Rattle.std.specs.Prelude.{ℕ, ◌≡◌, Bool, false, cond, List, Option, Some, codes}
use Rattle.std.specs.Fmt.{◌++?◌}

-- a report that has failed stays failed: nothing after the part that couldn't be written is taken for the report's next part
abbrev pub StaysFailed : Bool → Bool → Type 0
StaysFailed before after = before ≡ false → after ≡ false

-- an example's line
unfoldable pub example_line : Option (List ℕ) → Bool → Option (List ℕ)
example_line example as_written = example ++? Some (cond as_written (codes ": as written\n") (codes ": DIFFERS\n"))
