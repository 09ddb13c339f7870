-- Document 01, "Elements of the PFM": what the elements share. A field that breaks a rule is 12; a writer gives 12 and then 3.
use Rattle.std.specs.Prelude.{ℕ, ◌*◌, ◌/◌, ◌%◌, Bool, not, List, [], ◌∷◌, length, take, drop, leb, ltb, eqb}
use Rattle.laws.specs.Tests.{any}
use Rattle.refusal.specs.Rules.{◌when◌else◌, first◌then◌, accepted◌then◌else◌}
use Rattle.refusal.specs.Steps.{Outcome, decided}

-- a reader's number: "For the element readers only 12 exists". An element's faults are the tests of which none may hold
abbrev pub read_number : Bool → ℕ
read_number malformed =
    12 when malformed else
    0

-- a writer's number, where the element takes n bytes and the buffer has m: "The element writers give 12 and then 3, since only sound fields have a
-- length"
abbrev pub write_number : Bool → ℕ → ℕ → ℕ
write_number malformed n m =
    12 when malformed else
    3 when not (eqb m n) else
    0

-- what a writer answers, and leaves of its buffer, where the element has these bytes: "a buffer of exactly the element's length" then holds them
abbrev pub write_step : Bool → List ℕ → List ℕ → Outcome (List ℕ)
write_step malformed bytes buffer = decided (write_number malformed (length bytes) (length buffer)) buffer bytes

-- the part of the element that a reader shows, empty where it is malformed
abbrev pub shown_part : ℕ → List ℕ → List ℕ
shown_part number part = accepted number then part else []

-- item i, from 0, of a run of items of w bytes: empty past the last
abbrev pub item : ℕ → List ℕ → ℕ → List ℕ
item w l i = take w (drop (w * i) l)

-- the number for item i, from 0, of an element that has this number and so many items: 12 also where there is no such item
abbrev pub item_number : ℕ → ℕ → ℕ → ℕ
item_number number count i =
    first number then
    12 when leb count i else
    0

-- how many items of w bytes
abbrev pub item_count : ℕ → List ℕ → ℕ
item_count w l = length l / w

-- "region bytes that aren't a multiple of 8, hashes that don't fill a whole number, and a count above 255", and "a count of 0"
abbrev pub item_faults : ℕ → List ℕ → List Bool
item_faults w l =
    not (eqb (length l % w) 0)
    ∷ eqb (item_count w l) 0
    ∷ ltb 255 (item_count w l)
    ∷ []

abbrev pub bad_items : ℕ → List ℕ → Bool
bad_items w l = any (item_faults w l)
