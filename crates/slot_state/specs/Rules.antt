-- Document 01, "Manifest slot": the rules of opening, prepare and update that ask for one part of the state only, or for none.
use Rattle.std.specs.Prelude.{ℕ, List}
use Rattle.refusal.specs.Rules.{◌when◌else◌}
use Rattle.slot_state.specs.declared.Transfer.{Transfer}
use Rattle.slot_state.specs.State.{buffer_length, shortest, outside, wrong_buffers, is_idle, too_long}

-- what an opening asks, and every call first
unfoldable pub open_number : List ℕ → List ℕ → ℕ
open_number pending active =
    3 when wrong_buffers pending active else
    0

-- "Prepare (total): outside 13 to 4,096 is 5."
unfoldable pub prepare_rule : ℕ → ℕ
prepare_rule total =
    5 when outside shortest buffer_length total else
    0

-- "Update (payload): .. any other payload while idle is 6; while receiving, a payload longer than what is still to come is 5.", of n bytes that aren't none
unfoldable pub update_rule : Transfer → ℕ → ℕ
update_rule t n =
    5 when too_long t n else
    6 when is_idle t else
    0
