-- What the number 0 of a part's rules says.
use Prim.Native.Nat.{ℕ}
use mathlib.Core.Path.{◌≡◌}
use mathlib.Core.Bool.{false}
use mathlib.Core.List.{List}
use native.Mathlib.Omega.{arith}
use lib.ListN.{length}
use Rattle.refusal.specs.Rules.{◌when◌else◌}
use Rattle.refusal.proofs.Laws.{when_accepted}
use Rattle.slot_state.specs.declared.Transfer.{Transfer}
use Rattle.slot_state.specs.State.{buffer_length, wrong_buffers, is_idle, too_long}
use Rattle.slot_state.specs.Rules.{open_number, update_rule}
use Rattle.slot_state.proofs.States.{right_buffers}

pub open_accepted : (pending active : List ℕ) → open_number pending active ≡ 0
    → (length pending ≡ buffer_length) × (length active ≡ buffer_length)
unfolding open_number
open_accepted pending active e = right_buffers pending active (when_accepted 3 (wrong_buffers pending active) 0 (omega arith) e).0

-- a payload that update's own rules take is expected, and isn't longer than what is still to come
pub payload_accepted : (t : Transfer) (n : ℕ) → update_rule t n ≡ 0 → (too_long t n ≡ false) × (is_idle t ≡ false)
unfolding update_rule
payload_accepted t n e =
    let p = when_accepted 5 (too_long t n) (6 when is_idle t else 0) (omega arith) e in
    (p.0, (when_accepted 6 (is_idle t) 0 (omega arith) p.1).0)
