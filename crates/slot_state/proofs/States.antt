-- The buffers and parts of a state that are sound, in facts about numbers.
use Prim.Native.Nat.{ℕ, ◌≤◌}
use mathlib.Core.Path.{◌≡◌}
use mathlib.Core.Bool.{false, not, ◌&&◌, and-false, true≢false}
use mathlib.Core.Logic.{⊎_elim}
use mathlib.Core.List.{List}
use native.Mathlib.Omega.{arith}
use lib.ListN.{length}
use lib.Dec.{eqb, ltb}
use borrow.Author.Tests.{eqb-true, ltb-false, not-false}
use Rattle.laws.proofs.Tests.{or_no, and_no, and_yes}
use Rattle.slot_state.specs.declared.Active.{Active}
use Rattle.slot_state.specs.declared.Transfer.{Transfer}
use Rattle.slot_state.specs.declared.Transfer.TheVariants.{Idle, Receiving}
use Rattle.slot_state.specs.State.{buffer_length, shortest, outside, wrong_buffers, active_unsound, transfer_unsound, total_of, received_of, incomplete}

pub inside : (low high n : ℕ) → outside low high n ≡ false → (low ≤ n) × (n ≤ high)
inside low high n e = let p = or_no (ltb n low) (ltb high n) e in (ltb-false n low p.0, ltb-false high n p.1)

pub right_buffers : (pending active : List ℕ) → wrong_buffers pending active ≡ false
    → (length pending ≡ buffer_length) × (length active ≡ buffer_length)
right_buffers pending active e =
    let w = or_no (not (eqb (length pending) buffer_length)) (not (eqb (length active) buffer_length)) e in
    (eqb-true _ _ (not-false _ w.0), eqb-true _ _ (not-false _ w.1))

-- ---- a sound active manifest, a sound transfer

pub active_bound : (a : Active) → active_unsound a ≡ false → a.length ≤ buffer_length
active_bound a e =
    ⊎_elim
    (λ (n : not (eqb a.length 0 && eqb a.id.0 0) ≡ false). omega (arith, eqb-true a.length 0 (and_yes (eqb a.length 0) (eqb a.id.0 0) (not-false _ n)).0))
    (λ (o : outside shortest buffer_length a.length ≡ false). (inside shortest buffer_length a.length o).1)
    (and_no (not (eqb a.length 0 && eqb a.id.0 0)) (outside shortest buffer_length a.length) e)

pub inside_active : (a : Active) → outside shortest buffer_length a.length ≡ false → active_unsound a ≡ false
inside_active a e = rw (e, and-false)

pub transfer_bounds : (t : Transfer) → transfer_unsound t ≡ false → (received_of t ≤ total_of t) × (total_of t ≤ buffer_length)
transfer_bounds Idle e = (omega arith, omega arith)
transfer_bounds (Receiving total received) e =
    let p = or_no (outside shortest buffer_length total) (ltb total received) e in
    (ltb-false total received p.1, (inside shortest buffer_length total p.0).1)

-- a complete transfer has brought its total, which a manifest may have
pub complete : (t : Transfer) → transfer_unsound t ≡ false → incomplete t ≡ false
    → (received_of t ≡ total_of t) × (outside shortest buffer_length (total_of t) ≡ false)
complete Idle e f = absurd (true≢false f)
complete (Receiving total received) e f =
    let p = or_no (outside shortest buffer_length total) (ltb total received) e in
    (omega (arith, ltb-false total received p.1, ltb-false received total f), p.0)
