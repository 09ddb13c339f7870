-- What a sound slot's parts are, and a transfer with more bytes.
use Rattle.std.proofs.Common.{◌≡◌, ℕ, ◌+◌, ◌-◌, ◌≤◌, false, ltb, refl, true≢false, arith, ltb-false, le-ltb}
use Rattle.laws.proofs.Tests.{or_no}
use Rattle.slot_state.specs.declared.Transfer.{Transfer}
use Rattle.slot_state.specs.declared.Transfer.TheVariants.{Idle, Receiving}
use Rattle.slot_state.specs.State.{buffer_length, shortest, outside, active_unsound, transfer_unsound, received_of, too_long, is_idle}
use Rattle.manifest_slot.specs.declared.Slot.{Slot}
use Rattle.manifest_slot.specs.Slot.{unsound, advanced}

pub sound_parts : (s : Slot) → unsound s ≡ false → (active_unsound s.active ≡ false) × (transfer_unsound s.transfer ≡ false)
unfolding unsound
sound_parts s e = or_no (active_unsound s.active) (transfer_unsound s.transfer) e

pub parts_sound : (s : Slot) → active_unsound s.active ≡ false → transfer_unsound s.transfer ≡ false → unsound s ≡ false
unfolding unsound
parts_sound s a t = rw (a, t)

-- a transfer that brings n bytes more stays sound, where these are not too many
pub advanced_sound : (t : Transfer) (n : ℕ) → transfer_unsound t ≡ false → too_long t n ≡ false → transfer_unsound (advanced t n) ≡ false
advanced_sound Idle n e f = refl
advanced_sound (Receiving total received) n e f =
    let p = or_no (outside shortest buffer_length total) (ltb total received) e in
    let fits : received + n ≤ total = omega (arith, ltb-false total received p.1, ltb-false (total - received) n f) in
    rw (p.0, le-ltb total (received + n) fits)

-- the bytes that it then has
pub advanced_received : (t : Transfer) (n : ℕ) → is_idle t ≡ false → received_of (advanced t n) ≡ received_of t + n
advanced_received Idle n e = absurd (true≢false e)
advanced_received (Receiving total received) n e = refl
