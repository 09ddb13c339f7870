-- Document 01, "Manifest slot": the limits, the buffers, what is sound of the active manifest and of a transfer, and how far a transfer is.
use Rattle.std.specs.Prelude.{ℕ, ◌-◌, Bool, true, false, not, ◌&&◌, ◌||◌, List, length, ltb, eqb}
use Rattle.slot_state.specs.declared.Active.{Active}
use Rattle.slot_state.specs.declared.Transfer.{Transfer}
use Rattle.slot_state.specs.declared.Transfer.TheVariants.{Idle, Receiving}

-- "Two buffers of exactly 4,096 bytes, pending and active"
abbrev pub buffer_length : ℕ
buffer_length = 4096

-- "length 13 to 4,096": a header and a signature of one byte
abbrev pub shortest : ℕ
shortest = 13

-- n is outside low to high
abbrev pub outside : ℕ → ℕ → ℕ → Bool
outside low high n = ltb n low || ltb high n

-- a buffer has another length: refusal 3
abbrev pub wrong_buffers : List ℕ → List ℕ → Bool
wrong_buffers pending active = not (eqb (length pending) buffer_length) || not (eqb (length active) buffer_length)

-- "length 0 and id 0 for none, else length 13 to 4,096"
abbrev pub active_unsound : Active → Bool
active_unsound a = not (eqb a.length 0 && eqb a.id.0 0) && outside shortest buffer_length a.length

-- "either idle or receiving, with total 13 to 4,096 and received at most total"
abbrev pub transfer_unsound : Transfer → Bool
transfer_unsound Idle = false
transfer_unsound (Receiving total received) = outside shortest buffer_length total || ltb total received

-- ---- a transfer

abbrev pub total_of : Transfer → ℕ
total_of Idle = 0
total_of (Receiving total received) = total

abbrev pub received_of : Transfer → ℕ
received_of Idle = 0
received_of (Receiving total received) = received

abbrev pub is_idle : Transfer → Bool
is_idle Idle = true
is_idle (Receiving total received) = false

-- idle, or bytes are still to come
abbrev pub incomplete : Transfer → Bool
incomplete Idle = true
incomplete (Receiving total received) = ltb received total

-- receiving, and n bytes are more than what is still to come
abbrev pub too_long : Transfer → ℕ → Bool
too_long Idle n = false
too_long (Receiving total received) n = ltb (total - received) n
