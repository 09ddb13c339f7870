-- Document 01, "Manifest slot": each call as one step of a slot with its two buffers, for every slot and every buffer. The functions' contracts cite these
-- steps, and so do the claims about lists of calls, the commands and the C interface. Rules that ask for one part of the state only (open_number, prepare_rule,
-- update_rule) stand in slot_state/specs/Rules.antt.
use Rattle.std.specs.Prelude.{ℕ, Bool, not, ◌&&◌, ◌||◌, List, [], length, take, ◌==◌, nat_eq, nat_le, Result, Ok, Err}
use Rattle.refusal.specs.declared.Refusal.{Refusal}
use Rattle.refusal.specs.Refusals.{refusal_number, number_of}
use Rattle.refusal.specs.Rules.{◌when◌else◌, first◌then◌}
use Rattle.refusal.specs.Steps.{Outcome, outcome, decided}
use Rattle.octets.specs.Octets.{zeros, pasted, replaced_by}
use Rattle.manifest_header.specs.Header.{magic_number, version_id, header_unfit}
use Rattle.slot_state.specs.declared.Transfer.TheVariants.{Idle, Receiving}
use Rattle.slot_state.specs.State.{buffer_length, wrong_buffers, total_of, received_of, incomplete}
use Rattle.slot_state.specs.Rules.{open_number, prepare_rule, update_rule}
use Rattle.manifest_slot.specs.declared.Slot.{Slot}
use Rattle.manifest_slot.specs.declared.Answer.{Answer}
use Rattle.manifest_slot.specs.declared.Role.{Role}
use Rattle.manifest_slot.specs.Slot.{unsound, fresh, advanced, transferring, Held, held}

-- ---- what the functions' answers say, with the buffers at exit

abbrev pub answered : Answer → List ℕ → List ℕ → Outcome Held
answered r pending active = outcome (number_of r.verdict) (held r.slot pending active)

-- and where no slot is handed back beside a refusal: the caller's slot stands
abbrev pub slot_outcome : Result Slot Refusal → Slot → List ℕ → List ℕ → Outcome Held
slot_outcome (Ok s) before pending active = outcome 0 (held s pending active)
slot_outcome (Err why) before pending active = outcome (refusal_number why) (held before pending active)

-- ---- opening: "zeroes both buffers"

unfoldable pub open_step : ℕ → Held → Outcome Held
open_step magic h = decided (open_number h.pending h.active) h (held (fresh magic) (zeros buffer_length) (zeros buffer_length))

-- ---- what every other call asks first. Behind it stand the call's own rules, which a command asks for itself: its buffers, state and body are judged by then

unfoldable pub lent_number : Held → ℕ
lent_number h =
    3 when wrong_buffers h.pending h.active else
    4 when unsound h.slot else
    0

-- ---- "Prepare (total): outside 13 to 4,096 is 5. Else receiving, none received; a transfer under way is dropped; both buffers stay."

abbrev pub prepared : ℕ → Held → Held
prepared total h = held (transferring h.slot (Receiving total 0)) h.pending h.active

unfoldable pub prepare_lent : ℕ → Held → Outcome Held
prepare_lent total h = decided (prepare_rule total) h (prepared total h)

unfoldable pub prepare_number : ℕ → Held → ℕ
prepare_number total h =
    first lent_number h then
    prepare_rule total

unfoldable pub prepare_step : ℕ → Held → Outcome Held
prepare_step total h = decided (prepare_number total h) h (prepared total h)

-- ---- "Update (payload): empty is 2, idle or not; any other payload while idle is 6; while receiving, a payload longer than what is still to
-- come is 5. Else the bytes go after those received; nothing else moves."

abbrev pub updated : List ℕ → Held → Held
updated payload h =
    held
    (transferring h.slot (advanced h.slot.transfer (length payload)))
    (pasted h.pending (received_of h.slot.transfer) payload)
    h.active

unfoldable pub update_lent : List ℕ → Held → Outcome Held
update_lent payload h = decided (update_rule h.slot.transfer (length payload)) h (updated payload h)

unfoldable pub update_number : List ℕ → Held → ℕ
update_number payload h =
    first lent_number h then
    2 when nat_eq (length payload) 0 else
    update_rule h.slot.transfer (length payload)

unfoldable pub update_step : List ℕ → Held → Outcome Held
update_step payload h = decided (update_number payload h) h (updated payload h)

-- ---- "Activate (signature yes or no): idle or incomplete is 6."

-- "Length unlike the total, another magic, or signature length 0 or above total less 12, is 8", of the manifest m
abbrev pub bad_header : Slot → List ℕ → Bool
bad_header s m = header_unfit (total_of s.transfer) m || not (magic_number m == s.magic)

-- "With an active manifest, an id not above its id is 9; without one any id passes, 0 too."
abbrev pub stale : Slot → List ℕ → Bool
stale s m = not (s.active.length == 0) && nat_le (version_id m) s.active.id.0

unfoldable pub pending_rule : Slot → List ℕ → ℕ
pending_rule s pending =
    6 when incomplete s.transfer else
    8 when bad_header s pending else
    9 when stale s pending else
    0

-- "A no is 10."
abbrev pub signature_rule : Bool → ℕ
signature_rule good =
    10 when not good else
    0

unfoldable pub activate_rule : Bool → Slot → List ℕ → ℕ
activate_rule good s pending =
    first pending_rule s pending then
    signature_rule good

-- "Else active holds the pending manifest and then zeros, pending stays, the slot is idle."
abbrev pub activated_slot : Slot → List ℕ → Slot
activated_slot s pending =
    record {
      magic = s.magic;
      active = record { length = total_of s.transfer; id = record { 0 = version_id pending } };
      transfer = Idle;
    }

abbrev pub activated : Held → Held
activated h =
    held (activated_slot h.slot h.pending) h.pending (replaced_by h.active (take (total_of h.slot.transfer) h.pending))

unfoldable pub activate_lent : Bool → Held → Outcome Held
activate_lent good h = decided (activate_rule good h.slot h.pending) h (activated h)

unfoldable pub activate_number : Bool → Held → ℕ
activate_number good h =
    first lent_number h then
    activate_rule good h.slot h.pending

unfoldable pub activate_step : Bool → Held → Outcome Held
activate_step good h = decided (activate_number good h) h (activated h)

-- ---- "Asked for the active or the pending manifest, the reader hands back the part of the buffer that holds it, from its start: for active,
-- active length bytes; for pending, the bytes received, and an empty part while idle."

abbrev pub manifest_of : Role → Held → List ℕ
manifest_of Role.Active h = take h.slot.active.length h.active
manifest_of Role.Pending h = take (received_of h.slot.transfer) h.pending

-- the reader's part, empty where it refuses, with its companion's number
unfoldable pub read_step : Role → Held → Outcome (List ℕ)
read_step role h = decided (lent_number h) [] (manifest_of role h)
