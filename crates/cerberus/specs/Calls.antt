-- What the C calls answer and leave, by the definitions of the calls that they stand for. A refused call writes to no pointer.
use Rattle.std.specs.Prelude.{ℕ, ◌+◌, ◌*◌, Bool, List, [], Option, None, Some, Result, Ok, Err, length, ltb, is_err}
use Rattle.refusal.specs.declared.Refusal.{Refusal}
use Rattle.refusal.specs.declared.NoRefusal.{NoRefusal}
use Rattle.refusal.specs.Refusals.{refusal_of, meaning_of, longest_meaning}
use Rattle.refusal.specs.Steps.{Outcome, outcome, decided}
use Rattle.octets.specs.Octets.{pasted}
use Rattle.refusal.specs.Rules.{◌when◌else◌, first◌then◌}
use Rattle.manifest_slot.specs.Slot.{Held}
use Rattle.manifest_slot.specs.Calls.{lent_number, manifest_of}
use Rattle.laws.specs.Tests.{bit_of}
use Rattle.certificate_slots.specs.Slots.{chain_count, lowest_chain}
use Rattle.hash.specs.Types.{hash_length}
use Rattle.regions.specs.declared.region.Region.{Region}
use Rattle.regions.specs.RwRegion.{RwFields}
use Rattle.signed_image.specs.SignedImage.{ImageFields}
use Rattle.root_cas.specs.declared.RootCas.{RootCas}
use Rattle.root_cas.specs.RootCas.{roots_head_length}
use Rattle.c_encoding.specs.Roles.{role_of}

-- ---- the refusals' meaning: "3 text has under 80 bytes; 5 number is not 1 to 12"

-- no refusal has this number
abbrev pub no_refusal : ℕ → Bool
no_refusal n = is_err (refusal_of n)

unfoldable pub meaning_number : ℕ → List ℕ → ℕ
meaning_number n text =
    3 when ltb (length text) longest_meaning else
    5 when no_refusal n else
    0

abbrev pub meaning_bytes : Result Refusal NoRefusal → List ℕ
meaning_bytes (Ok why) = meaning_of why
meaning_bytes (Err none) = []

-- the text and the length behind the pointers
unfoldable pub meaning_step : ℕ → List ℕ → ℕ → Outcome (List ℕ × ℕ)
meaning_step n text len =
    let meaning = meaning_bytes (refusal_of n) in
    decided (meaning_number n text) (text, len) (pasted text 0 meaning, length meaning)

-- ---- the manifest of a role: "0 active, 1 pending"; another number is 5, after the slot's own refusals

unfoldable pub manifest_number : ℕ → Held → ℕ
manifest_number role h =
    first lent_number h then
    5 when ltb 1 role else
    0

unfoldable pub manifest_step : ℕ → Held → Outcome (List ℕ)
manifest_step role h = decided (manifest_number role h) [] (manifest_of (role_of role) h)

-- ---- what the elements' readers show behind pointers

abbrev pub addresses : Region → ℕ × ℕ
addresses r = (r.start, r.end)

abbrev pub rw_values : RwFields → ℕ × ℕ × ℕ
rw_values f = (f.operation, f.region.start, f.region.end)

-- hash type, region count, must-validate bit, and the hash's length
abbrev pub image_values : ImageFields → ℕ × ℕ × ℕ × ℕ
image_values i = (i.hash_type, i.region_count, bit_of i.must_validate, hash_length i.hash_type)

-- count, and each hash's length
abbrev pub roots_values : ℕ → RootCas → ℕ × ℕ
roots_values hash_type r = (r.count, hash_length hash_type)

-- where a hash begins in the element, and its length
abbrev pub hash_place : ℕ → ℕ → ℕ × ℕ
hash_place hash_type index = (roots_head_length + hash_length hash_type * index, hash_length hash_type)

-- ---- certificate slots: the lowest slot, "or CERBERUS_NO_CHAIN if none does"

abbrev pub slot_number : Option ℕ → ℕ
slot_number None = 255
slot_number (Some k) = k

-- how many slots hold a chain, and the lowest that does
abbrev pub chains_told : ℕ → Outcome (ℕ × ℕ)
chains_told mask = outcome 0 (chain_count mask, slot_number (lowest_chain mask))
