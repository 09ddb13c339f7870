-- The claim is not empty: a list of calls from an opening, with the number that each answers and what the reader gives back after them.
use Rattle.std.proofs.Common.{◌≡◌, ℕ, true, false, List, [], ◌∷◌, ◌++◌, refl, ap, ◌∙◌}
use Rattle.refusal.proofs.Laws.{accepted_yes}
use Rattle.octets.specs.Octets.{zeros}
use Rattle.slot_state.specs.State.{buffer_length}
use Rattle.slot_state.specs.Rules.{prepare_rule, update_rule}
use Rattle.manifest_slot.specs.declared.Role.{Role}
use Rattle.manifest_header.specs.Header.{header_unfit}
use Rattle.manifest_slot.specs.Slot.{unsound, fresh, Held, held}
use Rattle.manifest_slot.specs.Calls.{open_step, lent_number, prepare_number, prepare_step, update_number, update_step, pending_rule, activate_rule, activate_number, activate_step, read_step}
use Rattle.manifest_slot.specs.Sequences.{Call, prepare, update, activate, step, after_all}

-- 13 bytes, magic number 0x1234, id 7, and a signature of one byte
abbrev header : List ℕ
header = 13 ∷ 0 ∷ 0x34 ∷ 0x12 ∷ 7 ∷ 0 ∷ 0 ∷ 0 ∷ 1 ∷ 0 ∷ 0 ∷ 0 ∷ []

abbrev signature : List ℕ
signature = 0xa5 ∷ []

-- while idle; totals; a transfer, with refused calls on the way; a bad signature and then a good one; the same manifest again, whose id isn't
-- forward; and one with another length in its header
abbrev calls : List Call
calls =
    update signature ∷ activate true
    ∷ prepare 12 ∷ prepare 4097 ∷ prepare 4096 ∷ prepare 13
    ∷ update [] ∷ update header ∷ activate true ∷ update (0 ∷ 0 ∷ []) ∷ update signature ∷ update signature
    ∷ activate false ∷ activate true
    ∷ prepare 13 ∷ update (header ++ signature) ∷ activate true
    ∷ prepare 13 ∷ update (14 ∷ []) ∷ update header ∷ activate true
    ∷ []

-- what each of them answers
abbrev answers : List ℕ
answers =
    6 ∷ 6
    ∷ 5 ∷ 5 ∷ 0 ∷ 0
    ∷ 2 ∷ 0 ∷ 6 ∷ 5 ∷ 0 ∷ 5
    ∷ 10 ∷ 0
    ∷ 0 ∷ 0 ∷ 9
    ∷ 0 ∷ 0 ∷ 0 ∷ 8
    ∷ []

-- the number of each call
abbrev numbers : List Call → Held → List ℕ
numbers [] h = []
numbers (c ∷ cs) h = (step c h).number ∷ numbers cs (step c h).after

-- the numbers, and the active manifest after them
abbrev seen : Held → List ℕ × List ℕ
seen h = (numbers calls h, (read_step Role.Active (after_all calls h)).after)

-- a slot as every accepted opening leaves it
abbrev start : Held
start = held (fresh 0x1234) (zeros buffer_length) (zeros buffer_length)

computed : seen start ≡ (answers, header ++ signature)
unfolding zeros lent_number unsound header_unfit prepare_rule prepare_number prepare_step update_rule update_number update_step pending_rule activate_rule activate_number activate_step read_step after_all
computed = refl

pub example : (before : Held) → (open_step 0x1234 before).number ≡ 0 → seen (open_step 0x1234 before).after ≡ (answers, header ++ signature)
unfolding open_step
example before e = ap seen (accepted_yes start before e) ∙ computed
