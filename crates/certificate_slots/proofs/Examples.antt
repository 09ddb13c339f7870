-- Masks with their slots counted by hand.
use mathlib.Core.Path.{◌≡◌, refl}
use mathlib.Core.List.{[], ◌∷◌}
use Rattle.std.specs.Prelude.{None, Some}
use Rattle.certificate_slots.specs.Slots.{holds_chain, chains_below, chains, chain_count, lowest_chain}

-- no slot holds a chain
no_slot_law : (chain_count 0 ≡ 0) × (lowest_chain 0 ≡ None)
unfolding chain_count lowest_chain chains chains_below holds_chain
no_slot_law = (refl, refl)

-- slot 0 alone: the bit worth 1
slot_0 : (chain_count 0x01 ≡ 1) × (lowest_chain 0x01 ≡ Some 0)
unfolding chain_count lowest_chain chains chains_below holds_chain
slot_0 = (refl, refl)

-- slot 7 alone: the bit worth 128
slot_7 : (chain_count 0x80 ≡ 1) × (lowest_chain 0x80 ≡ Some 7)
unfolding chain_count lowest_chain chains chains_below holds_chain
slot_7 = (refl, refl)

-- slots 2, 5 and 7
three_slots : (chains 0xa4 ≡ 2 ∷ 5 ∷ 7 ∷ []) × (lowest_chain 0xa4 ≡ Some 2)
unfolding chain_count lowest_chain chains chains_below holds_chain
three_slots = (refl, refl)

-- every slot
all_slots : (chain_count 0xff ≡ 8) × (lowest_chain 0xff ≡ Some 0)
unfolding chain_count lowest_chain chains chains_below holds_chain
all_slots = (refl, refl)
