-- That the first of the slots that hold a chain is the least that does.
use Rattle.std.specs.Prelude.{ℕ, ◌<◌, ◌≡◌, true, false, None, Some, ◌↔◌}
use Rattle.certificate_slots.specs.Slots.{holds_chain, lowest_chain}

pub record LeastChain (mask k : ℕ) : Type 0 where
  pub slot : k < 8
  pub holds : holds_chain mask k ≡ true
  pub below : (j : ℕ) → j < k → holds_chain mask j ≡ false

pub record SlotsMean : Type 0 where
  pub least : (mask k : ℕ) → lowest_chain mask ≡ Some k ↔ LeastChain mask k
  pub empty : (mask : ℕ) → lowest_chain mask ≡ None ↔ ((k : ℕ) → k < 8 → holds_chain mask k ≡ false)
