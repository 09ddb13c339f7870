-- The slots by the machine's count of ones, the lowest slot by the machine's count of trailing zeros; and that it is the least that holds a chain.
use Prim.Native.Nat.{ℕ, ◌^◌, ◌<◌, ◌≤◌}
use mathlib.Core.Path.{◌≡◌, ap, subst}
use mathlib.Core.Bool.{false}
use mathlib.Core.Logic.{◌⊎◌, ⊎_elim}
use Rattle.std.specs.Prelude.{None, Some}
use native.Mathlib.Nat.{eq-or-lt_of_le}
use native.Mathlib.Omega.{arith}
use lib.Count.{ones, count_trailing_zeros}
use Rattle.certificate_slots.specs.Slots.{holds_chain, chains, first, chain_count, lowest_chain}
use Rattle.certificate_slots.specs.Claim.{SlotsMean, LeastChain}
use Rattle.certificate_slots.proofs.Bits.{ones_count, trailing_tells, none_below, first_below, holds_yes, holds_no}

module _ (mask : ℕ) where
  pub count_of_ones : mask < 2 ^ 8 → ones mask ≡ chain_count mask
  unfolding chain_count chains
  count_of_ones h = ones_count 8 mask h

  pub lowest_none : 8 ≤ count_trailing_zeros 8 mask → lowest_chain mask ≡ None
  unfolding lowest_chain chains
  lowest_none h = ap first (none_below 8 mask (λ k l. (trailing_tells 8 mask).below k (omega arith)))

  pub lowest_some : count_trailing_zeros 8 mask < 8 → lowest_chain mask ≡ Some (count_trailing_zeros 8 mask)
  unfolding lowest_chain chains
  lowest_some h = let t = trailing_tells 8 mask in first_below 8 mask (count_trailing_zeros 8 mask) h t.below (t.here h)

  -- all slots are empty, or the lowest that holds a chain is where the zeros end
  cases : (count_trailing_zeros 8 mask ≡ 8) ⊎ (count_trailing_zeros 8 mask < 8)
  cases = eq-or-lt_of_le (trailing_tells 8 mask).within

  least_here : count_trailing_zeros 8 mask < 8 → LeastChain mask (count_trailing_zeros 8 mask)
  least_here h =
      let t = trailing_tells 8 mask in
      record { slot = h; holds = (holds_yes mask _).0 (t.here h); below = λ j l. (holds_no mask j).0 (t.below j l) }

  least_tells : (k : ℕ) → lowest_chain mask ≡ Some k → LeastChain mask k
  least_tells k e =
      ⊎_elim
      (λ (z : count_trailing_zeros 8 mask ≡ 8). let z = lowest_none (omega arith) in cc)
      (λ (h : count_trailing_zeros 8 mask < 8). let z = lowest_some h in subst (LeastChain mask) (cc) (least_here h))
      cases

  least_told : (k : ℕ) → LeastChain mask k → lowest_chain mask ≡ Some k
  unfolding lowest_chain chains
  least_told k p = first_below 8 mask k p.slot (λ j l. (holds_no mask j).1 (p.below j l)) ((holds_yes mask k).1 p.holds)

  empty_tells : lowest_chain mask ≡ None → (k : ℕ) → k < 8 → holds_chain mask k ≡ false
  empty_tells e k l =
      ⊎_elim
      (λ (z : count_trailing_zeros 8 mask ≡ 8). (holds_no mask k).0 ((trailing_tells 8 mask).below k (omega arith)))
      (λ (h : count_trailing_zeros 8 mask < 8). let z = lowest_some h in cc)
      cases

  empty_told : ((k : ℕ) → k < 8 → holds_chain mask k ≡ false) → lowest_chain mask ≡ None
  unfolding lowest_chain chains
  empty_told h = ap first (none_below 8 mask (λ k l. (holds_no mask k).1 (h k l)))

pub slots_mean : SlotsMean
slots_mean =
    record {
      least = λ mask k. (least_tells mask k, least_told mask k);
      empty = λ mask. (empty_tells mask, empty_told mask);
    }
