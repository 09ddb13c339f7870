-- The certificate slot mask: document 000, Challenge, the response's payload byte 2. Document 02, Item 14: "the certificate slot mask of eight bits from
-- the challenge response (slot 0 is the bit worth 1): how many slots hold a chain, and the lowest that does, with a named answer for none".
use Rattle.std.specs.Prelude.{ℕ, zero, suc, ◌/◌, ◌%◌, ◌^◌, Bool, cond, Option, None, Some, List, [], ◌∷◌, ◌++◌, length, eqb}

-- slot k holds a chain: the bit worth 2 ^ k is set
unfoldable pub holds_chain : ℕ → ℕ → Bool
holds_chain mask k = eqb (mask / 2 ^ k % 2) 1

-- the slots below n that hold a chain, rising
unfoldable pub chains_below : ℕ → ℕ → List ℕ
chains_below zero mask = []
chains_below (suc k) mask = chains_below k mask ++ cond (holds_chain mask k) (k ∷ []) []

-- document 000: "Slot Number (0 to 7)"
unfoldable pub chains : ℕ → List ℕ
chains mask = chains_below 8 mask

unfoldable pub chain_count : ℕ → ℕ
chain_count mask = length (chains mask)

abbrev pub first : List ℕ → Option ℕ
first [] = None
first (k ∷ ks) = Some k

unfoldable pub lowest_chain : ℕ → Option ℕ
lowest_chain mask = first (chains mask)
