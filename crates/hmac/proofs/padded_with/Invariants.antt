use Rattle.std.proofs.Common.{◌≡◌, ◌<◌, ◌≤◌, ℕ, length, get_or, bit_xor}
use Rattle.hmac.proofs.padded_with.Given as goal

-- the bytes before the index are padded, the others still to come
abbrev pub invariant-loop-byte : goal.invariant-loop-byte
invariant-loop-byte l =
    let out = l.byte-items in
    (length out ≡ 64)
    × ((k : ℕ) → k < l.byte-index → get_or out k 0 ≡ bit_xor (get_or l.fn.block k 0) l.pad)
    × ((k : ℕ) → l.byte-index ≤ k → get_or out k 0 ≡ get_or l.fn.block k 0)
