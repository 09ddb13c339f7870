use Rattle.std.proofs.Common.{◌/◌, ◌≡◌, length, map}
use Rattle.fips180.specs.Family.{block_bytes}
use Rattle.fips180.specs.Hash.{hash_value}
use Rattle.sha_blocks.proofs.whole_blocks.Given as goal

-- what is left of m brings the hash value to where m brings it
abbrev pub invariant-loop-b : goal.invariant-loop-b
invariant-loop-b g l =
    let f = g.W.Word.family in
    let n = g.W.Word.number in
    let r = l.b-iterator.rest.now in
    (l.b-iterator.size ≡ block_bytes f)
    × (hash_value f (map n l.s) r (length r / block_bytes f) ≡ hash_value f (map n l.initial.s) l.m (length l.m / block_bytes f))
