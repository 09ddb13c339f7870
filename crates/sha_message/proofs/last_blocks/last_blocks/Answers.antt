use Rattle.std.proofs.Common.{ℕ, ◌+◌, ◌-◌, ◌*◌, ◌/◌, ◌%◌, ◌<◌, ◌≤◌, ◌≡◌, List, length, map, ap, arith, ◌∙◌}
use Rattle.octets.specs.Octets.{zeros}
use Rattle.fips180.specs.Family.{block_bytes, length_bytes}
use Rattle.fips180.specs.Hash.{compress, hash_value}
use Rattle.fips180.specs.LastBlocks.{with_length}
use Rattle.fips180.proofs.Blocks.{hash_value_one}
use Rattle.fips180.proofs.LastBlocks.{length_tail_block, last_one, last_two}
use Rattle.sha_words.proofs.Sizes.{word_positive, block_size, length_size}
use Rattle.sha_message.proofs.last_blocks.last_blocks.Goals as goal

pub returns-then-m : goal.returns-then-m
returns-then-m g c = λ h k e n.
    let f = g.W.Word.family in
    let m : List ℕ = c.args.m.now in
    let size = g.met.W.Word.sizes in
    let b = block_size size in
    let w = length_size size in
    let over = ap (λ (x : ℕ). length m % x) b in
    let fits : length m % block_bytes f + length_bytes f < block_bytes f = omega (arith, c.if-m.true) in
    last_one f (word_positive size) m k h c.args.n fits (n ∙ ap (λ (x : ℕ). k * x + length m) b)
    (e ∙ ap (λ (x : ℕ). hash_value f h m (length m / x)) b) c.put_tail.ensures c.last_block.ensures

pub returns : goal.returns
unfolding zeros
returns g c = λ h k e n.
    let f = g.W.Word.family in
    let m : List ℕ = c.args.m.now in
    let size = g.met.W.Word.sizes in
    let b = block_size size in
    let w = length_size size in
    let pos = word_positive size in
    let s : List ℕ = map g.W.Word.number c.args.s.now in
    let tail : List ℕ = c.put_tail.new.out in
    let over = ap (λ (x : ℕ). length m % x) b in
    let full : block_bytes f ≤ length m % block_bytes f + length_bytes f = omega (arith, c.if-m.false) in
    let long = ap length c.put_tail.ensures ∙ length_tail_block f pos m in
    let first = hash_value_one f pos s tail (c.whole_blocks.ensures ∙ ap (λ (x : ℕ). hash_value f s tail (length tail / x)) b) long in
    let z : length tail - 0 ≡ block_bytes f = omega arith in
    let blank = c.zero_from.ensures ∙ ap zeros z in
    last_two f pos m k h c.args.n full (n ∙ ap (λ (x : ℕ). k * x + length m) b) (e ∙ ap (λ (x : ℕ). hash_value f h m (length m / x)) b) c.put_tail.ensures first
    (c.last_block-2.ensures ∙ ap (λ (x : List ℕ). compress f (with_length f c.args.n x) (map g.W.Word.number c.whole_blocks.new.s)) blank)
