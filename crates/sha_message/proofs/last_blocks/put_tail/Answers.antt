use Rattle.std.proofs.Common.{ℕ, ◌-◌, ◌%◌, List, length, drop, ap, rules, ◌∙◌}
use Rattle.octets.specs.Octets.{zeros, pasted}
use Rattle.octets.proofs.Buffers.{pasted_zeros}
use Rattle.fips180.specs.Family.{block_bytes}
use Rattle.fips180.proofs.LastBlocks.{tail_left}
use Rattle.sha_words.proofs.Sizes.{word_positive, block_size}
use Rattle.sha_message.proofs.last_blocks.put_tail.Goals as goal

pub returns : goal.returns
unfolding zeros
returns g c =
    let m : List ℕ = c.args.m.now in
    let size = g.met.W.Word.sizes in
    let b = block_size size in
    let tail : List ℕ = c.remainder-tail.result.now in
    tail_left g.W.Word.family (word_positive size) m
    (c.remainder-tail.ensures ∙ c.chunks_exact.ensures.remainder ∙ ap (λ (n : ℕ). drop (length m - length m % n) m) b)
    (c.put.ensures
    ∙ ap (λ (d : List ℕ). pasted d 0 tail) (c.requires ∙ ap zeros b)
    ∙ pasted_zeros (block_bytes g.W.Word.family) tail (search rules))
