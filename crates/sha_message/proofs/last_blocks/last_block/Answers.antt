use Rattle.std.proofs.Common.{ℕ, ◌/◌, List, length, map, ap, rules, ◌∙◌}
use Rattle.fips180.specs.Hash.{compress, hash_value}
use Rattle.fips180.proofs.Blocks.{hash_value_one}
use Rattle.fips180.proofs.Stores.{length_put}
use Rattle.sha_words.proofs.Sizes.{word_positive, block_size}
use Rattle.sha_message.proofs.last_blocks.last_block.Goals as goal

pub returns : goal.returns
returns g c =
    let f = g.W.Word.family in
    let a = c.args in
    let size = g.met.W.Word.sizes in
    let s : List ℕ = map g.W.Word.number a.s.now in
    let d : List ℕ = c.put-2.new.dst in
    let b = block_size size in
    let long = c.requires ∙ b in
    let e =
    length_put f a.b.now a.n _ _ g.row.B size.bytes long c.length_words-high.ensures c.to_be_bytes.ensures c.to_be_bytes-2.ensures c.put.ensures
    c.put-2.ensures
    in
    hash_value_one f (word_positive size) s d (c.whole_blocks.ensures ∙ ap (λ (n : ℕ). hash_value f s d (length d / n)) b) (search rules ∙ long)
    ∙ ap (λ (x : List ℕ). compress f x s) e
