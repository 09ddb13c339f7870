use Rattle.std.proofs.Common.{◌≡◌, List, ℕ, ◌++◌, length, take, ap, ◌∙◌, arith, rules, length-append}
use Rattle.fips180.specs.Hash.{word_bytes_of}
use Rattle.fips180.specs.Continued.{hash_after}
use Rattle.fips180.specs.Family.{block_bytes}
use Rattle.fips180.specs.Sha256.{family32, initial256, sha256}
use Rattle.fips180.proofs.Blocks.{hash_value_one}
use Rattle.fips180.proofs.Continued.{digest_block}
use Rattle.sha256.proofs.Laws.{reply_accepted, reply_refused}
use Rattle.sha256.proofs.sha256_after_block.Goals as goal

pub returns-then-message : goal.returns-then-message
returns-then-message c =
    let a = c.args in
    let e : length a.block ≡ 64 = search rules in
    let n = length-append a.block a.message.now in
    reply_refused (a.block ++ a.message.now) (omega arith)

pub returns : goal.returns
unfolding sha256 initial256 block_bytes family32
returns c =
    let a = c.args in
    let m = a.block ++ a.message.now in
    let e : length a.block ≡ 64 = search rules in
    let n = length-append a.block a.message.now in
    let block = hash_value_one family32 (omega arith) initial256 a.block c.whole_blocks.ensures e in
    reply_accepted m
    (c.digest.ensures 1 (omega arith) (omega arith)
    ∙ ap (λ (v : List ℕ). take 32 (word_bytes_of family32 8 (hash_after family32 v 1 a.message.now))) block
    ∙ digest_block family32 (omega arith) initial256 a.block 32 a.message.now e)
    (omega arith)
