use Rattle.std.proofs.Common.{◌+◌, ◌%◌, arith}
use Rattle.fips180.specs.Groups.{queue_word}
use Rattle.sha_words.proofs.Numbers.{element}
use Rattle.sha_blocks.proofs.schedule.next_word.Goals as goal

pub returns : goal.returns
unfolding queue_word
returns g c =
    let n = g.W.Word.number in
    let w = c.args.w.now in
    let i = c.args.i in
    let w2 = element n w ((i + 14) % 16) c.index-w-i.result (omega arith) in
    let w7 = element n w ((i + 9) % 16) c.index-w-i-2.result (omega arith) in
    let w15 = element n w ((i + 1) % 16) c.index-w-i-3.result (omega arith) in
    let w16 = element n w i c.index-w-i-4.result (omega arith) in
    cc
