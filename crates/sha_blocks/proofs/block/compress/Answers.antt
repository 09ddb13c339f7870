use Rattle.std.proofs.Common.{map, arith, ◌∙◌}
use Rattle.fips180.proofs.Groups.{grouped_first, grouped_next, grouped_last}
use Rattle.sha_words.proofs.Numbers.{count}
use Rattle.sha_blocks.proofs.block.compress.Goals as goal

pub loop-group-init : goal.loop-group-init
loop-group-init g c =
    let n = g.W.Word.number in
    let a = c.args in
    let first = c.first_sixteen_rounds-v.ensures in
    let size = g.met.W.Word.sizes in
    (omega arith, grouped_first g.W.Word.family a.b.now (map n a.s) first.queue first.state)

pub loop-group-preserved : goal.loop-group-preserved
loop-group-preserved g c =
    let n = g.W.Word.number in
    let a = c.args in
    let at = c.loop-group in
    let size = g.met.W.Word.sizes in
    let k = count n c.constants.result.now c.constants.ensures in
    let next = c.next_sixteen_rounds-u.ensures in
    (omega arith, grouped_next g.W.Word.family a.b.now (map n a.s) at.group at.invariant.1 next.queue next.state)

pub returns : goal.returns
returns g c =
    let n = g.W.Word.number in
    let a = c.args in
    let at = c.loop-group in
    let size = g.met.W.Word.sizes in
    let k = count n c.constants.result.now c.constants.ensures in
    c.sums.ensures ∙ grouped_last g.W.Word.family a.b.now (map n a.s) at.group (omega arith) at.invariant.1
