use Rattle.std.proofs.Common.{rules, ◌-◌, ◌≤◌, length, IfOk}
use Rattle.whole_io.proofs.KnownBytes.{write_again}
use Rattle.whole_io.proofs.TransferLaws.{GoesOn, goes_on, goes_nearer}
use Rattle.whole_io.proofs.write_whole.Goals as goal

pub loop-at-smaller : goal.loop-at-smaller
loop-at-smaller g c =
    let fits : IfOk c.write.result (λ n. n ≤ length c.args.bytes.now - c.loop-at.at.done) = search rules in
    (goes_nearer _ _ _ _ _ c.loop-at.invariant.within fits (goes_on _ _ _ _ _ fits c.in-Continue.ensures)).nearer

pub loop-at-preserved : goal.loop-at-preserved
loop-at-preserved g c =
    let fits : IfOk c.write.result (λ n. n ≤ length c.args.bytes.now - c.loop-at.at.done) = search rules in
    let on : GoesOn _ _ c.write.result c.in-Continue.next = goes_on _ _ _ _ _ fits c.in-Continue.ensures in
    record {
      within = (goes_nearer _ _ _ _ _ c.loop-at.invariant.within fits on).within;
      took = write_again _ _ _ _ _ c.loop-at.invariant.took _ _ _ c.write.ensures.bytes on;
    }
