use Rattle.std.proofs.Common.{rules, arith, ◌-◌, ◌≤◌, length, IfOk}
use borrow.Rule.Slice.PartMut.{put_mid}
use Rattle.whole_io.proofs.KnownBytes.{Read, read_again, read_over}
use Rattle.whole_io.proofs.TransferLaws.{GoesOn, goes_on, goes_nearer, ends}
use Rattle.whole_io.proofs.read_whole.Goals as goal

pub loop-at-smaller : goal.loop-at-smaller
loop-at-smaller g c =
    let fits : IfOk c.read.result (λ n. n ≤ length c.args.buffer.now - c.loop-at.at.done) = search rules in
    (goes_nearer _ _ _ _ _ c.loop-at.invariant.within fits (goes_on _ _ _ _ _ fits c.in-Continue.ensures)).nearer

pub loop-at-preserved : goal.loop-at-preserved
loop-at-preserved g c =
    let fits : IfOk c.read.result (λ n. n ≤ length c.args.buffer.now - c.loop-at.at.done) = search rules in
    let on : GoesOn _ _ c.read.result c.in-Continue.next = goes_on _ _ _ _ _ fits c.in-Continue.ensures in
    record {
      length = search rules;
      within = (goes_nearer _ _ _ _ _ c.loop-at.invariant.within fits on).within;
      gave = read_again _ _ _ _ _ _ _ (omega arith) c.loop-at.invariant.gave _ _ _ c.read.ensures.bound c.read.ensures.bytes on;
    }

pub returns-in-Break : goal.returns-in-Break
returns-in-Break g c =
    let left = length c.loop-at.buffer - c.loop-at.at.done in
    let r : Read (g.R.Read.remaining c.args.from.now) (g.R.Read.remaining c.read.new.self) (put_mid c.loop-at.at.done left c.loop-at.buffer c.read.new.buf)
    c.in-Break.reading =
    read_over _ _ _ _ _ _ _ (omega arith) c.loop-at.invariant.gave (search rules) (search rules) _ _
    c.read.ensures.bound c.read.ensures.bytes (ends _ _ _ _ _ c.in-Break.ensures) in
    record { count = r.count; length = search rules; bytes = r.bytes; end = r.end; nothing = search rules; failed = r.failed }
