use Rattle.std.proofs.Common.{map}
use Rattle.fips180.specs.Groups.{queue_word, advanced}
use Rattle.fips180.proofs.Groups.{sixteen_rounds}
use Rattle.sha_blocks.proofs.rounds.next_sixteen_rounds.Goals as goal

pub returns : goal.returns
unfolding advanced
returns g c =
    let f = g.W.Word.family in
    let n = g.W.Word.number in
    let a = c.args in
    let done = sixteen_rounds f (queue_word f) _ (map n a.w.now) (map n a.s) a.t c.constants_from-k.ensures.values
    (c.next_round-s1.ensures.queue, c.next_round-s1.ensures.state)
    (c.next_round-s2.ensures.queue, c.next_round-s2.ensures.state)
    (c.next_round-s3.ensures.queue, c.next_round-s3.ensures.state)
    (c.next_round-s4.ensures.queue, c.next_round-s4.ensures.state)
    (c.next_round-s5.ensures.queue, c.next_round-s5.ensures.state)
    (c.next_round-s6.ensures.queue, c.next_round-s6.ensures.state)
    (c.next_round-s7.ensures.queue, c.next_round-s7.ensures.state)
    (c.next_round-s8.ensures.queue, c.next_round-s8.ensures.state)
    (c.next_round-s9.ensures.queue, c.next_round-s9.ensures.state)
    (c.next_round-s10.ensures.queue, c.next_round-s10.ensures.state)
    (c.next_round-s11.ensures.queue, c.next_round-s11.ensures.state)
    (c.next_round-s12.ensures.queue, c.next_round-s12.ensures.state)
    (c.next_round-s13.ensures.queue, c.next_round-s13.ensures.state)
    (c.next_round-s14.ensures.queue, c.next_round-s14.ensures.state)
    (c.next_round-s15.ensures.queue, c.next_round-s15.ensures.state)
    (c.next_round.ensures.queue, c.next_round.ensures.state) in
    record { queue = done.0; state = done.1 }
