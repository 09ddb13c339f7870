use Rattle.std.proofs.Common.{map, ◌∙◌}
use Rattle.std.proofs.lemmas.List.{length-map}
use Rattle.fips180.specs.Padding.{word_at}
use Rattle.fips180.proofs.Groups.{sixteen_rounds, filled_block}
use Rattle.sha_blocks.proofs.rounds.first_sixteen_rounds.Goals as goal

pub returns : goal.returns
returns g c =
    let f = g.W.Word.family in
    let n = g.W.Word.number in
    let a = c.args in
    let done = sixteen_rounds f (λ i _. word_at f a.b.now i) _ (map n a.w.now) (map n a.s) 0 c.constants_from-k.ensures.values
    (c.first_round-s1.ensures.queue, c.first_round-s1.ensures.state)
    (c.first_round-s2.ensures.queue, c.first_round-s2.ensures.state)
    (c.first_round-s3.ensures.queue, c.first_round-s3.ensures.state)
    (c.first_round-s4.ensures.queue, c.first_round-s4.ensures.state)
    (c.first_round-s5.ensures.queue, c.first_round-s5.ensures.state)
    (c.first_round-s6.ensures.queue, c.first_round-s6.ensures.state)
    (c.first_round-s7.ensures.queue, c.first_round-s7.ensures.state)
    (c.first_round-s8.ensures.queue, c.first_round-s8.ensures.state)
    (c.first_round-s9.ensures.queue, c.first_round-s9.ensures.state)
    (c.first_round-s10.ensures.queue, c.first_round-s10.ensures.state)
    (c.first_round-s11.ensures.queue, c.first_round-s11.ensures.state)
    (c.first_round-s12.ensures.queue, c.first_round-s12.ensures.state)
    (c.first_round-s13.ensures.queue, c.first_round-s13.ensures.state)
    (c.first_round-s14.ensures.queue, c.first_round-s14.ensures.state)
    (c.first_round-s15.ensures.queue, c.first_round-s15.ensures.state)
    (c.first_round.ensures.queue, c.first_round.ensures.state) in
    record { queue = done.0 ∙ filled_block f a.b.now (map n a.w.now) (length-map a.w.now n ∙ c.told-w); state = done.1 }
