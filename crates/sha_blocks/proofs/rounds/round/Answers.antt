use Rattle.std.proofs.Common.{rules, ap, ◌∙◌}
use Rattle.fips180.specs.Hash.{round}
use Rattle.fips180.proofs.Round.{t1_is, t2_is, step_is}
use Rattle.sha_words.proofs.Numbers.{eight}
use Rattle.sha_blocks.proofs.rounds.round.Goals as goal

pub returns : goal.returns
unfolding round
returns g c =
    let f = g.W.Word.family in
    let n = g.W.Word.number in
    let a = c.args in
    step_is f _ _ _ _ _ _ _ _ _ _ _ _ _ _
    (t1_is f _ _ _ _ _ _ _ _ _ _ _ _ c.big_sigma1.ensures c.add.ensures c.choose.ensures c.add-2.ensures c.add-3.ensures c.add-t1.ensures)
    (t2_is f _ _ _ _ _ _ c.big_sigma0.ensures c.majority.ensures c.add-t2.ensures) c.add-4.ensures c.add-5.ensures
    ∙ ap (round f (n a.k) (n a.w)) (eight n a.s _ _ _ _ _ _ _ _ (search rules))
