use Rattle.std.proofs.Common.{ℕ, refl, rules, ap₂, ◌<◌, length, ◌∙◌}
use Rattle.std.proofs.lemmas.List.{length-map}
use Rattle.fips180.specs.Hash.{plus}
use Rattle.fips180.proofs.Round.{summed_none, summed_next}
use Rattle.sha_words.proofs.Numbers.{element, stored}
use Rattle.sha_blocks.proofs.block.sums.Goals as goal

pub loop-i-init : goal.loop-i-init
loop-i-init g c = summed_none g.W.Word.family _ _ (length-map c.args.s g.W.Word.number ∙ search rules)

pub loop-i-preserved : goal.loop-i-preserved
loop-i-preserved g c =
    let f = g.W.Word.family in
    let n = g.W.Word.number in
    let a = c.args in
    let i : ℕ = c.loop-i.i in
    let s : i < length a.s = search rules in
    let t : i < length a.t = search rules in
    summed_next f c.loop-i-test.true c.loop-i.invariant
    (c.add.ensures ∙ ap₂ (plus f) (element n a.s i c.index-s-i.result s) (element n a.t i c.index-t-i.result t)) (stored n c.loop-i.r i c.add.result refl)
