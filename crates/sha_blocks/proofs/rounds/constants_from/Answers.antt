use Rattle.std.proofs.Common.{ℕ, ◌+◌, ◌-◌, ◌≡◌, List, map, take, drop, ap, arith, ◌∙◌}
use Rattle.sha_words.proofs.Numbers.{part}
use Rattle.sha_blocks.proofs.rounds.constants_from.Goals as goal

pub returns-clause-values : goal.returns-clause-values
returns-clause-values g c =
    let n = g.W.Word.number in
    let t : ℕ = c.args.t in
    let ks = c.constants.result.now in
    let e : t + 16 - t ≡ 16 = omega arith in
    ap (λ (k : ℕ). map n (take k (drop t ks))) e ∙ part n ks 16 t ∙ ap (λ (l : List ℕ). take 16 (drop t l)) c.constants.ensures
