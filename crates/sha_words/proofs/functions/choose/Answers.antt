use Rattle.fips180.specs.Family.{word_bits}
use Rattle.fips180.proofs.Words.{ch_merge}
use Rattle.sha_words.proofs.functions.choose.Goals as goal

pub returns : goal.returns
returns g c =
    let n = g.W.Word.number in
    let a = c.args in
    cc (ch_merge (word_bits g.W.Word.family) (n a.x) (n a.y) (n a.z) (g.met.W.Word.below a.x) (g.met.W.Word.below a.z))
