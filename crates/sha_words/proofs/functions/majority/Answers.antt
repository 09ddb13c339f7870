use Rattle.fips180.specs.Family.{word_bits}
use Rattle.fips180.proofs.Words.{maj_agreed}
use Rattle.sha_words.proofs.functions.majority.Goals as goal

pub returns : goal.returns
returns g c =
    let n = g.W.Word.number in
    let a = c.args in
    let below = g.met.W.Word.below in
    cc (maj_agreed (word_bits g.W.Word.family) (n a.x) (n a.y) (n a.z) (below a.x) (below a.y) (below a.z))
