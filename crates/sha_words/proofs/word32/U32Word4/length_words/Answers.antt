use Rattle.std.proofs.Common.{arith}
use Rattle.fips180.specs.Sha256.{family32}
use Rattle.fips180.proofs.Stores.{two_words}
use Rattle.sha_words.proofs.word32.U32Word4.length_words.Goals as goal

pub returns : goal.returns
unfolding family32
returns c = two_words family32 c.args.n _ _ (omega arith) (omega arith)
