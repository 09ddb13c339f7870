use Rattle.std.proofs.Common.{arith}
use Rattle.fips180.specs.Sha512.{family64}
use Rattle.fips180.proofs.Stores.{two_words}
use Rattle.sha_words.proofs.word64.U64Word8.length_words.Goals as goal

pub returns : goal.returns
unfolding family64
returns c = two_words family64 c.args.n _ _ (omega arith) (omega arith)
