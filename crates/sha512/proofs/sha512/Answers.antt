use Rattle.std.proofs.Common.{◌∙◌, arith}
use Rattle.fips180.specs.Sha512.{family64, initial512, sha512}
use Rattle.fips180.proofs.Continued.{digest_whole}
use Rattle.sha512.proofs.sha512.Goals as goal

pub returns : goal.returns
unfolding sha512 initial512 family64
returns c = c.digest.ensures 0 (omega arith) (omega arith) ∙ digest_whole family64 (omega arith) initial512 64 c.args.message.now
