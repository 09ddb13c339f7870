use Rattle.std.proofs.Common.{◌∙◌, arith}
use Rattle.fips180.specs.Sha512.{family64, initial384, sha384}
use Rattle.fips180.proofs.Continued.{digest_whole}
use Rattle.sha512.proofs.sha384.Goals as goal

pub returns : goal.returns
unfolding sha384 initial384 family64
returns c = c.digest.ensures 0 (omega arith) (omega arith) ∙ digest_whole family64 (omega arith) initial384 48 c.args.message.now
