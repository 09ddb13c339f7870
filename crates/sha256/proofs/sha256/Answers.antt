use Rattle.std.proofs.Common.{◌∙◌, arith}
use Rattle.fips180.specs.Sha256.{family32, initial256, sha256}
use Rattle.fips180.proofs.Continued.{digest_whole}
use Rattle.sha256.proofs.Laws.{reply_accepted}
use Rattle.sha256.proofs.sha256.Goals as goal

pub returns : goal.returns
unfolding sha256 initial256 family32
returns c =
    let m = c.args.message.now in
    reply_accepted m (c.digest.ensures 0 (omega arith) (omega arith) ∙ digest_whole family32 (omega arith) initial256 32 m) (omega arith)
