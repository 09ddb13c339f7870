use Rattle.std.proofs.Common.{arith, rules}
use Rattle.hmac.proofs.Parts.{padded_block}
use Rattle.hmac.proofs.padded_with.Goals as goal

pub returns : goal.returns
returns c =
    let at = c.loop-byte.invariant in
    padded_block c.args.block _ 64 c.args.pad (search rules) at.0 (λ k h. at.1 k (omega arith))
