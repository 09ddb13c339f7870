use Rattle.std.proofs.Common.{rules}
use Rattle.pairing.proofs.Derivation.{key_put}
use Rattle.pairing.proofs.pairing_key.Goals as goal

pub returns : goal.returns
returns c = key_put c.args.session_key.now c.args.out.now _ c.if-out-ne-KEY_LEN.false c.in_ok-first_iteration.ensures (search rules) c.put.ensures
