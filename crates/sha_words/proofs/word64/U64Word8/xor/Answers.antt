use lib.Bits.{xor_mod}
use Rattle.sha_words.proofs.word64.U64Word8.xor.Goals as goal

pub returns : goal.returns
returns c = xor_mod c.args.self c.args.other 64
