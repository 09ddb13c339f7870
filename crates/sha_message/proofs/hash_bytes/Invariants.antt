use Rattle.std.proofs.Common.{map}
use Rattle.fips180.proofs.Stores.{Written}
use Rattle.sha_message.proofs.hash_bytes.Given as goal

abbrev pub invariant-loop-i : goal.invariant-loop-i
invariant-loop-i g l = Written g.W.Word.family (map g.W.Word.number l.s) g.row.B l.i l.out
