use Rattle.std.proofs.Common.{map}
use Rattle.fips180.proofs.Round.{Summed}
use Rattle.sha_blocks.proofs.block.sums.Given as goal

abbrev pub invariant-loop-i : goal.invariant-loop-i
invariant-loop-i g l =
    let n = g.W.Word.number in
    Summed g.W.Word.family (map n l.s) (map n l.t) l.i (map n l.r)
