use Rattle.std.proofs.Common.{ℕ, List}
use Rattle.std.specs.Io.KnownBytes.{Appends}
use Rattle.whole_io.proofs.write_failure.Given as goal

abbrev pub invariant-loop-part : goal.invariant-loop-part
invariant-loop-part g l = (bytes : List ℕ) × Appends (g.W.Write.contents l.initial.to) (g.W.Write.contents l.to) bytes
