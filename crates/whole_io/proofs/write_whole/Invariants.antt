use Rattle.std.proofs.Common.{◌-◌, ◌+◌, ◌≤◌, take}
use Rattle.std.specs.Io.KnownBytes.{Appends}
use Rattle.whole_io.proofs.write_whole.Given as goal

abbrev pub invariant-loop-at : goal.invariant-loop-at
invariant-loop-at g l = record {
  within : l.at.done ≤ l.len;
  took : Appends (g.W.Write.contents l.initial.to) (g.W.Write.contents l.to) (take l.at.done l.bytes);
}

abbrev pub decreases-loop-at : goal.decreases-loop-at
decreases-loop-at g l = l.len - l.at.done + l.at.interruptions
