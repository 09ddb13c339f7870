use Rattle.std.proofs.Common.{◌-◌, ◌+◌, ◌≡◌, ◌≤◌, length, take}
use Rattle.std.specs.Io.KnownBytes.{Consumes}
use Rattle.whole_io.proofs.read_whole.Given as goal

abbrev pub invariant-loop-at : goal.invariant-loop-at
invariant-loop-at g l = record {
  length : length l.buffer ≡ l.len;
  within : l.at.done ≤ l.len;
  gave : Consumes (g.R.Read.remaining l.initial.from) (g.R.Read.remaining l.from) (take l.at.done l.buffer);
}

abbrev pub decreases-loop-at : goal.decreases-loop-at
decreases-loop-at g l = l.len - l.at.done + l.at.interruptions
