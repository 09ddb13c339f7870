use Rattle.std.proofs.Common.{◌/◌, ◌≤◌, map}
use Rattle.fips180.proofs.Groups.{Grouped}
use Rattle.sha_blocks.proofs.block.compress.Given as goal

abbrev pub invariant-loop-group : goal.invariant-loop-group
invariant-loop-group g l =
    let f = g.W.Word.family in
    let n = g.W.Word.number in
    (l.group ≤ f.rounds / 16) × Grouped f l.b (map n l.s) l.group (map n l.w) (map n l.v)
