use Rattle.std.proofs.Common.{◌≡◌, ◌&&◌, eqb, length}
use Rattle.octets.specs.Octets.{same_bytes}
use Rattle.octets.proofs.same.Given as goal

-- by what the iterator has left of either list
abbrev pub invariant-loop-x : goal.invariant-loop-x
invariant-loop-x l =
    let xs = l.x-iterator.a.rest.now in
    let ys = l.x-iterator.b.rest.now in
    (length xs ≡ length ys) × ((eqb l.difference 0 && same_bytes xs ys) ≡ same_bytes l.a l.b)
