use native.Mathlib.Omega.{arith}
use Prim.Native.Nat.{◌-◌}
use lib.ListN.{length, drop, length-drop}
use lib.Seq.{length-take-le}
use Rattle.octets.proofs.Buffers.{zeroed_fits, zeroed_past}
use Rattle.octets.proofs.zero_from.Goals as goal

pub returns-then-at-dst : goal.returns-then-at-dst
returns-then-at-dst c =
    let a = c.args in
    let s = a.dst.now in
    zeroed_fits s _ a.at _ c.if-at-dst.true (c.fill.ensures.after (λ y copy. copy)) (length-take-le (length s - a.at) (drop a.at s) (omega (arith, length-drop a.at s)))

pub returns-else-at-dst : goal.returns-else-at-dst
returns-else-at-dst c = let a = c.args in zeroed_past a.dst.now a.at c.if-at-dst.false
