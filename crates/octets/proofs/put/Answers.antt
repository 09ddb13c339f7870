use mathlib.Core.Path.{sym, ap, ◌∙◌}
use lib.ListN.{get_or, length, set, length-set}
use Prim.Native.Nat.{ℕ, ◌<◌, ◌+◌}
use mathlib.Core.List.{List}
use native.Mathlib.Omega.{arith}
use native.Mathlib.Numerals.{add-one}
use lib.Seq.{paste, paste-suc}
use Rattle.octets.proofs.put.Goals as goal

pub loop-i-preserved : goal.loop-i-preserved
loop-i-preserved c =
    let a = c.args in
    let l = c.loop-i in
    let h : a.at + l.i < length a.dst.now = omega arith in
    let t : l.i < length a.src.now = omega arith in (
      omega arith,
      ap (λ (d : List ℕ). set d (a.at + l.i) (get_or a.src.now l.i 0)) l.invariant.1
          ∙ paste-suc a.dst.now a.at a.src.now l.i 0 h t
          ∙ ap (paste a.dst.now a.at a.src.now) (sym (add-one l.i)),
      simp length-set l.invariant.2,
    )
