use mathlib.Core.Path.{◌≡◌, refl}
use mathlib.Core.List.{List, []}
use native.Mathlib.Omega.{arith}
use borrow.Author.Rules.{rules}
use lib.ListN.{length, replicate}
use Rattle.octets.proofs.Runs.{put_none, put_more}
use Rattle.log_comparison.specs.declared.PmrComparison.{PmrComparison}
use Rattle.c_encoding.specs.Comparisons.{pmr_comparison_length, pmr_comparison_bytes}
use Rattle.c_encoding.proofs.comparison_bytes.comparison_bytes.Goals as goal

pub loop-p-init : goal.loop-p-init
loop-p-init c =
    let five : length c.args.pmrs.now ≡ 5 = search rules in
    put_none pmr_comparison_bytes pmr_comparison_length [] c.args.pmrs.now (replicate 25 0) (omega arith) refl

pub loop-p-preserved : goal.loop-p-preserved
loop-p-preserved c =
    let l = c.loop-p in
    let pmrs : List PmrComparison = c.args.pmrs.now in
    let five : length pmrs ≡ 5 = search rules in
    let one : length c.pmr_bytes.result ≡ pmr_comparison_length = search rules in
    put_more pmr_comparison_bytes pmr_comparison_length [] pmrs l.bytes l.p l.invariant _ c.pmr_bytes.result _ _ (omega arith) one c.pmr_bytes.ensures
    (omega arith) c.put.ensures
