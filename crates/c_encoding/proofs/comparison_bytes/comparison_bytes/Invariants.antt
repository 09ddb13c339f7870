use mathlib.Core.List.{[]}
use Rattle.octets.proofs.Runs.{Put}
use Rattle.c_encoding.specs.Comparisons.{pmr_comparison_length, pmr_comparison_bytes}
use Rattle.c_encoding.proofs.comparison_bytes.comparison_bytes.Given as goal

abbrev pub invariant-loop-p : goal.invariant-loop-p
invariant-loop-p l = Put pmr_comparison_bytes pmr_comparison_length [] l.pmrs l.bytes l.p
