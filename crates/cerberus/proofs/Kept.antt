-- What C is told of a verdict whose next state is kept.
use mathlib.Core.Path.{◌≡◌, refl}
use Rattle.std.specs.Prelude.{Result, Ok, Err}
use Rattle.std.specs.Result.{result_and}
use Rattle.refusal.specs.declared.Refusal.{Refusal}
use Rattle.refusal.specs.Refusals.{number_of}
use Rattle.refusal.specs.Steps.{decided}
use Rattle.refusal.proofs.Laws.{refusal_positive}
use Rattle.refusal.proofs.Steps.{decided_no}
use Rattle.c_encoding.specs.Answers.{told}

pub told_kept : {X A : Type 0} (v : Result X Refusal) (before next : A) → told (result_and v (Ok next)) before ≡ decided (number_of v) before next
told_kept (Ok x) before next = refl
told_kept (Err why) before next = decided_no before next (refusal_positive why)
