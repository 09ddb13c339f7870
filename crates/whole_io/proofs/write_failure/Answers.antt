use Rattle.std.proofs.Common.{ℕ, List, ◌++◌, take, Result, Ok, Err, OnOk, OnErr}
use Rattle.std.proofs.KnownBytes.{Appends-trans}
use Rattle.std.specs.Prelude.{Option}
use Rattle.std.specs.declared.io.Error.{Error}
use Rattle.std.specs.Io.KnownBytes.{Appends}
use Rattle.whole_io.proofs.write_failure.Goals as goal

-- what was appended before a part, and what of the part was
grown : (before old new : Option (List ℕ)) (part : List ℕ) (call : Result (Unit {0}) Error) → (bytes : List ℕ) × Appends before old bytes
    → OnOk call (Appends old new part) → OnErr call ((n : ℕ) × Appends old new (take n part)) → (bytes : List ℕ) × Appends before new bytes
grown before old new part (Ok done) first whole some = (first.0 ++ part, Appends-trans before old new first.0 part first.1 whole)
grown before old new part (Err e) first whole some = (first.0 ++ take some.0 part, Appends-trans before old new first.0 (take some.0 part) first.1 some.1)

pub loop-part-preserved : goal.loop-part-preserved
loop-part-preserved g c = grown _ _ _ _ c.write_whole.result c.loop-part.invariant c.write_whole.ensures.bytes c.write_whole.ensures.failed
