-- Readings made of several calls: how one goes on after each call, and what it answers.
-- Which bytes a file of the system gave or took no contract can say: std's read and write claim that of readers and writers over memory alone, whose bytes
-- are known. `step_after` fixes what a call's answer leads to.
use Rattle.std.specs.Prelude.{ℕ, zero, suc, ◌+◌, Result, Ok, Err}
use Rattle.std.specs.declared.io.Error.{Error}
use Rattle.std.specs.declared.ops.ControlFlow.{ControlFlow}
use Rattle.std.specs.declared.ops.ControlFlow.TheVariants.{Continue, Break}
use Rattle.whole_io.specs.declared.Moved.{Moved}
use Rattle.whole_io.specs.declared.Progress.{Progress}

-- after a call, where done bytes had come and so many interruptions were still allowed: how many there are before the next call, or what the reading answers.
-- A call that fails ends the reading as failed, whatever came before it
unfoldable pub step_after : Moved → ℕ → ℕ → ControlFlow (Result ℕ Error) Progress
step_after (Moved.Bytes n) done interruptions = Continue (record { done = done + n; interruptions = interruptions })
step_after Moved.Nothing done interruptions = Break (Ok done)
step_after (Moved.Interrupted e) done zero = Break (Err e)
step_after (Moved.Interrupted e) done (suc interruptions) = Continue (record { done = done; interruptions = interruptions })
step_after (Moved.Failed e) done interruptions = Break (Err e)
