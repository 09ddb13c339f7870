-- What a turn of a loop over len bytes says of its call, by whether the loop goes on.
use Rattle.std.proofs.Common.{ℕ, zero, suc, ◌+◌, ◌-◌, ◌≤◌, ◌<◌, ◌≡◌, refl, sym, ap, min, arith, Result, Ok, Err, IfOk, MatchResult, Continue, Break}
use native.Mathlib.Nat.{min-eq_left}
use Rattle.std.specs.IoError.{error_kind}
use Rattle.std.specs.declared.io.Error.{Error}
use Rattle.std.specs.declared.io.ErrorKind.{ErrorKind}
use Rattle.whole_io.specs.declared.Progress.{Progress}
use Rattle.whole_io.specs.Calls.{failed_by, moved_by}
use Rattle.whole_io.specs.Transfers.{step_after}

-- the bytes that a call moved are done, and one that moved none was interrupted
abbrev pub GoesOn : ℕ → ℕ → Result ℕ Error → Progress → Type 0
GoesOn done left call next =
    MatchResult call (λ n. (0 < n) × (next.done ≡ done + n) × (next.interruptions ≡ left))
    (λ _. (next.done ≡ done) × (next.interruptions + 1 ≡ left))

-- a call that moved nothing ends it, and so does one that failed
abbrev pub Ends : ℕ → Result ℕ Error → Result ℕ Error → Type 0
Ends done call reading = MatchResult call (λ n. (n ≡ 0) × (reading ≡ Ok done)) (λ e. reading ≡ Err e)

failed_on : (kind : ErrorKind) (e : Error) (done left : ℕ) (next : Progress) → Continue next ≡ step_after (failed_by kind e) done left
    → (next.done ≡ done) × (next.interruptions + 1 ≡ left)
unfolding step_after
failed_on ErrorKind.Interrupted e done zero next h = absurd cc
failed_on ErrorKind.Interrupted e done (suc left) next h =
    let k : next ≡ record { done = done; interruptions = left } = cc in
    (ap (λ (p : Progress). p.done) k, omega (arith, ap (λ (p : Progress). p.interruptions) k))
failed_on kind e done left next h = absurd cc

pub goes_on : (call : Result ℕ Error) (room done left : ℕ) (next : Progress) → IfOk call (λ n. n ≤ room)
    → Continue next ≡ step_after (moved_by call room) done left → GoesOn done left call next
unfolding moved_by step_after
goes_on (Ok zero) room done left next b h = absurd cc
goes_on (Ok (suc n)) room done left next b h =
    let m : suc n ≡ min (suc n) room = sym (min-eq_left b) in
    let k : next ≡ record { done = done + suc n; interruptions = left } = cc in
    (omega arith, ap (λ (p : Progress). p.done) k, ap (λ (p : Progress). p.interruptions) k)
goes_on (Err e) room done left next b h = failed_on (error_kind e) e done left next h

failed_ends : (kind : ErrorKind) (e : Error) (done left : ℕ) (reading : Result ℕ Error) → Break reading ≡ step_after (failed_by kind e) done left
    → reading ≡ Err e
unfolding step_after
failed_ends ErrorKind.Interrupted e done zero reading h = cc
failed_ends ErrorKind.Interrupted e done (suc left) reading h = absurd cc
failed_ends kind e done left reading h = cc

pub ends : (call : Result ℕ Error) (room done left : ℕ) (reading : Result ℕ Error) → Break reading ≡ step_after (moved_by call room) done left
    → Ends done call reading
unfolding moved_by step_after
ends (Ok zero) room done left reading h = (refl, cc)
ends (Ok (suc n)) room done left reading h = absurd cc
ends (Err e) room done left reading h = failed_ends (error_kind e) e done left reading h

-- a turn that goes on is nearer to the end: the next call is lent fewer of the bytes, or may be interrupted less often
pub record Nearer (len done left : ℕ) (next : Progress) : Type 0 where
  pub within : next.done ≤ len
  pub nearer : len - next.done + next.interruptions < len - done + left

pub goes_nearer : (len done left : ℕ) (call : Result ℕ Error) (next : Progress) → done ≤ len → IfOk call (λ n. n ≤ len - done)
    → GoesOn done left call next → Nearer len done left next
goes_nearer len done left (Ok n) next h b on = record { within = omega (arith, on.1); nearer = omega (arith, on.0, on.1, on.2) }
goes_nearer len done left (Err e) next h b on = record { within = omega (arith, on.0); nearer = omega (arith, on.0, on.1) }
