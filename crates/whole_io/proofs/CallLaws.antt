-- A call moves no more bytes than it was lent.
use Rattle.std.proofs.Common.{ℕ, zero, suc, ◌≤◌, ◌≡◌, refl, ap, arith, Result, Ok, Err}
use Rattle.std.specs.IoError.{error_kind}
use Rattle.std.specs.declared.io.Error.{Error}
use Rattle.std.specs.declared.io.ErrorKind.{ErrorKind}
use Rattle.whole_io.specs.declared.Moved.{Moved}
use Rattle.whole_io.specs.declared.Moved.TheVariants.{Bytes}
use Rattle.whole_io.specs.Calls.{failed_by, moved_by}

-- how many bytes a call moved
abbrev bytes_moved : Moved → ℕ
bytes_moved (Bytes n) = n
bytes_moved m = 0

failed_none : (kind : ErrorKind) (e : Error) → bytes_moved (failed_by kind e) ≡ 0
failed_none ErrorKind.Interrupted e = refl
failed_none kind e = refl

moved_most : (call : Result ℕ Error) (room : ℕ) → bytes_moved (moved_by call room) ≤ room
unfolding moved_by
moved_most (Ok zero) room = omega arith
moved_most (Ok (suc n)) room = omega arith
moved_most (Err e) room = omega (arith, failed_none (error_kind e) e)

pub bytes_most : (call : Result ℕ Error) (room n : ℕ) → Bytes n ≡ moved_by call room → n ≤ room
bytes_most call room n e = omega (arith, ap bytes_moved e, moved_most call room)
