-- POSIX.1-2024, read() and write(), RETURN VALUE and ERRORS: what one call's answer says. "Upon successful completion, these functions shall return
-- .. the number of bytes actually read", "This number shall never be greater than nbyte"; "Otherwise, -1 shall be returned and errno set". At the
-- end of the file a read's number is 0. [EINTR]: "terminated due to the receipt of a signal, and no data was transferred". std answers an error for -1,
-- whose kind is `Interrupted` where errno is EINTR (`os_error_kinds`).
use Rattle.std.specs.Prelude.{ℕ, zero, suc, min, Result, Ok, Err}
use Rattle.std.specs.IoError.{error_kind}
use Rattle.std.specs.declared.io.Error.{Error}
use Rattle.std.specs.declared.io.ErrorKind.{ErrorKind}
use Rattle.whole_io.specs.declared.Moved.{Moved}
use Rattle.whole_io.specs.declared.Moved.TheVariants.{Bytes, Nothing, Interrupted, Failed}

-- no byte was moved: by the error's kind, whether a signal is the reason
abbrev pub failed_by : ErrorKind → Error → Moved
failed_by ErrorKind.Interrupted e = Interrupted e
failed_by kind e = Failed e

-- by the answer, and how many bytes the call was lent
unfoldable pub moved_by : Result ℕ Error → ℕ → Moved
moved_by (Ok zero) room = Nothing
moved_by (Ok (suc n)) room = Bytes (min (suc n) room)
moved_by (Err e) room = failed_by (error_kind e) e
