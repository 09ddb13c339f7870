-- What opening a file answers: the file, or an error where there is none.
use Rattle.std.specs.Prelude.{ℕ, ◌≡◌, Result, Err, IfErr}

-- of a file that wasn't opened there are no bytes to judge, which isn't a file of no bytes: the reading has failed as the opening has
abbrev pub NoneUnopened : {F E : Type 0} → Result F E → Result ℕ E → Type 0
NoneUnopened opened reading = IfErr opened (λ e. reading ≡ Err e)
