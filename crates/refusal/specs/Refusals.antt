-- Document 01, "Numbers that say no": each refusal with its number and its meaning, and the number of an answer.
use Rattle.std.specs.Prelude.{ℕ, zero, suc, List, [], ◌∷◌, Result, Ok, Err, slice_get, ⊤}
use Rattle.std.specs.Option.{ok_or}
use Prim.Native.Char.{code}
use Prim.Native.String.{String}
use Rattle.refusal.specs.declared.Refusal.{Refusal}
use Rattle.refusal.specs.declared.Refusal.TheVariants.{ForeignHeader, BadLength, WrongBuffer, UnsoundState, OutOfRange, OutOfStep, LogFull, BadManifestHeader, StaleVersion, BadSignature, NotOffered, MalformedElement}
use Rattle.refusal.specs.declared.NoRefusal.{NoRefusal}

-- ---- the table: "Number" and "Meaning"

abbrev pub refusal_number : Refusal → ℕ
refusal_number ForeignHeader = 1
refusal_number BadLength = 2
refusal_number WrongBuffer = 3
refusal_number UnsoundState = 4
refusal_number OutOfRange = 5
refusal_number OutOfStep = 6
refusal_number LogFull = 7
refusal_number BadManifestHeader = 8
refusal_number StaleVersion = 9
refusal_number BadSignature = 10
refusal_number NotOffered = 11
refusal_number MalformedElement = 12

abbrev pub words : Refusal → String
words ForeignHeader = "the header is short or isn't ours"
words BadLength = "the body, payload, log text or message to hash has a length that isn't permitted"
words WrongBuffer = "a lent buffer has the wrong length"
words UnsoundState = "a state or log outside the rules of its section"
words OutOfRange = "a number out of its range"
words OutOfStep = "out of step"
words LogFull = "log full"
words BadManifestHeader = "manifest header breaks its rules"
words StaleVersion = "version id doesn't go forward"
words BadSignature = "the signature was judged bad"
words NotOffered = "known, but not offered"
words MalformedElement = "malformed element"

-- ---- numbers

-- an answer's number, which is 0 where nothing is refused
abbrev pub number_of : {A : Type 0} → Result A Refusal → ℕ
number_of (Ok x) = 0
number_of (Err why) = refusal_number why

-- every refusal, in the order of their numbers, the first of which is 1
abbrev pub refusals : List Refusal
refusals =
    ForeignHeader
    ∷ BadLength
    ∷ WrongBuffer
    ∷ UnsoundState
    ∷ OutOfRange
    ∷ OutOfStep
    ∷ LogFull
    ∷ BadManifestHeader
    ∷ StaleVersion
    ∷ BadSignature
    ∷ NotOffered
    ∷ MalformedElement
    ∷ []

-- the refusal with this number; no refusal has a number that isn't in the table
unfoldable pub refusal_of : ℕ → Result Refusal NoRefusal
refusal_of zero = Err (record { 0 = 0 })
refusal_of (suc n) = ok_or (slice_get refusals n) (record { 0 = suc n })

-- what a number says of a call: the refusal with this number, if there is one, and that nothing is refused, if there is none
abbrev pub refused_with : Result Refusal NoRefusal → Result ⊤ Refusal
refused_with (Ok why) = Err why
refused_with (Err none) = Ok tt

abbrev pub verdict_of : ℕ → Result ⊤ Refusal
verdict_of n = refused_with (refusal_of n)

-- ---- meanings, as ASCII bytes

-- the codes of a text's characters
abbrev pub ascii : String → List ℕ
ascii String.[] = []
ascii (String.◌∷◌ c s) = code c ∷ ascii s

unfoldable pub meaning_of : Refusal → List ℕ
meaning_of why = ascii (words why)

-- no meaning is longer
abbrev pub longest_meaning : ℕ
longest_meaning = 80
