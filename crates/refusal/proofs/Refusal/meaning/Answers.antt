use mathlib.Core.Path.{◌≡◌, sym, ap}
use Rattle.refusal.specs.declared.Refusal.{Refusal}
use Rattle.refusal.specs.Refusals.{meaning_of}
use Rattle.refusal.proofs.Refusal.meaning.Goals as goal

-- the words of the variant that was found
meant : {why found : Refusal} → why ≡ found → meaning_of found ≡ meaning_of why
meant e = sym (ap meaning_of e)

pub returns-in-ForeignHeader : goal.returns-in-ForeignHeader
unfolding meaning_of
returns-in-ForeignHeader c = meant c.in-ForeignHeader.is

pub returns-in-BadLength : goal.returns-in-BadLength
unfolding meaning_of
returns-in-BadLength c = meant c.in-BadLength.is

pub returns-in-WrongBuffer : goal.returns-in-WrongBuffer
unfolding meaning_of
returns-in-WrongBuffer c = meant c.in-WrongBuffer.is

pub returns-in-UnsoundState : goal.returns-in-UnsoundState
unfolding meaning_of
returns-in-UnsoundState c = meant c.in-UnsoundState.is

pub returns-in-OutOfRange : goal.returns-in-OutOfRange
unfolding meaning_of
returns-in-OutOfRange c = meant c.in-OutOfRange.is

pub returns-in-OutOfStep : goal.returns-in-OutOfStep
unfolding meaning_of
returns-in-OutOfStep c = meant c.in-OutOfStep.is

pub returns-in-LogFull : goal.returns-in-LogFull
unfolding meaning_of
returns-in-LogFull c = meant c.in-LogFull.is

pub returns-in-BadManifestHeader : goal.returns-in-BadManifestHeader
unfolding meaning_of
returns-in-BadManifestHeader c = meant c.in-BadManifestHeader.is

pub returns-in-StaleVersion : goal.returns-in-StaleVersion
unfolding meaning_of
returns-in-StaleVersion c = meant c.in-StaleVersion.is

pub returns-in-BadSignature : goal.returns-in-BadSignature
unfolding meaning_of
returns-in-BadSignature c = meant c.in-BadSignature.is

pub returns-in-NotOffered : goal.returns-in-NotOffered
unfolding meaning_of
returns-in-NotOffered c = meant c.in-NotOffered.is

pub returns-in-MalformedElement : goal.returns-in-MalformedElement
unfolding meaning_of
returns-in-MalformedElement c = meant c.in-MalformedElement.is
