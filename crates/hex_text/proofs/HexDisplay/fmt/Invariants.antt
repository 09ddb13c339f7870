use Rattle.std.proofs.Common.{ℕ, List, ◌≡◌, ◌++◌}
use Rattle.std.specs.Fmt.{HasWritten, IsPlainFormatter}
use Rattle.hex_text.specs.HexText.{hex_text}
use Rattle.hex_text.proofs.HexDisplay.fmt.Given as goal

-- what is written, and the text of the bytes that are left
abbrev pub invariant-loop-run : goal.invariant-loop-run
invariant-loop-run g l =
    IsPlainFormatter l.initial.f
    → (t : List ℕ) × HasWritten g.W.Write.write_str_gives l.initial.f t l.f × (t ++ hex_text l.run-iterator.rest.now ≡ hex_text l.self.0.now)
