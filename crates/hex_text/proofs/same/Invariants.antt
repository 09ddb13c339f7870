use mathlib.Core.Path.{◌≡◌}
use Rattle.octets.specs.Octets.{same_bytes}
use Rattle.hex_text.specs.HexText.{hex_text}
use Rattle.hex_text.proofs.Comparison.{same_from}
use Rattle.hex_text.proofs.same.Given as goal

abbrev pub invariant-loop-i : goal.invariant-loop-i
invariant-loop-i l = same_from l.bytes l.text l.i ≡ same_bytes (hex_text l.bytes) l.text
