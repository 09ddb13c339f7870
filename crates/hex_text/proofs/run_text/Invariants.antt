use Rattle.std.proofs.Common.{◌≡◌, ◌*◌, length, take}
use Rattle.std.specs.Str.{IsUtf8}
use Rattle.hex_text.specs.HexText.{hex_text}
use Rattle.hex_text.proofs.run_text.Given as goal

abbrev pub invariant-loop-i : goal.invariant-loop-i
invariant-loop-i l =
    (length l.digits ≡ 8) × (take (2 * l.i) l.digits ≡ hex_text (take l.i l.run)) × IsUtf8 (hex_text (take l.i l.run))
