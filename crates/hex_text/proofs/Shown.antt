-- The hexadecimal text of a byte is UTF-8, and that of bytes grows by it.
use Prim.Native.Nat.{ℕ, ◌/◌, ◌%◌, ◌<◌, ◌≤◌, ◌+◌, ◌*◌}
use mathlib.Core.Path.{◌≡◌, refl, sym, ap, subst, ◌∙◌}
use mathlib.Core.List.{List, [], ◌∷◌, ◌++◌, append-nil, append_assoc}
use native.Mathlib.Omega.{arith}
use lib.ListN.{length, get_or, take}
use lib.Seq.{take-length}
use Rattle.std.specs.Fmt.{HasWritten}
use Rattle.std.specs.Str.{IsUtf8}
use Rattle.std.specs.declared.fmt.Formatter.{Formatter}
use Rattle.std.proofs.Output.{has_written_append}
use Rattle.std.proofs.lemmas.Grind.{common_steps}
use Rattle.std.proofs.lemmas.List.{take_more}
use Rattle.std.proofs.lemmas.Str.{IsUtf8-from_ascii, IsUtf8-append}
use Rattle.std.proofs.lemmas.Str.Ascii.{IsAscii-nil, IsAscii-cons}
use Rattle.octets.specs.Octets.{pasted}
use Rattle.octets.proofs.Buffers.{length_pasted}
use Rattle.octets.proofs.Parts.{put_next}
use Rattle.hex_text.specs.HexText.{digit_text, byte_text, hex_text}

digit_is_ascii : (d : ℕ) → d < 16 → digit_text d < 128
unfolding digit_text
digit_is_ascii d h = grind (arith, common_steps)

pub byte_is_utf8 : (n : ℕ) → n < 256 → IsUtf8 (byte_text n)
unfolding byte_text
byte_is_utf8 n h =
    IsUtf8-from_ascii _
    (IsAscii-cons (digit_text (n / 16)) (digit_text (n % 16) ∷ []) (digit_is_ascii (n / 16) (omega arith))
    (IsAscii-cons (digit_text (n % 16)) [] (digit_is_ascii (n % 16) (omega arith)) IsAscii-nil))

pub hex_append : (a b : List ℕ) → hex_text (a ++ b) ≡ hex_text a ++ hex_text b
unfolding hex_text
hex_append [] b = refl
hex_append (x ∷ xs) b = grind (arith, common_steps, hex_append xs b)

with_next : (b : List ℕ) (i : ℕ) → i < length b → hex_text (take i b) ++ byte_text (get_or b i 0) ≡ hex_text (take (i + 1) b)
unfolding hex_text
with_next b i h =
    ap (λ (t : List ℕ). hex_text (take i b) ++ t) (sym (append-nil (byte_text (get_or b i 0))))
    ∙ sym (hex_append (take i b) (get_or b i 0 ∷ []))
    ∙ ap hex_text (sym (take_more b i 0 h))

-- the text of bytes that have one more is UTF-8 still
pub utf8_next : (b : List ℕ) (i : ℕ) → i < length b → get_or b i 0 < 256 → IsUtf8 (hex_text (take i b)) → IsUtf8 (hex_text (take (i + 1) b))
utf8_next b i h small p =
    subst IsUtf8 (with_next b i h) (IsUtf8-append (hex_text (take i b)) (byte_text (get_or b i 0)) p (byte_is_utf8 (get_or b i 0) small))

-- one more byte's digits are put behind those of the first i
pub more_put : (run w w' x : List ℕ) (i : ℕ) → i < length run → 2 * (i + 1) ≤ length w → x ≡ byte_text (get_or run i 0) → w' ≡ pasted w (2 * i) x
    → take (2 * i) w ≡ hex_text (take i run) → (length w' ≡ length w) × (take (2 * (i + 1)) w' ≡ hex_text (take (i + 1) run))
unfolding byte_text
more_put run w w' x i h room e p done =
    let two : length x ≡ 2 = ap length e in (
      ap length p ∙ length_pasted w (2 * i) x (omega arith),
      put_next (hex_text (take i run)) w x w' (2 * i) (2 * (i + 1)) done (omega arith) room p
          ∙ ap (λ (t : List ℕ). hex_text (take i run) ++ t) e
          ∙ with_next run i h,
    )

-- the digits of all of them
pub all_put : (run w : List ℕ) (i : ℕ) → i ≤ length run → length run ≤ i → take (2 * i) w ≡ hex_text (take i run) → IsUtf8 (hex_text (take i run))
    → (take (2 * length run) w ≡ hex_text run) × IsUtf8 (take (2 * length run) w)
all_put run w i most least done text =
    let n : i ≡ length run = omega arith in
    let whole : take i run ≡ run = ap (λ (k : ℕ). take k run) n ∙ take-length run in
    let put : take (2 * length run) w ≡ hex_text run = ap (λ (k : ℕ). take (2 * k) w) (sym n) ∙ done ∙ ap hex_text whole in
    (put, subst IsUtf8 (ap hex_text whole ∙ sym put) text)

-- a run, of what is left, is written
pub run_more : {W : Type 0} (took : W → List ℕ → W → Type 0) (f g h : Formatter W) (t x run rest left : List ℕ) → x ≡ hex_text run → run ++ left ≡ rest
    → HasWritten took f t g → HasWritten took g x h → HasWritten took f (t ++ x) h × ((t ++ x) ++ hex_text left ≡ t ++ hex_text rest)
run_more took f g h t x run rest left e split done more = (
  has_written_append _ _ _ _ _ _ done more,
  append_assoc t x (hex_text left)
      ∙ ap (λ (y : List ℕ). t ++ (y ++ hex_text left)) e
      ∙ ap (λ (y : List ℕ). t ++ y) (sym (hex_append run left) ∙ ap hex_text split),
)
