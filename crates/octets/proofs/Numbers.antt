-- Laws of little-endian numbers, over the number of bytes.
use Prim.Native.Nat.{ℕ, suc, zero, ◌+◌, ◌*◌, ◌/◌, ◌%◌, ◌^◌, ◌<◌, ◌≤◌}
use mathlib.Core.Path.{◌≡◌, refl, sym, ap, ◌∙◌}
use mathlib.Core.List.{List, [], ◌∷◌, ◌++◌}
use native.Mathlib.Omega.{arith}
use native.Mathlib.Nat.{zero-add, suc-add, add_assoc, mul-zero, mul_assoc, pow-zero, pow-suc, pow-succ'}
use lib.Arith.{lt-one}
use lib.Seq.{get_or-append-add, get_or-drop, get_or-take, drop-cons}
use lib.ListN.{length, get_or, take, drop, get_or-eq_default}
use Rattle.octets.specs.Octets.{Bytes, number_at, bytes_of}

-- past the end every number is 0
pub number_past : (w : ℕ) (b : List ℕ) (i : ℕ) → length b ≤ i → number_at w b i ≡ 0
number_past zero b i h = refl
number_past (suc w) b i h =
    let h' : length b ≤ i + 1 = omega arith in
    omega (arith, get_or-eq_default b 0 h, number_past w b (i + 1) h')

-- the number of v + w bytes, by that of the first v and that of the others
pub number_split : (v w : ℕ) (b : List ℕ) (i : ℕ) → number_at (v + w) b i ≡ number_at v b i + 256 ^ v * number_at w b (i + v)
number_split zero w b i =
    let none : i + 0 ≡ i = omega arith in
    ap (λ (k : ℕ). number_at k b i) (zero-add w)
    ∙ sym (ap (number_at w b) none)
    ∙ omega (arith, ap (λ (k : ℕ). k * number_at w b (i + 0)) (pow-zero 256))
number_split (suc v) w b i =
    let next : i + 1 + v ≡ i + suc v = omega arith in
    let rest : ℕ = number_at w b (i + suc v) in
    let power : 256 ^ suc v * rest ≡ 256 * (256 ^ v * rest) = ap (λ (k : ℕ). k * rest) (pow-succ' 256 v) ∙ mul_assoc 256 (256 ^ v) rest in
    let tail : number_at (v + w) b (i + 1) ≡ number_at v b (i + 1) + 256 ^ v * rest =
    number_split v w b (i + 1) ∙ ap (λ (k : ℕ). number_at v b (i + 1) + 256 ^ v * number_at w b k) next in
    ap (λ (k : ℕ). number_at k b i) (suc-add v w) ∙ omega (arith, power, tail)

-- where the others are past the end
pub number_low : (v w : ℕ) (b : List ℕ) (i : ℕ) → length b ≤ i + v → number_at (v + w) b i ≡ number_at v b i
number_low v w b i h =
    number_split v w b i
    ∙ ap (λ (n : ℕ). number_at v b i + 256 ^ v * n) (number_past w b (i + v) h)
    ∙ omega (arith, mul-zero (256 ^ v))

-- a number in b, read behind p
pub number_append : (w : ℕ) (p b : List ℕ) (i : ℕ) → number_at w (p ++ b) (length p + i) ≡ number_at w b i
number_append zero p b i = refl
number_append (suc w) p b i =
    let next : number_at w (p ++ b) (length p + i + 1) ≡ number_at w b (i + 1) =
    ap (number_at w (p ++ b)) (add_assoc (length p) i 1) ∙ number_append w p b (i + 1) in
    λ j. get_or-append-add p b i 0 j + 256 * next j

-- a number behind the first s bytes, and one among the first n
pub number_drop : (w s : ℕ) (b : List ℕ) (i : ℕ) → number_at w (drop s b) i ≡ number_at w b (s + i)
number_drop zero s b i = refl
number_drop (suc w) s b i =
    let next : number_at w (drop s b) (i + 1) ≡ number_at w b (s + i + 1) = number_drop w s b (i + 1) ∙ ap (number_at w b) (sym (add_assoc s i 1)) in
    λ j. get_or-drop s b i 0 j + 256 * next j

pub number_take : (w n : ℕ) (b : List ℕ) (i : ℕ) → i + w ≤ n → number_at w (take n b) i ≡ number_at w b i
number_take zero n b i h = refl
number_take (suc w) n b i h =
    let here : i < n = omega arith in
    let next : i + 1 + w ≤ n = omega arith in
    λ j. get_or-take n b i 0 here j + 256 * number_take w n b (i + 1) next j

pub length_bytes_law : (w n : ℕ) → length (bytes_of w n) ≡ w
length_bytes_law zero n = refl
length_bytes_law (suc w) n = ap suc (length_bytes_law w (n / 256))

pub bytes_bytes : (w n : ℕ) → Bytes (bytes_of w n)
bytes_bytes zero n i = omega arith
bytes_bytes (suc w) n zero = omega arith
bytes_bytes (suc w) n (suc i) = bytes_bytes w (n / 256) i

-- the round trip, from the number: what was written is read back
pub read_written : (w n : ℕ) (q : List ℕ) → n < 256 ^ w → number_at w (bytes_of w n ++ q) 0 ≡ n
read_written zero n q h = omega (arith, lt-one h)
read_written (suc w) n q h =
    let small : n / 256 < 256 ^ w = below h in
    let ih : number_at w ((n % 256 ∷ []) ++ (bytes_of w (n / 256) ++ q)) (length (n % 256 ∷ []) + 0) ≡ n / 256 =
    number_append w (n % 256 ∷ []) (bytes_of w (n / 256) ++ q) 0 ∙ read_written w (n / 256) q small in
    omega (arith, ih)
  where
    below : n < 256 ^ suc w → n / 256 < 256 ^ w
    below h = let e : 256 ^ suc w ≡ 256 ^ w * 256 = pow-suc 256 w in omega (arith, e, h)

-- the round trip, from the bytes: what is read is written again
pub written_read : (w : ℕ) (b : List ℕ) (i : ℕ) → Bytes b → i + w ≤ length b → bytes_of w (number_at w b i) ≡ take w (drop i b)
written_read zero b i y h = refl
written_read (suc w) b i y h =
    let small : get_or b i 0 < 256 = y i in
    let low : (get_or b i 0 + 256 * number_at w b (i + 1)) % 256 ≡ get_or b i 0 = omega arith in
    let high : (get_or b i 0 + 256 * number_at w b (i + 1)) / 256 ≡ number_at w b (i + 1) = omega arith in
    let next : i + 1 ≡ suc i = omega arith in
    (λ j. low j ∷ bytes_of w (high j))
    ∙ ap (λ (l : List ℕ). get_or b i 0 ∷ l) (written_read w b (i + 1) y (omega arith) ∙ ap (λ (k : ℕ). take w (drop k b)) next)
    ∙ sym (ap (take (suc w)) (drop-cons b i 0 (omega arith)))

-- a number of w bytes is below 256 ^ w
pub number_below : (w : ℕ) (b : List ℕ) (i : ℕ) → Bytes b → number_at w b i < 256 ^ w
number_below zero b i y = omega arith
number_below (suc w) b i y =
    let e : 256 ^ suc w ≡ 256 ^ w * 256 = pow-suc 256 w in
    omega (arith, e, y i, number_below w b (i + 1) y)
