-- Parts of buffers: bytes read from an index on, and parts that are put into an array one behind the other.
use Prim.Native.Nat.{ℕ, zero, suc, ◌+◌, ◌-◌, ◌<◌, ◌≤◌, ◌*◌}
use mathlib.Core.Path.{◌≡◌, refl, sym, ap, ◌∙◌}
use mathlib.Core.List.{List, [], ◌∷◌, ◌++◌, append-nil}
use native.Mathlib.Nat.{zero-add, add-zero}
use native.Mathlib.Omega.{arith}
use lib.ListN.{length, get_or, take, drop, replicate, length-append, length-take, length-drop, drop_of_length-le, take-append-drop}
use lib.Seq.{take_at, take_all, length-take-le, drop-append_seam, drop-drop}
use Rattle.octets.specs.Octets.{Bytes, number_at, zeros, pasted, padded, bytes_at}
use Rattle.octets.proofs.Numbers.{number_take, number_drop}
use Rattle.octets.proofs.Buffers.{pasted_fits, length_pasted, length_zeros, length_padded, padded_whole, drop_zeros, zeros_byte, bytes_append, bytes_take, bytes_drop, bytes_zeros}

-- ---- read from an index on

pub bytes_at_length : (w : ℕ) (b : List ℕ) (i : ℕ) → length (bytes_at w b i) ≡ w
unfolding bytes_at
bytes_at_length w b i = length_padded w (take w (drop i b)) (omega (arith, length-take w (drop i b)))

pub bytes_at_bytes : (w : ℕ) (b : List ℕ) (i : ℕ) → Bytes b → Bytes (bytes_at w b i)
unfolding bytes_at
bytes_at_bytes w b i h = bytes_append (take w (drop i b)) (zeros _) (bytes_take w (drop i b) (bytes_drop i b h)) (bytes_zeros _)

-- where they all are there
pub bytes_at_whole : (w : ℕ) (b : List ℕ) (i : ℕ) → i + w ≤ length b → bytes_at w b i ≡ take w (drop i b)
unfolding bytes_at zeros
bytes_at_whole w b i h =
    let part : List ℕ = take w (drop i b) in
    let none : w - length part ≡ 0 = omega (arith, length-take-le w (drop i b) (omega (arith, length-drop i b))) in
    ap (λ (n : ℕ). part ++ zeros n) none ∙ append-nil part

-- those of d, behind p
pub bytes_at_append : (w : ℕ) (p d q : List ℕ) → length d ≡ w → bytes_at w (p ++ (d ++ q)) (length p) ≡ d
bytes_at_append w p d q l =
    bytes_at_whole w (p ++ (d ++ q)) (length p) (omega (arith, length-append p (d ++ q), length-append d q))
    ∙ ap (take w) (drop-append_seam p (d ++ q))
    ∙ take_at d q w l

-- where none is
pub bytes_at_none : (w : ℕ) (b : List ℕ) (i : ℕ) → length b ≤ i → bytes_at w b i ≡ zeros w
unfolding bytes_at
bytes_at_none w b i h =
    let e : take w (drop i b) ≡ [] = ap (take w) (drop_of_length-le b h) ∙ take_all w [] (omega arith) in
    let all : w - 0 ≡ w = omega arith in
    ap (padded w) e ∙ ap zeros all

-- the same, as a chunk of that length
pub chunk_whole : (w : ℕ) (b : List ℕ) (i : ℕ) (chunk : List ℕ) → w ≤ length (drop i b) → chunk ≡ take w (drop i b) → chunk ≡ bytes_at w b i
unfolding bytes_at
chunk_whole w b i chunk h e = e ∙ sym (padded_whole w (take w (drop i b)) (length-take-le w (drop i b) h))

-- put to the front of zeros
pub put_at : (w : ℕ) (b : List ℕ) (i : ℕ) (part : List ℕ) → part ≡ take w (drop i b) → pasted (zeros w) 0 part ≡ bytes_at w b i
unfolding bytes_at
put_at w b i part e =
    let fits : length part ≤ w = omega (arith, ap length e, length-take w (drop i b)) in
    pasted_fits (zeros w) 0 part (omega (arith, length_zeros w))
    ∙ ap (λ (n : ℕ). part ++ drop n (zeros w)) (zero-add (length part))
    ∙ ap (λ (x : List ℕ). part ++ x) (drop_zeros (length part) w)
    ∙ ap (padded w) e

-- put to the front of zeros, as there are fewer
pub rest_put : (w : ℕ) (b : List ℕ) (i : ℕ) (rest : List ℕ) → rest ≡ drop i b → length rest < w → pasted (replicate w 0) 0 rest ≡ bytes_at w b i
unfolding zeros
rest_put w b i rest e h = put_at w b i rest (e ∙ sym (take_all w (drop i b) (omega (arith, ap length e))))

-- zeros behind the bytes don't count
pad_byte : (x : List ℕ) (n i : ℕ) → get_or (x ++ zeros n) i 0 ≡ get_or x i 0
pad_byte [] n i = zeros_byte n i
pad_byte (y ∷ x) n zero = refl
pad_byte (y ∷ x) n (suc i) = pad_byte x n i

number_pad : (w : ℕ) (x : List ℕ) (n i : ℕ) → number_at w (x ++ zeros n) i ≡ number_at w x i
number_pad zero x n i = refl
number_pad (suc w) x n i = λ j. pad_byte x n i j + 256 * number_pad w x n (i + 1) j

-- a number of them all
pub number_of_bytes_at : (w : ℕ) (b : List ℕ) (i : ℕ) → number_at w (bytes_at w b i) 0 ≡ number_at w b i
unfolding bytes_at
number_of_bytes_at w b i =
    number_pad w (take w (drop i b)) _ 0
    ∙ number_take w w (drop i b) 0 (omega arith)
    ∙ number_drop w i b 0
    ∙ ap (number_at w b) (add-zero i)

-- n elements from index i on, and those behind them
pub take_then_drop : (n i : ℕ) (b : List ℕ) → take n (drop i b) ++ drop (i + n) b ≡ drop i b
take_then_drop n i b = ap (λ (rest : List ℕ). take n (drop i b) ++ rest) (sym (drop-drop n i b)) ∙ take-append-drop n (drop i b)

-- ---- put one behind the other

-- the parts so far fill the first k bytes of w, and x is put behind them
pub put_next : (done w x w' : List ℕ) (k n : ℕ) → take k w ≡ done → k + length x ≡ n → n ≤ length w → w' ≡ pasted w k x → take n w' ≡ done ++ x
put_next done w x w' k n f e l p =
    let room : k + length x ≤ length w = omega arith in
    let lk : length (take k w) ≡ k = length-take-le k w (omega arith) in
    ap (take n) (p ∙ pasted_fits w k x room)
    ∙ take_at (take k w ++ x) (drop (k + length x) w) n (length-append (take k w) x ∙ omega arith)
    ∙ ap (λ (y : List ℕ). y ++ x) f

-- the parts fill all of w
pub filled : (done w : List ℕ) (n : ℕ) → take n w ≡ done → length w ≡ n → w ≡ done
filled done w n f l = sym (take_all n w (omega arith)) ∙ f

-- two parts or three that fill all of d, each put right behind those before it
module _ (d x : List ℕ) where
  -- x is put, with room for n bytes behind it
  module _ {w : List ℕ} (n : ℕ) (l : length d ≡ length x + n) (e : w ≡ pasted d 0 x) where
    first_length : length w ≡ length x + n
    first_length = ap length e ∙ length_pasted d 0 x (omega arith) ∙ l

    first_put : take (length x) w ≡ x
    first_put = put_next [] d x w 0 (length x) refl (zero-add (length x)) (omega arith) e

  pub put_two : {w w' : List ℕ} (y : List ℕ) → length d ≡ length x + length y → w ≡ pasted d 0 x → w' ≡ pasted w (length x) y → w' ≡ x ++ y
  put_two {w = w} {w' = w'} y l e f =
      let room = first_length (length y) l e in
      filled (x ++ y) w' (length x + length y) (put_next x w y w' (length x) _ (first_put (length y) l e) refl (omega arith) f)
      (ap length f ∙ length_pasted w (length x) y (omega arith) ∙ room)

  pub put_three : {w w' w'' : List ℕ} (y z : List ℕ) → length d ≡ length x + length y + length z
      → w ≡ pasted d 0 x → w' ≡ pasted w (length x) y → w'' ≡ pasted w' (length x + length y) z → w'' ≡ x ++ y ++ z
  put_three {w = w} {w' = w'} {w'' = w''} y z l e f g =
      let n : length d ≡ length x + (length y + length z) = omega arith in
      let room = first_length (length y + length z) n e in
      let room' : length w' ≡ length x + length y + length z = ap length f ∙ length_pasted w (length x) y (omega arith) ∙ omega arith in
      let two = put_next x w y w' (length x) (length x + length y) (first_put (length y + length z) n e) refl (omega arith) f in
      let three = put_next (x ++ y) w' z w'' (length x + length y) _ two refl (omega arith) g in
      filled (x ++ y ++ z) w'' _ three (ap length g ∙ length_pasted w' (length x + length y) z (omega arith) ∙ room')

-- what stands at the front, replaced
pub put_front : (front rest new : List ℕ) → length new ≡ length front → pasted (front ++ rest) 0 new ≡ new ++ rest
put_front front rest new l =
    pasted_fits (front ++ rest) 0 new (omega (arith, length-append front rest))
    ∙ ap (λ (n : ℕ). new ++ drop n (front ++ rest)) (zero-add (length new) ∙ l)
    ∙ ap (λ (x : List ℕ). new ++ x) (drop-append_seam front rest)
