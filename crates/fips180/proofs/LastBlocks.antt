-- The last blocks as code puts them together are those of the padded message, for any family.
use Prim.Native.Nat.{ℕ, zero, suc, ◌+◌, ◌-◌, ◌*◌, ◌/◌, ◌%◌, ◌<◌, ◌≤◌}
use mathlib.Core.Path.{◌≡◌, refl, sym, ap, ◌∙◌}
use mathlib.Core.Logic.{⊎_elim}
use mathlib.Core.List.{List, [], ◌∷◌, ◌++◌}
use native.Mathlib.Nat.{eq-or-lt_of_le, mod-lt, div-add-mod', suc-mul, add-zero}
use native.Mathlib.Omega.{arith}
use lib.Arith.{digits_div}
use lib.ListN.{length, take, drop, get_or, set, replicate, length-append, length-drop, length-replicate, get_or-append}
use lib.Seq.{length-take-le, get_or-take, get_or-drop, get_or_at, get_or-append-add, append_snoc, set_at, take_all, ext_get_or}
use Rattle.octets.specs.Octets.{zeros, pasted}
use Rattle.octets.proofs.Buffers.{length_padded, pasted_zeros, zeros_byte}
use Rattle.fips180.specs.Family.{Family, block_bytes, length_bytes}
use Rattle.fips180.specs.Padding.{big_endian, block}
use Rattle.fips180.specs.Hash.{compress, hash_value}
use Rattle.fips180.specs.Continued.{pad_after, hash_after}
use Rattle.fips180.specs.LastBlocks.{tail_block, with_length}
use Rattle.laws.proofs.Lists.{before_or_not}
use Rattle.fips180.proofs.Bytes.{length_big}
use Rattle.fips180.proofs.Padding.{length_pad, pad_message, pad_one, pad_zero, pad_length, pad_block}
use Rattle.fips180.proofs.Blocks.{block_positive, zero_count_fills, length_block, hash_value_more}

module _ (f : Family) (positive : 0 < f.word_bytes) where
  -- two words of sixteen
  length_fits : length_bytes f + length_bytes f ≤ block_bytes f
  unfolding length_bytes block_bytes
  length_fits = omega arith

  module _ (m : List ℕ) where
    abbrev start : ℕ
    start = length m / block_bytes f * block_bytes f

    abbrev over : ℕ
    over = length m % block_bytes f

    abbrev tail : List ℕ
    tail = drop start m

    length_tail : length tail ≡ over
    length_tail = let d = div-add-mod' (length m) (block_bytes f) in let l = length-drop start m in omega arith

    length_all : length (tail ++ (0x80 ∷ [])) ≡ over + 1
    length_all = omega (arith, length-append tail (0x80 ∷ []), length_tail)

    over_lt : over < block_bytes f
    over_lt = mod-lt (length m) (block_positive f positive)

    -- zeros up to the end of a block
    abbrev rest : List ℕ
    rest = zeros (block_bytes f - length (tail ++ (0x80 ∷ [])))

    pub length_tail_block : length (tail_block f m) ≡ block_bytes f
    unfolding tail_block
    length_tail_block =
        let l = length_tail in
        let h = over_lt in
        length_padded (block_bytes f) _ (omega (arith, length-append {A = ℕ}))

    -- ---- its bytes

    tail_is : tail_block f m ≡ tail ++ (0x80 ∷ rest)
    unfolding tail_block
    tail_is = append_snoc tail 0x80 rest

    tail_message : (x : ℕ) → x < over → get_or (tail_block f m) x 0 ≡ get_or m (start + x) 0
    tail_message x h =
        let l = length_tail in
        ap (λ (b : List ℕ). get_or b x 0) tail_is ∙ get_or-append tail (0x80 ∷ rest) 0 x (omega arith) ∙ get_or-drop start m x 0

    tail_one : get_or (tail_block f m) over 0 ≡ 0x80
    tail_one = ap (λ (b : List ℕ). get_or b over 0) tail_is ∙ get_or_at tail 0x80 rest 0 over length_tail

    tail_zero : (x : ℕ) → over < x → get_or (tail_block f m) x 0 ≡ 0
    tail_zero x h =
        let l = length_tail in
        let e : x ≡ length tail + suc (x - over - 1) = omega arith in
        ap (λ (b : List ℕ). get_or b x 0) tail_is
        ∙ ap (λ (n : ℕ). get_or (tail ++ (0x80 ∷ rest)) n 0) e
        ∙ get_or-append-add tail (0x80 ∷ rest) (suc (x - over - 1)) 0
        ∙ zeros_byte (block_bytes f - length (tail ++ (0x80 ∷ []))) (x - over - 1)

    -- as code puts it together: what is left of m behind its whole blocks, with zeros up to the end of a block, and then the byte 0x80
    pub tail_left : {b r : List ℕ} → r ≡ drop (length m - over) m → b ≡ r ++ zeros (block_bytes f - length r) → set b (length r) 0x80 ≡ tail_block f m
    unfolding zeros
    tail_left {r = r} p e =
        let d = div-add-mod' (length m) (block_bytes f) in
        let s : length m - over ≡ start = omega arith in
        let t = length_tail in
        let l = length_all in
        let h = over_lt in
        let q : r ≡ tail = p ∙ ap (λ (n : ℕ). drop n m) s in
        let g : block_bytes f - length tail ≡ suc (block_bytes f - length (tail ++ (0x80 ∷ []))) = omega arith in
        (λ i. set ((e ∙ ap (λ (x : List ℕ). x ++ zeros (block_bytes f - length x)) q ∙ (λ j. tail ++ zeros (g j))) i) (length (q i)) 0x80)
        ∙ ap (λ (n : ℕ). set (tail ++ zeros (suc (block_bytes f - length (tail ++ (0x80 ∷ []))))) n 0x80) t
        ∙ set_at tail 0 rest 0x80 over t
        ∙ sym tail_is

    -- the same, where the tail is read as c bytes from its start on and put to the front of a block of zeros
    pub tail_put : {b : List ℕ} (c : ℕ) → over ≤ c → b ≡ pasted (replicate (block_bytes f) 0) 0 (take c tail) → set b over 0x80 ≡ tail_block f m
    unfolding zeros
    tail_put {b = b} c o e =
        let d = div-add-mod' (length m) (block_bytes f) in
        let t = length_tail in
        let h = over_lt in
        let s : start ≡ length m - over = omega arith in
        let put = ap (pasted (zeros (block_bytes f)) 0) (take_all c tail (omega arith)) ∙ pasted_zeros (block_bytes f) tail (omega arith) in
        ap (λ (n : ℕ). set b n 0x80) (sym t) ∙ tail_left (ap (λ (n : ℕ). drop n m) s) (e ∙ put)

    -- ---- the whole blocks, which lie in the message itself: code reads block i as c bytes from i * block_bytes on

    pub whole_none : (h : List ℕ) → h ≡ hash_value f h m 0
    unfolding hash_value
    whole_none h = refl

    pub whole_more : {s t : List ℕ} (h : List ℕ) (i c : ℕ) → c ≡ block_bytes f → s ≡ hash_value f h m i
        → t ≡ compress f (take c (drop (i * block_bytes f) m)) s → t ≡ hash_value f h m (i + 1)
    unfolding block
    whole_more {s = s} h i c e p q =
        hash_value_more f h m (take c (drop (i * block_bytes f) m)) s _ i p (ap (λ (x : ℕ). take x (drop (i * block_bytes f) m)) e) q

    -- ---- the last blocks

    module _ (k : ℕ) where
      abbrev padded : List ℕ
      padded = pad_after f k m

      length_one : over + length_bytes f < block_bytes f → length padded ≡ start + block_bytes f
      length_one h =
          let d = div-add-mod' (length m) (block_bytes f) in
          let q = digits_div (length m / block_bytes f) h in
          let e : length m + length_bytes f ≡ start + (over + length_bytes f) = omega arith in
          let n = length_pad f k m in
          let z = zero_count_fills f positive (length m) in
          let c = ap (λ (x : ℕ). suc (x / block_bytes f) * block_bytes f) e ∙ ap (λ (x : ℕ). suc x * block_bytes f) q ∙ suc-mul (length m / block_bytes f) (block_bytes f) in
          omega arith

      length_two : block_bytes f ≤ over + length_bytes f → length padded ≡ start + block_bytes f + block_bytes f
      length_two h =
          let d = div-add-mod' (length m) (block_bytes f) in
          let b = mod-lt (length m) (block_positive f positive) in
          let g = length_fits in
          let r : over + length_bytes f - block_bytes f < block_bytes f = omega arith in
          let s = suc-mul (length m / block_bytes f) (block_bytes f) in
          let q = digits_div (suc (length m / block_bytes f)) r in
          let e : length m + length_bytes f ≡ suc (length m / block_bytes f) * block_bytes f + (over + length_bytes f - block_bytes f) = omega arith in
          let n = length_pad f k m in
          let z = zero_count_fills f positive (length m) in
          let c = ap (λ (x : ℕ). suc (x / block_bytes f) * block_bytes f) e ∙ ap (λ (x : ℕ). suc x * block_bytes f) q
          ∙ suc-mul (suc (length m / block_bytes f)) (block_bytes f) in
          omega arith

      -- the tail is the padded message's, up to the length
      tail_pad : (x : ℕ) → start + x + length_bytes f < length padded → get_or (tail_block f m) x 0 ≡ get_or padded (start + x) 0
      tail_pad x h =
          let d = div-add-mod' (length m) (block_bytes f) in
          ⊎_elim (λ (a : x < over). tail_message x a ∙ sym (pad_message f k m (start + x) (omega arith)))
          (λ (a : over ≤ x).
          ⊎_elim
          (λ (e : over ≡ x).
          ap (λ (n : ℕ). get_or (tail_block f m) n 0) (sym e) ∙ tail_one ∙ sym (pad_one f k m (start + x) (omega arith)))
          (λ (l : over < x). tail_zero x l ∙ sym (pad_zero f k m (start + x) (omega arith) h))
          (eq-or-lt_of_le a))
          (before_or_not x over)

      -- a block before the last
      tail_whole : block_bytes f ≤ over + length_bytes f → tail_block f m ≡ block f padded (length m / block_bytes f)
      unfolding block
      tail_whole h =
          let n = length_two h in
          let g = length_fits in
          let l = length_tail_block in
          let s = length_block f padded (length m / block_bytes f) (omega arith) in
          ext_get_or 0 (tail_block f m) (block f padded (length m / block_bytes f)) (omega arith)
          (λ x a.
          tail_pad x (omega arith)
          ∙ sym (get_or-take (block_bytes f) (drop start padded) x 0 (omega arith) ∙ get_or-drop start padded x 0))

      -- the last block, where b is the padded message up to the length
      last_is : (b : List ℕ) (i n : ℕ) → length b ≡ block_bytes f → length padded ≡ i * block_bytes f + block_bytes f → n ≡ k * block_bytes f + length m
          → ((x : ℕ) → x + length_bytes f < block_bytes f → get_or b x 0 ≡ get_or padded (i * block_bytes f + x) 0) → with_length f n b ≡ block f padded i
      unfolding with_length block
      last_is b i n l p e same =
          let g = length_fits in
          let room : ℕ = block_bytes f - length_bytes f in
          let front = length-take-le room b (omega arith) in
          let bits : List ℕ = big_endian (length_bytes f) (8 * n) in
          let a = length-append (take room b) bits in
          let c = length_big (length_bytes f) (8 * n) in
          let s = length_block f padded i (omega arith) in
          ext_get_or 0 (with_length f n b) (block f padded i) (omega arith)
          (λ x h.
          ⊎_elim
          (λ (o : x < room).
          get_or-append (take room b) bits 0 x (omega arith) ∙ get_or-take room b x 0 o ∙ same x (omega arith))
          (λ (o : room ≤ x).
          let at : x ≡ length (take room b) + (x - room) = omega arith in
          ap (λ (y : ℕ). get_or (take room b ++ bits) y 0) at ∙ get_or-append-add (take room b) bits (x - room) 0
          ∙ ap (λ (y : ℕ). get_or (big_endian (length_bytes f) (8 * y)) (x - room) 0) e
          ∙ sym (pad_length f k m (i * block_bytes f + x) (x - room) (omega arith)))
          (before_or_not x room)
          ∙ sym (get_or-take (block_bytes f) (drop (i * block_bytes f) padded) x 0 (omega arith) ∙ get_or-drop (i * block_bytes f) padded x 0))

      one_is : (n : ℕ) → over + length_bytes f < block_bytes f → n ≡ k * block_bytes f + length m
          → with_length f n (tail_block f m) ≡ block f padded (length m / block_bytes f)
      one_is n h e =
          let l = length_one h in
          last_is (tail_block f m) (length m / block_bytes f) n length_tail_block l e
          (λ x a. tail_pad x (omega arith))

      two_is : (n : ℕ) → block_bytes f ≤ over + length_bytes f → n ≡ k * block_bytes f + length m
          → with_length f n (replicate (block_bytes f) 0) ≡ block f padded (suc (length m / block_bytes f))
      unfolding zeros
      two_is n h e =
          let l = length_two h in
          let d = div-add-mod' (length m) (block_bytes f) in
          let b = mod-lt (length m) (block_positive f positive) in
          let s = suc-mul (length m / block_bytes f) (block_bytes f) in
          last_is (replicate (block_bytes f) 0) (suc (length m / block_bytes f)) n (length-replicate {A = ℕ} (block_bytes f) 0) (omega arith) e
          (λ x a.
          zeros_byte (block_bytes f) x ∙ sym (pad_zero f k m (suc (length m / block_bytes f) * block_bytes f + x) (omega arith) (omega arith)))

      -- ---- the hash value over them, from s after the whole blocks

      whole_pad : (h : List ℕ) (i : ℕ) → i * block_bytes f ≤ length m → hash_value f h m i ≡ hash_value f h padded i
      unfolding hash_value block
      whole_pad h zero l = refl
      whole_pad h (suc i) l =
          let s = suc-mul i (block_bytes f) in
          λ j. compress f (sym (pad_block f k m i (omega arith)) j) (whole_pad h i (omega arith) j)

      whole_all : (h : List ℕ) → hash_value f h m (length m / block_bytes f) ≡ hash_value f h padded (length m / block_bytes f)
      whole_all h = let d = div-add-mod' (length m) (block_bytes f) in whole_pad h (length m / block_bytes f) (omega arith)

      blocks_are : (q : ℕ) → length padded ≡ q * block_bytes f → length padded / block_bytes f ≡ q
      blocks_are q e =
          let z = add-zero (q * block_bytes f) in
          ap (λ (x : ℕ). x / block_bytes f) (e ∙ sym z) ∙ digits_div q (block_positive f positive)

      -- the byte 0x80 and the length fit behind the tail
      pub last_one : {s c t : List ℕ} (h : List ℕ) (n : ℕ) → over + length_bytes f < block_bytes f → n ≡ k * block_bytes f + length m
          → s ≡ hash_value f h m (length m / block_bytes f) → c ≡ tail_block f m → t ≡ compress f (with_length f n c) s → t ≡ hash_after f h k m
      unfolding hash_after hash_value
      last_one h n o e p q r =
          let l = length_one o ∙ sym (suc-mul (length m / block_bytes f) (block_bytes f)) in
          r ∙ (λ i. compress f ((ap (with_length f n) q ∙ one_is n o e) i) ((p ∙ whole_all h) i))
          ∙ ap (hash_value f h padded) (sym (blocks_are (suc (length m / block_bytes f)) l))

      -- they don't: the length is in a block of its own
      pub last_two : {s c u t : List ℕ} (h : List ℕ) (n : ℕ) → block_bytes f ≤ over + length_bytes f → n ≡ k * block_bytes f + length m
          → s ≡ hash_value f h m (length m / block_bytes f) → c ≡ tail_block f m → u ≡ compress f c s
          → t ≡ compress f (with_length f n (replicate (block_bytes f) 0)) u → t ≡ hash_after f h k m
      unfolding hash_after hash_value
      last_two h n o e p q v r =
          let two = length_two o in
          let s = suc-mul (length m / block_bytes f) (block_bytes f) in
          let z = suc-mul (suc (length m / block_bytes f)) (block_bytes f) in
          let u = v ∙ (λ i. compress f ((q ∙ tail_whole o) i) ((p ∙ whole_all h) i)) in
          r ∙ (λ i. compress f (two_is n o e i) (u i))
          ∙ ap (hash_value f h padded) (sym (blocks_are (suc (suc (length m / block_bytes f))) (omega arith)))
