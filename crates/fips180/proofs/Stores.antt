-- Words that code puts into buffers as big-endian bytes: the length at the end of a block, and the words of a digest, for any family.
use Prim.Native.Nat.{ℕ, zero, suc, ◌+◌, ◌-◌, ◌*◌, ◌/◌, ◌%◌, ◌^◌, ◌<◌, ◌≤◌}
use mathlib.Core.Path.{◌≡◌, refl, sym, ap, ◌∙◌}
use mathlib.Core.List.{List, [], ◌∷◌, ◌++◌, append-nil, append_assoc}
use native.Mathlib.Nat.{zero-add, suc-add, suc-mul, mul-le-mul_right}
use native.Mathlib.Numerals.{add-one}
use native.Mathlib.Omega.{arith}
use lib.ListN.{length, take, drop, get_or}
use lib.Pow.{shr-shr, field, mod-mod-pow}
use lib.Seq.{take_all, drop-length}
use Rattle.octets.specs.Octets.{pasted}
use Rattle.octets.proofs.Buffers.{pasted_fits, length_pasted, take_pasted}
use Rattle.fips180.specs.Family.{Family, block_bytes, length_bytes}
use Rattle.fips180.specs.Padding.{big_endian}
use Rattle.fips180.specs.Hash.{word_bytes_of}
use Rattle.fips180.specs.LastBlocks.{with_length}
use Rattle.fips180.proofs.Bytes.{length_big}

-- ---- numbers of two words

-- bytes of a number depend on its low bits alone
big_low : (k d n : ℕ) → big_endian k (n % 2 ^ (d + 8 * k)) ≡ big_endian k n
unfolding big_endian
big_low zero d n = refl
big_low (suc k) d n =
    let e : d + 8 * suc k ≡ d + 8 + 8 * k = omega arith in
    let head : n % 2 ^ (d + 8 + 8 * k) / 2 ^ (8 * k) % 256 ≡ n / 2 ^ (8 * k) % 256 =
    ap (λ (x : ℕ). x % 256) (field n (d + 8) (8 * k)) ∙ mod-mod-pow (n / 2 ^ (8 * k)) d 8 in
    ap (λ (x : ℕ). big_endian (suc k) (n % 2 ^ x)) e ∙ (λ i. head i ∷ big_low k (d + 8) n i)

-- the high bytes, and the low ones
big_two : (k j n : ℕ) → big_endian (j + k) n ≡ big_endian j (n / 2 ^ (8 * k)) ++ big_endian k n
unfolding big_endian
big_two k zero n = ap (λ (x : ℕ). big_endian x n) (zero-add k)
big_two k (suc j) n =
    let e : 8 * (j + k) ≡ 8 * k + 8 * j = omega arith in
    let head : n / 2 ^ (8 * (j + k)) % 256 ≡ n / 2 ^ (8 * k) / 2 ^ (8 * j) % 256 =
    ap (λ (x : ℕ). x % 256) (ap (λ (x : ℕ). n / 2 ^ x) e ∙ sym (shr-shr n (8 * k) (8 * j))) in
    ap (λ (x : ℕ). big_endian x n) (suc-add j k) ∙ (λ i. head i ∷ big_two k j n i)

big_words : (k hi lo n : ℕ) → hi ≡ n / 2 ^ (8 * k) → lo ≡ n % 2 ^ (8 * k) → big_endian k hi ++ big_endian k lo ≡ big_endian (2 * k) n
big_words k hi lo n e g =
    let two : k + k ≡ 2 * k = omega arith in
    let low : big_endian k lo ≡ big_endian k n = ap (big_endian k) (g ∙ ap (λ (x : ℕ). n % 2 ^ x) (sym (zero-add (8 * k)))) ∙ big_low k 0 n in
    (λ i. big_endian k (e i) ++ low i) ∙ sym (big_two k k n) ∙ ap (λ (x : ℕ). big_endian x n) two

module _ (f : Family) where
  abbrev word : ℕ → List ℕ
  word n = big_endian f.word_bytes n

  -- ---- the length, as two words
  pub two_words : (n hi lo : ℕ) → hi ≡ 8 * n / 2 ^ (8 * f.word_bytes) % 2 ^ (8 * f.word_bytes) → lo ≡ 8 * n % 2 ^ (8 * f.word_bytes)
      → word_bytes_of f 2 (hi ∷ lo ∷ []) ≡ big_endian (length_bytes f) (8 * n)
  unfolding word_bytes_of length_bytes
  two_words n hi lo g h =
      let k : ℕ = f.word_bytes in
      let low : word hi ≡ word (8 * n / 2 ^ (8 * k)) =
      ap word (g ∙ ap (λ (x : ℕ). 8 * n / 2 ^ (8 * k) % 2 ^ x) (sym (zero-add (8 * k)))) ∙ big_low k 0 (8 * n / 2 ^ (8 * k)) in
      ap (λ (x : List ℕ). x ++ word lo) low ∙ big_words k (8 * n / 2 ^ (8 * k)) lo (8 * n) refl h

  -- at the end of a block b, where a word is k bytes
  pub length_put : {x y c d : List ℕ} (b : List ℕ) (n hi lo k : ℕ) → f.word_bytes ≡ k → length b ≡ block_bytes f
      → word_bytes_of f 2 (hi ∷ lo ∷ []) ≡ big_endian (length_bytes f) (8 * n) → x ≡ big_endian k hi → y ≡ big_endian k lo → c ≡ pasted b (14 * k) x
      → d ≡ pasted c (15 * k) y → d ≡ with_length f n b
  unfolding with_length word_bytes_of block_bytes length_bytes
  length_put {c = c} b n hi lo k size l two v w r o =
      let at : ℕ = 14 * k in
      let next : 15 * k ≡ at + k = omega arith in
      let e : at ≡ 16 * f.word_bytes - 2 * f.word_bytes = omega arith in
      let p = r ∙ ap (pasted b at) v in
      let q = o ∙ (λ j. pasted c (next j) (w j)) in
      let i = length_big k hi in
      let j = length_big k lo in
      let fits : at + length (big_endian k hi) ≤ length b = omega arith in
      let m = ap length p ∙ length_pasted b at (big_endian k hi) fits in
      let head : take (at + k) c ≡ take at b ++ big_endian k hi =
      ap (λ (x : ℕ). take (at + x) c) (sym i) ∙ ap (take (at + length (big_endian k hi))) p ∙ take_pasted b at (big_endian k hi) fits in
      let whole : at + k + length (big_endian k lo) ≡ length c = omega arith in
      let end : drop (at + k + length (big_endian k lo)) c ≡ [] = ap (λ (x : ℕ). drop x c) whole ∙ drop-length c in
      q ∙ pasted_fits c (at + k) (big_endian k lo) (omega arith)
      ∙ (λ y. head y ++ big_endian k lo ++ end y)
      ∙ append-nil (take at b ++ big_endian k hi ++ big_endian k lo)
      ∙ append_assoc (take at b) (big_endian k hi) (big_endian k lo)
      ∙ (λ y. take (e y) b ++ (big_endian (sym size y) hi ++ big_endian (sym size y) lo))
      ∙ ap (λ (z : List ℕ). take (16 * f.word_bytes - 2 * f.word_bytes) b ++ z) two

  pub length_stored : {x y c d : List ℕ} (b : List ℕ) (n hi lo at : ℕ) → length b ≡ block_bytes f → at ≡ block_bytes f - length_bytes f
      → hi ≡ 8 * n / 2 ^ (8 * f.word_bytes) → lo ≡ 8 * n % 2 ^ (8 * f.word_bytes) → x ≡ word hi → y ≡ word lo → c ≡ pasted b at x
      → d ≡ pasted c (at + f.word_bytes) y → d ≡ with_length f n b
  unfolding word_bytes_of block_bytes length_bytes
  length_stored {x = x} {y = y} {c = c} b n hi lo at l e h g v w r o =
      let p : at ≡ 14 * f.word_bytes = omega arith in
      let q : at + f.word_bytes ≡ 15 * f.word_bytes = omega arith in
      length_put b n hi lo f.word_bytes refl l (big_words f.word_bytes hi lo (8 * n) h g) v w (r ∙ ap (λ (z : ℕ). pasted b z x) p)
      (o ∙ ap (λ (z : ℕ). pasted c z y) q)

  -- ---- the words of a digest
  pub words_more : {next : List ℕ} (s out : List ℕ) (i : ℕ) → i * f.word_bytes + f.word_bytes ≤ length out → take (i * f.word_bytes) out ≡ word_bytes_of f i s
      → next ≡ pasted out (i * f.word_bytes) (word (get_or s i 0)) → take ((i + 1) * f.word_bytes) next ≡ word_bytes_of f (i + 1) s
  unfolding word_bytes_of
  words_more {next = next} s out i h e p =
      let l = length_big f.word_bytes (get_or s i 0) in
      let n : (i + 1) * f.word_bytes ≡ i * f.word_bytes + length (word (get_or s i 0)) =
      ap (λ (x : ℕ). x * f.word_bytes) (add-one i) ∙ suc-mul i f.word_bytes ∙ ap (λ (x : ℕ). i * f.word_bytes + x) (sym l) in
      ap (λ (x : ℕ). take x next) n
      ∙ ap (take (i * f.word_bytes + length (word (get_or s i 0)))) p
      ∙ take_pasted out (i * f.word_bytes) (word (get_or s i 0)) (omega arith)
      ∙ ap (λ (x : List ℕ). x ++ word (get_or s i 0)) e
      ∙ ap (λ (x : ℕ). word_bytes_of f x s) (sym (add-one i))

  pub words_length : {next : List ℕ} (s out : List ℕ) (i : ℕ) → i * f.word_bytes + f.word_bytes ≤ length out
      → next ≡ pasted out (i * f.word_bytes) (word (get_or s i 0)) → length next ≡ length out
  words_length s out i h p =
      let l = length_big f.word_bytes (get_or s i 0) in
      ap length p ∙ length_pasted out (i * f.word_bytes) (word (get_or s i 0)) (omega arith)

  pub words_all : (s out : List ℕ) (i : ℕ) → i ≡ 8 → length out ≡ 8 * f.word_bytes → take (i * f.word_bytes) out ≡ word_bytes_of f i s → out ≡ word_bytes_of f 8 s
  words_all s out i h l e =
      let n = ap (λ (x : ℕ). x * f.word_bytes) h in
      sym (take_all (i * f.word_bytes) out (omega arith)) ∙ e ∙ ap (λ (x : ℕ). word_bytes_of f x s) h

  -- the first i words, of k bytes each, in the buffer out
  pub record Written (s : List ℕ) (k i : ℕ) (out : List ℕ) : Type 0 where
    pub within : i ≤ 8
    pub room : 8 * k ≤ length out
    pub words : take (i * k) out ≡ word_bytes_of f i s

  pub written_none : (s out : List ℕ) (k : ℕ) → 8 * k ≤ length out → Written s k 0 out
  unfolding word_bytes_of
  written_none s out k h =
      let z : 0 * k ≡ 0 = omega arith in
      record { within = omega arith; room = h; words = ap (λ (n : ℕ). take n out) z }

  pub written_more : {next x : List ℕ} (s out : List ℕ) (k i : ℕ) → f.word_bytes ≡ k → i < 8 → Written s k i out → x ≡ big_endian k (get_or s i 0)
      → next ≡ pasted out (i * k) x → Written s k (i + 1) next
  written_more {next = next} {x = x} s out k i size h p e g =
      let room = p.room in
      let m = mul-le-mul_right k h in
      let t = suc-mul i k in
      let at : i * f.word_bytes ≡ i * k = ap (λ (y : ℕ). i * y) size in
      let l : length x ≡ k = ap length e ∙ length_big k (get_or s i 0) in
      let long = ap length g ∙ length_pasted out (i * k) x (omega arith) in
      let bytes : x ≡ word (get_or s i 0) = e ∙ ap (λ (y : ℕ). big_endian y (get_or s i 0)) (sym size) in
      record {
        within = omega arith;
        room = omega arith;
        words =
            ap (λ (y : ℕ). take ((i + 1) * y) next) (sym size)
            ∙ words_more s out i (omega arith) (ap (λ (y : ℕ). take y out) at ∙ p.words) (g ∙ (λ j. pasted out (sym at j) (bytes j)));
      }
