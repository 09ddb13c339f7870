-- A hash continued after whole blocks is the hash of the whole message, for any family.
use Prim.Native.Nat.{ℕ, zero, suc, ◌+◌, ◌-◌, ◌*◌, ◌/◌, ◌%◌, ◌<◌, ◌≤◌}
use mathlib.Core.Path.{◌≡◌, refl, sym, ap, ◌∙◌}
use mathlib.Core.List.{List, [], ◌∷◌, ◌++◌, append_assoc}
use native.Mathlib.Nat.{div-eq_of_lt, add-zero, add-suc, zero-mul, suc-mul, one-mul, add-mul, mul-le-mul_right, mul-add-mod_self_right, mul-add-div_right}
use native.Mathlib.Omega.{arith}
use lib.ListN.{length, take, drop, replicate, length-append, length-drop}
use lib.Seq.{take_all, take-append-le, drop-append-le, drop-append-add}
use Rattle.fips180.specs.Family.{Family, block_bytes, length_bytes}
use Rattle.fips180.specs.Padding.{big_endian, zero_count, pad, block}
use Rattle.fips180.specs.Hash.{compress, hash_value, hash, word_bytes_of, digest}
use Rattle.fips180.specs.Continued.{pad_after, hash_after}
use Rattle.fips180.proofs.Bytes.{length_words}
use Rattle.fips180.proofs.Blocks.{block_positive}

module _ (f : Family) where
  -- whole blocks before a message don't change the zeros behind it
  zero_count_more : (k n : ℕ) → zero_count f (k * block_bytes f + n) ≡ zero_count f n
  unfolding zero_count
  zero_count_more k n =
      let e : k * block_bytes f + n + 1 + length_bytes f ≡ k * block_bytes f + (n + 1 + length_bytes f) = omega arith in
      ap (λ (x : ℕ). (block_bytes f - x % block_bytes f) % block_bytes f) e
      ∙ ap (λ (x : ℕ). (block_bytes f - x) % block_bytes f) (mul-add-mod_self_right k (block_bytes f) (n + 1 + length_bytes f))

  pub pad_append : (k : ℕ) (p m : List ℕ) → length p ≡ k * block_bytes f → pad f (p ++ m) ≡ p ++ pad_after f k m
  unfolding pad pad_after
  pad_append k p m e =
      let n : length (p ++ m) ≡ k * block_bytes f + length m = length-append p m ∙ ap (λ (x : ℕ). x + length m) e in
      append_assoc p m _
      ∙ ap (λ (x : ℕ). p ++ (m ++ (0x80 ∷ (replicate x 0 ++ big_endian (length_bytes f) (8 * length (p ++ m)))))) (ap (zero_count f) n ∙ zero_count_more k (length m))
      ∙ ap (λ (x : ℕ). p ++ (m ++ (0x80 ∷ (replicate (zero_count f (length m)) 0 ++ big_endian (length_bytes f) (8 * x))))) n

  -- blocks of the first part, and of the second
  block_first : (p q : List ℕ) (k i : ℕ) → length p ≡ k * block_bytes f → i < k → block f (p ++ q) i ≡ block f p i
  unfolding block
  block_first p q k i e h =
      let l = length-drop (i * block_bytes f) p in
      let m = mul-le-mul_right (block_bytes f) h in
      let s = suc-mul i (block_bytes f) in
      ap (take (block_bytes f)) (drop-append-le (i * block_bytes f) p q (omega arith))
      ∙ take-append-le (block_bytes f) (drop (i * block_bytes f) p) q (omega arith)

  block_second : (p q : List ℕ) (k i : ℕ) → length p ≡ k * block_bytes f → block f (p ++ q) (k + i) ≡ block f q i
  unfolding block
  block_second p q k i e =
      let n : (k + i) * block_bytes f ≡ length p + i * block_bytes f = add-mul k i (block_bytes f) ∙ ap (λ (x : ℕ). x + i * block_bytes f) (sym e) in
      ap (λ (x : ℕ). take (block_bytes f) (drop x (p ++ q))) n ∙ ap (take (block_bytes f)) (drop-append-add p q (i * block_bytes f))

  first_part : (h p q : List ℕ) (k i : ℕ) → length p ≡ k * block_bytes f → i ≤ k → hash_value f h (p ++ q) i ≡ hash_value f h p i
  unfolding hash_value
  first_part h p q k zero e l = refl
  first_part h p q k (suc i) e l = λ j. compress f (block_first p q k i e l j) (first_part h p q k i e (omega arith) j)

  pub hash_value_append : (h p q : List ℕ) (k i : ℕ) → length p ≡ k * block_bytes f → hash_value f h (p ++ q) (k + i) ≡ hash_value f (hash_value f h p k) q i
  unfolding hash_value
  hash_value_append h p q k zero e = ap (hash_value f h (p ++ q)) (add-zero k) ∙ first_part h p q k k e (omega arith)
  hash_value_append h p q k (suc i) e =
      ap (hash_value f h (p ++ q)) (add-suc k i) ∙ (λ j. compress f (block_second p q k i e j) (hash_value_append h p q k i e j))

  module _ (positive : 0 < f.word_bytes) where
    -- the whole blocks of a text: none is left, and one is taken off its front
    pub blocks_none : (h r : List ℕ) → length r < block_bytes f → hash_value f h r (length r / block_bytes f) ≡ h
    unfolding hash_value
    blocks_none h r l =
        let z : length r / block_bytes f ≡ 0 = div-eq_of_lt l in
        ap (hash_value f h r) z

    pub blocks_next : {t : List ℕ} (h b r : List ℕ) → length b ≡ block_bytes f → t ≡ compress f b h
        → hash_value f t r (length r / block_bytes f) ≡ hash_value f h (b ++ r) (length (b ++ r) / block_bytes f)
    unfolding hash_value block
    blocks_next h b r l e =
        let one : length b ≡ 1 * block_bytes f = l ∙ sym (one-mul (block_bytes f)) in
        let n : length (b ++ r) / block_bytes f ≡ 1 + length r / block_bytes f =
        ap (λ (x : ℕ). x / block_bytes f) (length-append b r ∙ ap (λ (x : ℕ). x + length r) one) ∙ mul-add-div_right (block_positive f positive) 1 (length r) in
        let first = ap (λ (x : ℕ). take (block_bytes f) (drop x b)) (zero-mul (block_bytes f)) ∙ take_all (block_bytes f) b (omega arith) in
        ap (λ (x : List ℕ). hash_value f x r (length r / block_bytes f)) (e ∙ ap (λ (x : List ℕ). compress f x h) (sym first))
        ∙ sym (ap (hash_value f h (b ++ r)) n ∙ hash_value_append h b r 1 (length r / block_bytes f) one)

    pub hash_append : (h p m : List ℕ) (k : ℕ) → length p ≡ k * block_bytes f → hash f h (p ++ m) ≡ hash_after f (hash_value f h p k) k m
    unfolding hash hash_after
    hash_append h p m k e =
        let q : List ℕ = pad_after f k m in
        let n : length (p ++ q) / block_bytes f ≡ k + length q / block_bytes f =
        ap (λ (x : ℕ). x / block_bytes f) (length-append p q ∙ ap (λ (x : ℕ). x + length q) e) ∙ mul-add-div_right (block_positive f positive) k (length q) in
        ap (λ (x : List ℕ). hash_value f h x (length x / block_bytes f)) (pad_append k p m e) ∙ ap (hash_value f h (p ++ q)) n
        ∙ hash_value_append h p q k (length q / block_bytes f) e

    -- with nothing before it
    pub hash_whole : (h m : List ℕ) → hash f h m ≡ hash_after f h 0 m
    unfolding hash_value
    hash_whole h m = hash_append h [] m 0 (sym (zero-mul (block_bytes f)))

    -- with one block before it
    pub hash_block : (h b m : List ℕ) → length b ≡ block_bytes f → hash f h (b ++ m) ≡ hash_after f (compress f b h) 1 m
    unfolding hash_value block
    hash_block h b m e =
        hash_append h b m 1 (e ∙ sym (one-mul (block_bytes f)))
        ∙ ap (λ (x : List ℕ). hash_after f (compress f x h) 1 m) (ap (λ (n : ℕ). take (block_bytes f) (drop n b)) (zero-mul (block_bytes f)) ∙ take_all (block_bytes f) b (omega arith))

    -- the digest, in the same two cases: the first n bytes of the hash value
    pub digest_whole : (h : List ℕ) (n : ℕ) (m : List ℕ) → take n (word_bytes_of f 8 (hash_after f h 0 m)) ≡ digest f h n m
    unfolding digest
    digest_whole h n m = ap (λ (v : List ℕ). take n (word_bytes_of f 8 v)) (sym (hash_whole h m))

    pub digest_block : (h b : List ℕ) (n : ℕ) (m : List ℕ) → length b ≡ block_bytes f
        → take n (word_bytes_of f 8 (hash_after f (compress f b h) 1 m)) ≡ digest f h n (b ++ m)
    unfolding digest
    digest_block h b n m e = ap (λ (v : List ℕ). take n (word_bytes_of f 8 v)) (sym (hash_block h b m e))

  -- all of its bytes are the digest
  pub digest_all : (v : List ℕ) (n : ℕ) → n ≡ 8 * f.word_bytes → word_bytes_of f 8 v ≡ take n (word_bytes_of f 8 v)
  digest_all v n e = let l = length_words f 8 v in sym (take_all n (word_bytes_of f 8 v) (omega arith))
