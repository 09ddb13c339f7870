-- The message schedule, for any family: a block's words, how long it is, and that a word once in it stays.
use Prim.Native.Nat.{ℕ, zero, suc, ◌+◌, ◌-◌, ◌*◌, ◌<◌, ◌≤◌}
use mathlib.Core.Path.{◌≡◌, refl, sym, ap, ◌∙◌}
use mathlib.Core.List.{List, [], ◌∷◌}
use native.Mathlib.Nat.{add-zero, zero-add}
use native.Mathlib.Omega.{arith}
use lib.ListN.{length, get_or, take, drop, length-append, get_or-append}
use lib.Seq.{get_or_at}
use Rattle.fips180.specs.Family.{Family, small_sigma0, small_sigma1}
use Rattle.fips180.specs.Padding.{from_big, word_at, words_of}
use Rattle.fips180.specs.Hash.{plus, next_word, with_next, schedule}
use Rattle.laws.proofs.Lists.{run, take_run}

module _ (f : Family) where
  -- word j of a block, where v is its first byte and vs are the k others, as code reads them
  pub word_read : (b : List ℕ) (j v : ℕ) (vs : List ℕ) (k : ℕ) → f.word_bytes ≡ suc k → j * f.word_bytes + f.word_bytes ≤ length b
      → v ≡ get_or b (j * f.word_bytes) 0 → vs ≡ run b (j * f.word_bytes) 1 k → from_big v vs ≡ word_at f b j
  unfolding word_at from_big
  word_read b j v vs k e h p q =
      let at : ℕ = j * f.word_bytes in
      (λ i. from_big ((p ∙ ap (λ (n : ℕ). get_or b n 0) (sym (add-zero at)) ∙ sym (zero-add (get_or b (at + 0) 0))) i) (q i))
      ∙ ap (from_big 0) (sym (take_run b at (suc k) (omega arith)) ∙ ap (λ (n : ℕ). take n (drop at b)) (sym e))

  pub length_words_of : (k : ℕ) (b : List ℕ) → length (words_of f k b) ≡ k
  unfolding words_of
  length_words_of zero b = refl
  length_words_of (suc k) b = let e = length_words_of k b in let l = length-append (words_of f k b) (word_at f b k ∷ []) in omega arith

  -- words that two lists have in common give the same next word
  next_same : (t : ℕ) (u w : List ℕ) → 16 ≤ t → ((j : ℕ) → j < t → get_or u j 0 ≡ get_or w j 0) → next_word f t u ≡ next_word f t w
  unfolding next_word
  next_same t u w h e =
      let a = e (t - 2) (omega arith) in
      let b = e (t - 7) (omega arith) in
      let c = e (t - 15) (omega arith) in
      let d = e (t - 16) (omega arith) in
      λ i. plus f (plus f (plus f (small_sigma1 f (a i)) (b i)) (small_sigma0 f (c i))) (d i)

  module _ (b : List ℕ) where
    pub length_schedule : (n : ℕ) → length (schedule f n b) ≡ 16 + n
    unfolding schedule with_next
    length_schedule zero = length_words_of 16 b
    length_schedule (suc n) =
        let e = length_schedule n in
        let l = length-append (schedule f n b) (next_word f (16 + n) (schedule f n b) ∷ []) in
        omega arith

    -- the first 16 + n words of a longer schedule
    pub schedule_stays : (n d j : ℕ) → j < 16 + n → get_or (schedule f (n + d) b) j 0 ≡ get_or (schedule f n b) j 0
    unfolding schedule with_next
    schedule_stays n zero j h = let e : n + 0 ≡ n = omega arith in ap (λ (k : ℕ). get_or (schedule f k b) j 0) e
    schedule_stays n (suc d) j h =
        let e : n + suc d ≡ suc (n + d) = omega arith in
        let l = length_schedule (n + d) in
        ap (λ (k : ℕ). get_or (schedule f k b) j 0) e
        ∙ get_or-append (schedule f (n + d) b) (next_word f (16 + (n + d)) (schedule f (n + d) b) ∷ []) 0 j (omega arith)
        ∙ schedule_stays n d j h

    -- 6.2.2, step 1, of every word from W_16 on of the whole schedule
    pub schedule_word : (n k : ℕ) → k < n → get_or (schedule f n b) (16 + k) 0 ≡ next_word f (16 + k) (schedule f n b)
    unfolding schedule with_next
    schedule_word n k h =
        let e : n ≡ suc k + (n - suc k) = omega arith in
        let g : n ≡ k + (n - k) = omega arith in
        ap (λ (m : ℕ). get_or (schedule f m b) (16 + k) 0) e
        ∙ schedule_stays (suc k) (n - suc k) (16 + k) (omega arith)
        ∙ get_or_at (schedule f k b) (next_word f (16 + k) (schedule f k b)) [] 0 (16 + k) (length_schedule k)
        ∙ next_same (16 + k) (schedule f k b) (schedule f n b) (omega arith)
        (λ j l. sym (ap (λ (m : ℕ). get_or (schedule f m b) j 0) g ∙ schedule_stays k (n - k) j l))
