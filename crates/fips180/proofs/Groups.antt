-- Groups of sixteen rounds over a circular queue of sixteen words are the rounds over the whole schedule, for any family and any number of
-- groups.
use Prim.Native.Nat.{ℕ, zero, suc, ◌+◌, ◌-◌, ◌*◌, ◌/◌, ◌%◌, ◌<◌, ◌≤◌}
use mathlib.Core.Path.{◌≡◌, refl, sym, ap, subst, ◌∙◌}
use mathlib.Core.Logic.{⊎_elim}
use mathlib.Core.List.{List, [], ◌∷◌, ◌++◌}
use native.Mathlib.Nat.{eq-or-lt_of_le}
use native.Mathlib.Numerals.{add-one}
use native.Mathlib.Omega.{arith}
use lib.ListN.{length, get_or, set, take, drop, length-set}
use lib.Seq.{get_or-set_same, get_or-set_other, get_or-take, get_or-drop, take-suc-set}
use Rattle.fips180.specs.Family.{Family, small_sigma0, small_sigma1}
use Rattle.fips180.specs.Padding.{word_at, words_of}
use Rattle.fips180.specs.Hash.{plus, next_word, schedule, round, after_rounds, sums, compress}
use Rattle.fips180.specs.Groups.{filled, queue_word, advanced, group_words, rounds_from, after_groups}
use Rattle.laws.proofs.Lists.{store_all}
use Rattle.fips180.proofs.Schedule.{length_words_of, schedule_stays, schedule_word}

module _ (g : ℕ → List ℕ → ℕ) where
  length_filled : (n : ℕ) (q : List ℕ) → length (filled g n q) ≡ length q
  unfolding filled
  length_filled zero q = refl
  length_filled (suc n) q = length-set (filled g n q) n (g n (filled g n q)) ∙ length_filled n q

  -- word i, once it is in its place, stays
  filled_word : (i n : ℕ) (q : List ℕ) → i < n → get_or (filled g n q) i 0 ≡ get_or (filled g (suc i) q) i 0
  unfolding filled
  filled_word i zero q h = absurd (omega arith)
  filled_word i (suc n) q h =
      ⊎_elim (λ (e : i ≡ n). ap (λ (k : ℕ). get_or (filled g (suc k) q) i 0) (sym e))
      (λ (l : i < n). get_or-set_other (filled g n q) n i (g n (filled g n q)) 0 (λ e. omega arith) ∙ filled_word i n q l)
      (eq-or-lt_of_le (omega arith))

module _ (f : Family) where
  length_advanced : (n : ℕ) (q : List ℕ) → length (advanced f n q) ≡ length q
  unfolding advanced
  length_advanced n q = length_filled (queue_word f) n q

  length_group_words : (b : List ℕ) (g : ℕ) → length (group_words f b g) ≡ 16
  unfolding group_words
  length_group_words b zero = length_words_of f 16 b
  length_group_words b (suc g) = length_advanced 16 (group_words f b g) ∙ length_group_words b g

  module _ (b : List ℕ) (n : ℕ) where
    -- the queue q has the sixteen words from W_t on of a schedule of 16 + n words, each at its index modulo 16
    abbrev Holds : ℕ → List ℕ → Type 0
    Holds t q = (j : ℕ) → j < 16 → get_or q ((t + j) % 16) 0 ≡ get_or (schedule f n b) (t + j) 0

    queue_word_law : (t i : ℕ) (q : List ℕ) → t < n → i ≡ t % 16 → Holds t q → queue_word f i q ≡ get_or (schedule f n b) (16 + t) 0
    unfolding queue_word next_word
    queue_word_law t i q h e p =
        let ws : List ℕ = schedule f n b in
        let at : (j k l : ℕ) → j < 16 → k ≡ (t + j) % 16 → l ≡ t + j → get_or q k 0 ≡ get_or ws l 0 =
        λ j k l s x y. ap (λ (m : ℕ). get_or q m 0) x ∙ p j s ∙ ap (λ (m : ℕ). get_or ws m 0) (sym y) in
        let w2 = at 14 ((i + 14) % 16) (16 + t - 2) (omega arith) (omega arith) (omega arith) in
        let w7 = at 9 ((i + 9) % 16) (16 + t - 7) (omega arith) (omega arith) (omega arith) in
        let w15 = at 1 ((i + 1) % 16) (16 + t - 15) (omega arith) (omega arith) (omega arith) in
        let w16 = at 0 i (16 + t - 16) (omega arith) (omega arith) (omega arith) in
        (λ k. plus f (plus f (plus f (small_sigma1 f (w2 k)) (w7 k)) (small_sigma0 f (w15 k))) (w16 k)) ∙ sym (schedule_word f b n t h)

    -- one word gives way to the word sixteen places on
    queue_step : (t i : ℕ) (q : List ℕ) → t < n → i ≡ t % 16 → length q ≡ 16 → Holds t q → Holds (suc t) (set q i (queue_word f i q))
    queue_step t i q h e l p j s =
        ⊎_elim
        (λ (x : j ≡ 15).
        let k : (suc t + j) % 16 ≡ i = omega arith in
        let m : 16 + t ≡ suc t + j = omega arith in
        ap (λ (y : ℕ). get_or (set q i (queue_word f i q)) y 0) k ∙ get_or-set_same q i (queue_word f i q) 0 (omega arith) ∙ queue_word_law t i q h e p
        ∙ ap (λ (y : ℕ). get_or (schedule f n b) y 0) m)
        (λ (x : j < 15).
        let k : t + suc j ≡ suc t + j = omega arith in
        get_or-set_other q i ((suc t + j) % 16) (queue_word f i q) 0 (λ y. omega arith)
        ∙ subst (λ (y : ℕ). get_or q (y % 16) 0 ≡ get_or (schedule f n b) y 0) k (p (suc j) (omega arith)))
        (eq-or-lt_of_le (omega arith))

    holds_advanced : (t k : ℕ) (q : List ℕ) → t % 16 ≡ 0 → k ≤ 16 → t + k ≤ n → length q ≡ 16 → Holds t q → Holds (t + k) (advanced f k q)
    unfolding advanced filled
    holds_advanced t zero q e s h l p = let z : t ≡ t + 0 = omega arith in subst (λ (x : ℕ). Holds x q) z p
    holds_advanced t (suc k) q e s h l p =
        let z : suc (t + k) ≡ t + suc k = omega arith in
        let m = length_advanced k q in
        subst (λ (x : ℕ). Holds x (advanced f (suc k) q)) z
        (queue_step (t + k) k (advanced f k q) (omega arith) (omega arith) (omega arith) (holds_advanced t k q e (omega arith) (omega arith) l p))

    holds_group : (g : ℕ) → 16 * g ≤ n → Holds (16 * g) (group_words f b g)
    unfolding group_words schedule
    holds_group zero h j s =
        let k : (16 * 0 + j) % 16 ≡ 16 * 0 + j = omega arith in
        let z : 0 + n ≡ n = omega arith in
        ap (λ (x : ℕ). get_or (words_of f 16 b) x 0) k
        ∙ sym (schedule_stays f b 0 n (16 * 0 + j) (omega arith))
        ∙ ap (λ (x : ℕ). get_or (schedule f x b) (16 * 0 + j) 0) z
    holds_group (suc g) h j s =
        let z : 16 * g + 16 ≡ 16 * suc g = omega arith in
        subst (λ (x : ℕ). Holds x (group_words f b (suc g))) z
        (holds_advanced (16 * g) 16 (group_words f b g) (omega arith) (omega arith) (omega arith) (length_group_words b g) (holds_group g (omega arith)))
        j s

    -- k rounds of group g
    group_rounds : (s : List ℕ) (g k : ℕ) → 16 * g ≤ n → k ≤ 16
        → rounds_from f (16 * g) (group_words f b g) (after_rounds f (schedule f n b) s (16 * g)) k ≡ after_rounds f (schedule f n b) s (16 * g + k)
    unfolding rounds_from after_rounds
    group_rounds s g zero h l = let z : 16 * g ≡ 16 * g + 0 = omega arith in ap (after_rounds f (schedule f n b) s) z
    group_rounds s g (suc k) h l =
        let z : suc (16 * g + k) ≡ 16 * g + suc k = omega arith in
        let m : (16 * g + k) % 16 ≡ k = omega arith in
        let w : get_or (group_words f b g) k 0 ≡ get_or (schedule f n b) (16 * g + k) 0 =
        ap (λ (x : ℕ). get_or (group_words f b g) x 0) (sym m) ∙ holds_group g h k (omega arith) in
        let e = group_rounds s g k h (omega arith) in
        (λ i. round f (get_or f.constants (16 * g + k) 0) (w i) (e i)) ∙ ap (after_rounds f (schedule f n b) s) z

    -- 6.2.2, step 3, by groups
    pub groups_are_rounds : (s : List ℕ) (g : ℕ) → 16 * g ≤ 16 + n → after_groups f b s g ≡ after_rounds f (schedule f n b) s (16 * g)
    unfolding after_groups after_rounds
    groups_are_rounds s zero h = refl
    groups_are_rounds s (suc g) h =
        let z : 16 * g + 16 ≡ 16 * suc g = omega arith in
        ap (λ (x : List ℕ). rounds_from f (16 * g) (group_words f b g) x 16) (groups_are_rounds s g (omega arith))
        ∙ group_rounds s g 16 (omega arith) (omega arith)
        ∙ ap (after_rounds f (schedule f n b) s) z

  pub compress_groups : (b s : List ℕ) (g : ℕ) → f.rounds ≡ 16 * g → sums f 8 (after_groups f b s g) s ≡ compress f b s
  unfolding compress
  compress_groups b s g e =
      ap (λ (x : List ℕ). sums f 8 x s)
      (groups_are_rounds b (f.rounds - 16) s g (omega arith) ∙ ap (after_rounds f (schedule f (f.rounds - 16) b) s) (sym e))

  -- ---- the steps, as code takes them

  -- one round, where ks are the constants of the sixteen rounds from round t on
  constant_is : (ks : List ℕ) (t i : ℕ) → i < 16 → ks ≡ take 16 (drop t f.constants) → get_or ks i 0 ≡ get_or f.constants (t + i) 0
  constant_is ks t i h e =
      ap (λ (l : List ℕ). get_or l i 0) e ∙ get_or-take 16 (drop t f.constants) i 0 h ∙ get_or-drop t f.constants i 0

  rounds_more : {x r : List ℕ} (ks ws s : List ℕ) (t i : ℕ) → i < 16 → ks ≡ take 16 (drop t f.constants)
      → x ≡ round f (get_or ks i 0) (get_or ws i 0) r → r ≡ rounds_from f t ws s i → x ≡ rounds_from f t ws s (suc i)
  unfolding rounds_from
  rounds_more ks ws s t i h k e p = e ∙ (λ j. round f (constant_is ks t i h k j) (get_or ws i 0) (p j))

  -- ---- sixteen rounds, where g i q is the word that takes place i of the queue q before round i of them

  module _ (g : ℕ → List ℕ → ℕ) where
    -- the queue and the working variables after i of the sixteen rounds from round t on, from q and s
    record Reached (t : ℕ) (q s : List ℕ) (i : ℕ) (w r : List ℕ) : Type 0 where
      queue : w ≡ filled g i q
      state : r ≡ rounds_from f t (filled g 16 q) s i

    reached_none : (t : ℕ) (q s : List ℕ) → Reached t q s 0 q s
    unfolding filled rounds_from
    reached_none t q s = record { queue = refl; state = refl }

    reached_more : {w r v x : List ℕ} (ks q s : List ℕ) (t i : ℕ) → i < 16 → ks ≡ take 16 (drop t f.constants)
        → v ≡ set w i (g i w) → x ≡ round f (get_or ks i 0) (get_or v i 0) r → Reached t q s i w r → Reached t q s (suc i) v x
    unfolding filled
    reached_more {r = r} ks q s t i h k d e p =
        let a = d ∙ ap (λ (y : List ℕ). set y i (g i y)) p.queue in
        let b = ap (λ (y : List ℕ). get_or y i 0) a ∙ sym (filled_word g i 16 q h) in
        record {
          queue = a;
          state = rounds_more ks (filled g 16 q) s t i h k (e ∙ ap (λ (y : ℕ). round f (get_or ks i 0) y r) b) p.state;
        }

    -- the next word of the queue w to v, and its round from r to x
    abbrev pub Next : List ℕ → ℕ → List ℕ → List ℕ → List ℕ → List ℕ → Type 0
    Next ks i w r v x = (v ≡ set w i (g i w)) × (x ≡ round f (get_or ks i 0) (get_or v i 0) r)

    pub sixteen_rounds : {s1 s2 s3 s4 s5 s6 s7 s8 s9 s10 s11 s12 s13 s14 s15 s16 q1 q2 q3 q4 q5 q6 q7 q8 q9 q10 q11 q12 q13 q14 q15 q16 : List ℕ}
        (ks q s : List ℕ) (t : ℕ) → ks ≡ take 16 (drop t f.constants)
        → Next ks 0 q s q1 s1
        → Next ks 1 q1 s1 q2 s2
        → Next ks 2 q2 s2 q3 s3
        → Next ks 3 q3 s3 q4 s4
        → Next ks 4 q4 s4 q5 s5
        → Next ks 5 q5 s5 q6 s6
        → Next ks 6 q6 s6 q7 s7
        → Next ks 7 q7 s7 q8 s8
        → Next ks 8 q8 s8 q9 s9
        → Next ks 9 q9 s9 q10 s10
        → Next ks 10 q10 s10 q11 s11
        → Next ks 11 q11 s11 q12 s12
        → Next ks 12 q12 s12 q13 s13
        → Next ks 13 q13 s13 q14 s14
        → Next ks 14 q14 s14 q15 s15
        → Next ks 15 q15 s15 q16 s16
        → (q16 ≡ filled g 16 q) × (s16 ≡ rounds_from f t q16 s 16)
    sixteen_rounds ks q s t k e1 e2 e3 e4 e5 e6 e7 e8 e9 e10 e11 e12 e13 e14 e15 e16 =
        let r0 = reached_none t q s in
        let r1 = reached_more ks q s t 0 (omega arith) k e1.0 e1.1 r0 in
        let r2 = reached_more ks q s t 1 (omega arith) k e2.0 e2.1 r1 in
        let r3 = reached_more ks q s t 2 (omega arith) k e3.0 e3.1 r2 in
        let r4 = reached_more ks q s t 3 (omega arith) k e4.0 e4.1 r3 in
        let r5 = reached_more ks q s t 4 (omega arith) k e5.0 e5.1 r4 in
        let r6 = reached_more ks q s t 5 (omega arith) k e6.0 e6.1 r5 in
        let r7 = reached_more ks q s t 6 (omega arith) k e7.0 e7.1 r6 in
        let r8 = reached_more ks q s t 7 (omega arith) k e8.0 e8.1 r7 in
        let r9 = reached_more ks q s t 8 (omega arith) k e9.0 e9.1 r8 in
        let r10 = reached_more ks q s t 9 (omega arith) k e10.0 e10.1 r9 in
        let r11 = reached_more ks q s t 10 (omega arith) k e11.0 e11.1 r10 in
        let r12 = reached_more ks q s t 11 (omega arith) k e12.0 e12.1 r11 in
        let r13 = reached_more ks q s t 12 (omega arith) k e13.0 e13.1 r12 in
        let r14 = reached_more ks q s t 13 (omega arith) k e14.0 e14.1 r13 in
        let r15 = reached_more ks q s t 14 (omega arith) k e15.0 e15.1 r14 in
        let r16 = reached_more ks q s t 15 (omega arith) k e16.0 e16.1 r15 in
        (r16.queue, r16.state ∙ ap (λ (y : List ℕ). rounds_from f t y s 16) (sym r16.queue))

  -- ---- the first words of the queue, those of the block b

  block_words : (b q : List ℕ) (n : ℕ) → n ≤ length q → take n (filled (λ i _. word_at f b i) n q) ≡ words_of f n b
  unfolding filled words_of
  block_words b q zero h = refl
  block_words b q (suc n) h =
      let l = length_filled (λ i _. word_at f b i) n q in
      take-suc-set (filled (λ i _. word_at f b i) n q) n (word_at f b n) (omega arith)
      ∙ ap (λ (x : List ℕ). x ++ (word_at f b n ∷ [])) (block_words b q n (omega arith))

  pub filled_block : (b q : List ℕ) → length q ≡ 16 → filled (λ i _. word_at f b i) 16 q ≡ words_of f 16 b
  filled_block b q h =
      store_all (λ n. words_of f n b) (filled (λ i _. word_at f b i) 16 q) 16 16 (length_filled (λ i _. word_at f b i) 16 q ∙ h) refl
      (block_words b q 16 (omega arith))

  -- ---- the loop over the groups, where t is the first round of the last one: its words, and the working variables after it

  pub record Group (b s : List ℕ) (t : ℕ) (w v : List ℕ) : Type 0 where
    pub words : w ≡ group_words f b (t / 16)
    pub state : v ≡ after_groups f b s (suc (t / 16))

  pub group_first : {w v : List ℕ} (b s : List ℕ) → w ≡ words_of f 16 b → v ≡ rounds_from f 0 w s 16 → Group b s 0 w v
  unfolding group_words after_groups
  group_first b s p e = record { words = p; state = e ∙ ap (λ (q : List ℕ). rounds_from f 0 q s 16) p }

  pub group_next : {w v x y : List ℕ} (b s : List ℕ) (t : ℕ) → t % 16 ≡ 0 → Group b s t w v → x ≡ advanced f 16 w → y ≡ rounds_from f (t + 16) x v 16
      → Group b s (t + 16) x y
  unfolding group_words after_groups
  group_next b s t z g d e =
      let n : suc (t / 16) ≡ (t + 16) / 16 = omega arith in
      let m : t + 16 ≡ 16 * suc (t / 16) = omega arith in
      let q = d ∙ ap (advanced f 16) g.words in
      record {
        words = q ∙ ap (group_words f b) n;
        state = e ∙ (λ i. rounds_from f (m i) (q i) (g.state i) 16) ∙ ap (λ (k : ℕ). after_groups f b s (suc k)) n;
      }

  pub group_last : {w v : List ℕ} (b s : List ℕ) (t : ℕ) → t % 16 ≡ 0 → f.rounds ≡ t + 16 → Group b s t w v → sums f 8 v s ≡ compress f b s
  group_last b s t z e g = ap (λ (x : List ℕ). sums f 8 x s) g.state ∙ compress_groups b s (suc (t / 16)) (omega arith)

  -- ---- the same, where g groups are done: the words of the last, and the working variables after it

  pub record Grouped (b s : List ℕ) (g : ℕ) (w v : List ℕ) : Type 0 where
    pub some : 0 < g
    pub words : w ≡ group_words f b (g - 1)
    pub state : v ≡ after_groups f b s g

  pub grouped_first : {w v : List ℕ} (b s : List ℕ) → w ≡ words_of f 16 b → v ≡ rounds_from f 0 w s 16 → Grouped b s 1 w v
  unfolding group_words after_groups
  grouped_first b s p e = record { some = omega arith; words = p; state = e ∙ ap (λ (q : List ℕ). rounds_from f 0 q s 16) p }

  pub grouped_next : {w v x y : List ℕ} (b s : List ℕ) (g : ℕ) → Grouped b s g w v → x ≡ advanced f 16 w → y ≡ rounds_from f (16 * g) x v 16
      → Grouped b s (g + 1) x y
  unfolding group_words after_groups
  grouped_next b s g p d e =
      let h = p.some in
      let n : suc (g - 1) ≡ g = omega arith in
      let m : g ≡ g + 1 - 1 = omega arith in
      let q = d ∙ ap (advanced f 16) p.words ∙ ap (group_words f b) n in
      record {
        some = omega arith;
        words = q ∙ ap (group_words f b) m;
        state = e ∙ (λ i. rounds_from f (16 * g) (q i) (p.state i) 16) ∙ ap (after_groups f b s) (sym (add-one g));
      }

  pub grouped_last : {w v : List ℕ} (b s : List ℕ) (g : ℕ) → f.rounds ≡ 16 * g → Grouped b s g w v → sums f 8 v s ≡ compress f b s
  grouped_last b s g e p = ap (λ (x : List ℕ). sums f 8 x s) p.state ∙ compress_groups b s g e
