-- Runs of records: the bytes f x of each x of a list, one behind the other, each n bytes long.
use Prim.Native.Nat.{ℕ, zero, suc, ◌+◌, ◌*◌, ◌<◌, ◌≤◌}
use mathlib.Core.Path.{◌≡◌, sym, ap, ◌∙◌}
use mathlib.Core.List.{List, [], ◌∷◌, ◌++◌, flat_map, append_assoc, append-nil}
use native.Mathlib.Omega.{arith}
use native.Mathlib.Nat.{mul-suc, mul-le-mul_left}
use native.Mathlib.Numerals.{add-one}
use lib.ListN.{length, get_or, take, drop}
use lib.Seq.{take_all, take_at, drop-append-add}
use Rattle.octets.specs.Octets.{pasted}
use Rattle.octets.proofs.Buffers.{length_pasted}
use Rattle.octets.proofs.Parts.{put_next, filled}

module _ {A : Type 0} (f : A → List ℕ) where
  -- one record more
  run_more : (xs : List A) (p : ℕ) (d : A) → p < length xs → flat_map f (take p xs) ++ f (get_or xs p d) ≡ flat_map f (take (suc p) xs)
  unfolding flat_map
  run_more [] p d l = absurd (omega arith)
  run_more (x ∷ xs) zero d l = sym (append-nil (f x))
  run_more (x ∷ xs) (suc p) d l =
      append_assoc (f x) (flat_map f (take p xs)) (f (get_or xs p d)) ∙ ap (λ (b : List ℕ). f x ++ b) (run_more xs p d (omega arith))

  -- every record has n bytes
  abbrev pub AllLong : ℕ → List A → Type 0
  AllLong n [] = Unit {0}
  AllLong n (x ∷ xs) = (length (f x) ≡ n) × AllLong n xs

  -- record p, read from the run
  pub run_at : (n : ℕ) (xs : List A) → AllLong n xs → (p : ℕ) (d : A) → p < length xs → take n (drop (n * p) (flat_map f xs)) ≡ f (get_or xs p d)
  unfolding flat_map
  run_at n [] w p d l = absurd (omega arith)
  run_at n (x ∷ xs) w zero d l =
      let none : n * 0 ≡ 0 = omega arith in
      ap (λ (k : ℕ). take n (drop k (f x ++ flat_map f xs))) none ∙ take_at (f x) (flat_map f xs) n w.0
  run_at n (x ∷ xs) w (suc p) d l =
      let next : n * suc p ≡ length (f x) + n * p = mul-suc n p ∙ omega (arith, w.0) in
      ap (λ (k : ℕ). take n (drop k (flat_map f (x ∷ xs)))) next
      ∙ ap (take n) (drop-append-add (f x) (flat_map f xs) (n * p))
      ∙ run_at n xs w.1 p d (omega arith)

  -- ---- put into an array by a loop, behind the bytes of `front`

  module _ (n : ℕ) (front : List ℕ) (xs : List A) where
    -- the first p are put
    pub record Put (bytes : List ℕ) (p : ℕ) : Type 0 where
      pub few : p ≤ length xs
      pub long : length bytes ≡ length front + n * length xs
      pub done : take (length front + n * p) bytes ≡ front ++ flat_map f (take p xs)

    pub put_none : (bytes : List ℕ) → length bytes ≡ length front + n * length xs → take (length front) bytes ≡ front → Put bytes 0
    unfolding flat_map
    put_none bytes l e =
        let none : length front + n * 0 ≡ length front = omega arith in
        record { few = omega arith; long = l; done = ap (λ (k : ℕ). take k bytes) none ∙ e ∙ sym (append-nil front) }

    module _ (bytes : List ℕ) (p : ℕ) (put : Put bytes p) where
      pub put_more : (d : A) (one later : List ℕ) (at : ℕ) → p < length xs → length one ≡ n → one ≡ f (get_or xs p d) → at ≡ length front + n * p
          → later ≡ pasted bytes at one → Put later (p + 1)
      put_more d one later at l w e a s =
          let step : n * suc p ≡ n * p + n = mul-suc n p in
          let next : n * (p + 1) ≡ n * suc p = ap (λ (k : ℕ). n * k) (add-one p) in
          let room : n * suc p ≤ n * length xs = mul-le-mul_left n (omega arith) in
          let fits : at + length one ≤ length bytes = omega (arith, put.long) in
          record {
            few = omega arith;
            long = ap length s ∙ length_pasted bytes at one fits ∙ put.long;
            done =
                put_next (front ++ flat_map f (take p xs)) bytes one later at (length front + n * (p + 1)) (ap (λ (k : ℕ). take k bytes) a ∙ put.done)
                (omega arith) (omega (arith, put.long)) s
                ∙ append_assoc front (flat_map f (take p xs)) one
                ∙ ap (λ (b : List ℕ). front ++ (flat_map f (take p xs) ++ b)) e
                ∙ ap (λ (b : List ℕ). front ++ b) (run_more xs p d l)
                ∙ ap (λ (k : ℕ). front ++ flat_map f (take k xs)) (sym (add-one p));
          }

      pub put_all : length xs ≤ p → bytes ≡ front ++ flat_map f xs
      put_all l =
          let all : length xs ≡ p = omega (arith, put.few) in
          filled (front ++ flat_map f (take p xs)) bytes (length front + n * p) put.done (put.long ∙ ap (λ (k : ℕ). length front + n * k) all)
          ∙ ap (λ (ys : List A). front ++ flat_map f ys) (take_all p xs l)
