-- What a turn leaves of the bytes that a reader has left and a writer holds, where those are known.
use Rattle.std.proofs.Common.{ℕ, ◌+◌, ◌-◌, ◌≤◌, ◌<◌, ◌≡◌, List, [], ◌++◌, length, take, drop, Result, Ok, Err, IfOk, OnErr, refl, sym, ap, subst, ◌∙◌, arith, le_refl, drop_at, length-take-le, length-drop, append-nil, take_all}
use lib.Seq.{take-add, take-append-le}
use borrow.Rule.Slice.PartMut.{put_mid, post_of}
use Rattle.std.proofs.lemmas.Slice.{take-put_mid_below}
use Rattle.std.proofs.KnownBytes.{Consumes-trans, Consumes-kept, Appends-trans, Appends-kept}
use Rattle.std.specs.Prelude.{Option}
use Rattle.std.specs.declared.io.Error.{Error}
use Rattle.std.specs.Io.{ReadsAtMost}
use Rattle.std.specs.Io.KnownBytes.{Consumes, IsAtEnd, Appends, ReadConsumes, WriteAppends}
use Rattle.whole_io.specs.declared.Progress.{Progress}
use Rattle.whole_io.proofs.TransferLaws.{GoesOn, Ends}

-- ---- a reader

taken : (a k n : ℕ) (xs ys : List ℕ) → a ≤ length xs → n ≤ length ys → take (a + n) (put_mid a k xs ys) ≡ take a xs ++ take n ys
taken a k n xs ys within fits =
    let all = put_mid a k xs ys in
    let after = post_of a k xs in
    take-add a n all
    ∙ ap (λ (l : List ℕ). l ++ take n (drop a all)) (take-put_mid_below a k xs ys a (le_refl a) within)
    ∙ ap (λ (l : List ℕ). take a xs ++ take n l) (drop_at (take a xs) (ys ++ after) a (length-take-le a xs within))
    ∙ ap (λ (l : List ℕ). take a xs ++ l) (take-append-le n ys after fits)

-- what a reading that ends says of its reader
pub record Read (before after : Option (List ℕ)) (buffer : List ℕ) (reading : Result ℕ Error) : Type 0 where
  pub count : IfOk reading (λ n. n ≤ length buffer)
  pub bytes : IfOk reading (λ n. Consumes before after (take n buffer))
  pub end : IfOk reading (λ n. n < length buffer → IsAtEnd after)
  pub failed : OnErr reading ((n : ℕ) × Consumes before after (take n buffer))

module _ (done k : ℕ) (before old new : Option (List ℕ)) (buffer got : List ℕ)
    (within : done ≤ length buffer) (gave : Consumes before old (take done buffer)) where
  pub read_again : (left : ℕ) (call : Result ℕ Error) (next : Progress) → ReadsAtMost call got → ReadConsumes old new call got
      → GoesOn done left call next → Consumes before new (take next.done (put_mid done k buffer got))
  read_again left (Ok n) next bound bytes on =
      subst (Consumes before new)
      (sym (ap (λ (x : ℕ). take x (put_mid done k buffer got)) on.1 ∙ taken done k n buffer got within bound.0))
      (Consumes-trans before old new (take done buffer) (take n got) gave bytes.0)
  read_again left (Err e) next bound bytes on =
      subst (Consumes before new)
      (sym (ap (λ (x : ℕ). take x (put_mid done k buffer got)) on.0 ∙ take-put_mid_below done k buffer got done (le_refl done) within))
      (Consumes-kept before old new (take done buffer) gave bytes)

  -- the bytes so far stay at the front
  module _ (some : 0 < length got) (long : done < length (put_mid done k buffer got)) where
    front : (rest : List ℕ) → rest ≡ [] → take done buffer ++ rest ≡ take done (put_mid done k buffer got)
    front rest e =
        ap (λ (l : List ℕ). take done buffer ++ l) e ∙ append-nil (take done buffer)
        ∙ sym (take-put_mid_below done k buffer got done (le_refl done) within)

    pub read_over : (call reading : Result ℕ Error) → ReadsAtMost call got → ReadConsumes old new call got → Ends done call reading
        → Read before new (put_mid done k buffer got) reading
    read_over (Ok n) reading bound bytes over =
        subst (Read before new (put_mid done k buffer got)) (sym over.1)
        (record {
          count = omega arith;
          bytes =
              subst (Consumes before new) (front (take n got) (ap (λ (x : ℕ). take x got) over.0))
              (Consumes-trans before old new (take done buffer) (take n got) gave bytes.0);
          end = λ _. bytes.1 over.0 some;
          failed = tt;
        })
    read_over (Err e) reading bound bytes over =
        subst (Read before new (put_mid done k buffer got)) (sym over)
        (record {
          count =
              tt;
          bytes = tt;
          end = tt;
          failed = (done, Consumes-kept before old new _ (subst (Consumes before old) (sym (append-nil (take done buffer)) ∙ front [] refl) gave) bytes);
        })

-- ---- a writer

module _ (done : ℕ) (before old new : Option (List ℕ)) (bytes : List ℕ) (gave : Appends before old (take done bytes)) where
  -- the call was lent the rest of the bytes
  abbrev rest : List ℕ
  rest = take (length bytes - done) (drop done bytes)

  taken_of : (n : ℕ) → take done bytes ++ take n rest ≡ take (done + n) bytes
  taken_of n =
      let whole : rest ≡ drop done bytes = take_all (length bytes - done) (drop done bytes) (omega (arith, length-drop done bytes)) in
      ap (λ (l : List ℕ). take done bytes ++ take n l) whole ∙ sym (take-add done n bytes)

  pub write_again : (left : ℕ) (call : Result ℕ Error) (next : Progress) → WriteAppends old new call rest → GoesOn done left call next
      → Appends before new (take next.done bytes)
  write_again left (Ok n) next moved on =
      subst (Appends before new) (taken_of n ∙ ap (λ (x : ℕ). take x bytes) (sym on.1))
      (Appends-trans before old new (take done bytes) (take n rest) gave moved)
  write_again left (Err e) next moved on =
      subst (Appends before new) (sym (ap (λ (x : ℕ). take x bytes) on.0)) (Appends-kept before old new (take done bytes) gave moved)

  pub write_over : (call : Result ℕ Error) → WriteAppends old new call rest → (n : ℕ) × Appends before new (take n bytes)
  write_over (Ok n) moved = (done + n, subst (Appends before new) (taken_of n) (Appends-trans before old new (take done bytes) (take n rest) gave moved))
  write_over (Err e) moved = (done, Appends-kept before old new (take done bytes) gave moved)
