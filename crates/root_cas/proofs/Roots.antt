-- Root CAs: what their writer wrote, their reader reads back; what their reader accepts, their writer writes again. Over the hash type.
use Prim.Native.Nat.{ℕ, ◌≤◌, ◌<◌, ◌+◌, ◌*◌}
use mathlib.Core.Path.{◌≡◌, refl, sym, ap, ◌∙◌}
use mathlib.Core.Bool.{false}
use mathlib.Core.List.{List, [], ◌∷◌}
use native.Mathlib.Omega.{arith}
use borrow.Author.Tests.{ne_eqb, eqb-false, le-ltb, ltb-false}
use lib.ListN.{length, get_or, drop, length-drop}
use Rattle.octets.specs.Octets.{Bytes}
use Rattle.refusal.specs.Steps.{outcome, reply}
use Rattle.refusal.proofs.Laws.{accepted_yes}
use Rattle.hash.specs.Types.{hash_length}
use Rattle.element_parts.specs.Parts.{item_count}
use Rattle.root_cas.specs.RootCas.{roots_head_length, root_count_of, roots_faults, roots_number, roots_fields, roots_hashes, roots_hash_number, roots_field_faults, roots_fields_malformed, roots_bytes, roots_write_step}
use Rattle.laws.proofs.Tests.{any_no, no_any, equal_no, no_equal}
use Rattle.element_parts.proofs.Verdicts.{read_yes, read_accepted, write_accepted, write_after, write_done}
use Rattle.hash.proofs.Types.{length_positive}
use Rattle.element_parts.proofs.Items.{item_there, item_accepted, GoodItems, good_items, items_good, items_of, counted}
use Rattle.element_parts.proofs.Heads.{four_and_rest}

-- ---- fields that the writer accepts

pub record RootsSound (hash_type : ℕ) (hashes : List ℕ) : Type 0 where
  pub known : hash_type ≤ 2
  pub items : GoodItems (hash_length hash_type) hashes

roots_sound : (hash_type : ℕ) (hashes : List ℕ) → roots_fields_malformed hash_type hashes ≡ false → RootsSound hash_type hashes
unfolding roots_fields_malformed
roots_sound t hashes e =
    let p = any_no (roots_field_faults t hashes) e in
    record { known = ltb-false 2 t p.0; items = good_items (hash_length t) hashes p.1.0 }

-- what an accepted writer was given
pub record RootsWrites (hash_type : ℕ) (hashes buffer : List ℕ) : Type 0 where
  pub fields : RootsSound hash_type hashes
  pub long : length buffer ≡ roots_head_length + length hashes
  pub after : (roots_write_step hash_type hashes buffer).after ≡ roots_bytes hash_type hashes

pub roots_writes : (hash_type : ℕ) (hashes buffer : List ℕ) → (roots_write_step hash_type hashes buffer).number ≡ 0 → RootsWrites hash_type hashes buffer
roots_writes t hashes buffer e =
    let p = write_accepted (roots_fields_malformed t hashes) (roots_bytes t hashes) buffer e in
    record { fields = roots_sound t hashes p.0; long = omega (arith, p.1); after = write_after (roots_fields_malformed t hashes) (roots_bytes t hashes) buffer e }

sound_roots : (hash_type : ℕ) (hashes : List ℕ) → RootsSound hash_type hashes → roots_fields_malformed hash_type hashes ≡ false
unfolding roots_fields_malformed
sound_roots t hashes k = no_any (roots_field_faults t hashes) (le-ltb 2 t k.known, (items_good (hash_length t) hashes k.items, tt))

-- ---- an element that the reader accepts

pub record RootsElement (hash_type : ℕ) (b : List ℕ) : Type 0 where
  pub long : length b ≡ roots_head_length + hash_length hash_type * root_count_of b
  pub known : hash_type ≤ 2
  pub some : root_count_of b ≡ 0 → ⊥
  pub zero1 : get_or b 1 0 ≡ 0
  pub zero2 : get_or b 2 0 ≡ 0
  pub zero3 : get_or b 3 0 ≡ 0

pub roots_element : (hash_type : ℕ) (b : List ℕ) → roots_number hash_type b ≡ 0 → RootsElement hash_type b
unfolding roots_number
roots_element t b e =
    let p = any_no (roots_faults t b) (read_accepted _ e) in
    record {
      long = no_equal _ _ p.0;
      known = ltb-false 2 t p.1.0;
      some = eqb-false (root_count_of b) 0 p.1.1.0;
      zero1 = no_equal _ _ p.1.1.1.0;
      zero2 = no_equal _ _ p.1.1.1.1.0;
      zero3 = no_equal _ _ p.1.1.1.1.1.0;
    }

roots_accepted : (hash_type : ℕ) (b : List ℕ) → RootsElement hash_type b → roots_number hash_type b ≡ 0
unfolding roots_number
roots_accepted t b k =
    read_yes
    (no_any (roots_faults t b) (
      equal_no k.long,
      (le-ltb 2 t k.known, (ne_eqb (root_count_of b) 0 k.some, (equal_no k.zero1, (equal_no k.zero2, (equal_no k.zero3, tt))))),
    ))

-- it is there in a sound element that has so many hashes, and in no other
pub hash_there : (hash_type : ℕ) (b : List ℕ) (i : ℕ) → roots_number hash_type b ≡ 0 → i < root_count_of b → roots_hash_number hash_type b i ≡ 0
unfolding roots_hash_number
hash_there t b i e h = item_there e h

pub hash_accepted : (hash_type : ℕ) (b : List ℕ) (i : ℕ) → roots_hash_number hash_type b i ≡ 0 → (roots_number hash_type b ≡ 0) × (i < root_count_of b)
unfolding roots_hash_number
hash_accepted t b i e = item_accepted (roots_number t b) (root_count_of b) i e

-- ---- what was written is read back

pub roots_back : (hash_type : ℕ) (hashes buffer : List ℕ)
    → let w = roots_write_step hash_type hashes buffer in
    w.number ≡ 0
    → (reply (roots_number hash_type w.after) (roots_fields w.after) ≡ reply 0 (record { count = item_count (hash_length hash_type) hashes }))
    × (roots_hashes hash_type w.after ≡ hashes)
roots_back t hashes buffer e =
    let w = roots_writes t hashes buffer e in
    let k = w.fields in
    let b : List ℕ = roots_bytes t hashes in
    let long : length b ≡ roots_head_length + hash_length t * root_count_of b = omega (arith, k.items.whole) in
    let yes : roots_number t b ≡ 0 =
    roots_accepted t b (record { known = k.known; long = long; some = k.items.some; zero1 = refl; zero2 = refl; zero3 = refl }) in (
      ap (λ (l : List ℕ). reply (roots_number t l) (roots_fields l)) w.after ∙ (λ i. reply (yes i) (roots_fields b)),
      ap (roots_hashes t) w.after ∙ accepted_yes hashes [] yes,
    )

-- ---- what is read is written again

module _ (t : ℕ) (b : List ℕ) (k : RootsElement t b) where
  pub hashes_length : length (drop 4 b) ≡ hash_length t * root_count_of b
  hashes_length = omega (arith, length-drop 4 b, k.long)

  fields_again : Bytes b → RootsSound t (drop 4 b)
  fields_again y =
      record { known = k.known; items = items_of (hash_length t) (root_count_of b) (drop 4 b) (length_positive t k.known) hashes_length k.some (y 0) }

  bytes_again : roots_bytes t (drop 4 b) ≡ b
  bytes_again =
      let count = counted (hash_length t) (root_count_of b) (drop 4 b) (length_positive t k.known) hashes_length in
      (λ i. count i ∷ sym k.zero1 i ∷ sym k.zero2 i ∷ sym k.zero3 i ∷ drop 4 b)
      ∙ sym (four_and_rest b (omega (arith, k.long)))

pub roots_again : (hash_type : ℕ) (b buffer : List ℕ) → Bytes b → roots_number hash_type b ≡ 0 → length buffer ≡ length b
    → roots_write_step hash_type (roots_hashes hash_type b) buffer ≡ outcome 0 b
roots_again t b buffer y e l =
    let k = roots_element t b e in
    let h : roots_hashes t b ≡ drop 4 b = accepted_yes (drop 4 b) [] e in
    let same = bytes_again t b k in
    (λ i. roots_write_step t (h i) buffer)
    ∙ write_done (roots_fields_malformed t (drop 4 b)) (roots_bytes t (drop 4 b)) buffer (sound_roots t (drop 4 b) (fields_again t b k y)) (l ∙ sym (ap length same))
    ∙ ap (outcome 0) same
