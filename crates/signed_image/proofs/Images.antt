-- A signed image, by any judgement of regions: what its writer wrote, its reader reads back; what its reader accepts, its writer writes again.
use Prim.Native.Nat.{ℕ, ◌≤◌, ◌+◌, ◌-◌, ◌*◌, ◌/◌, ◌%◌, ◌^◌}
use mathlib.Core.Path.{◌≡◌, refl, sym, ap, ◌∙◌}
use mathlib.Core.Bool.{Bool, true, false, not, ◌||◌}
use mathlib.Core.List.{List, [], ◌∷◌, ◌++◌}
use native.Mathlib.Omega.{arith}
use borrow.Author.Tests.{ne_eqb, eqb-false, le-ltb, ltb-false}
use lib.Dec.{eqb, ltb, lit<}
use lib.ListN.{length, get_or, take, drop, length-append, length-drop, take-append-drop}
use lib.Seq.{length-take-le, take_at, drop_at, drop-drop}
use Rattle.laws.specs.Tests.{any, bit_of}
use Rattle.laws.proofs.Tests.{any_no, no_any, or_no, or_left, equal_no, no_equal}
use Rattle.octets.specs.Octets.{Bytes}
use Rattle.refusal.specs.Steps.{outcome, reply}
use Rattle.refusal.proofs.Laws.{accepted_yes}
use Rattle.hash.specs.Types.{hash_length}
use Rattle.element_parts.specs.Parts.{read_number, item_count}
use Rattle.regions.specs.Region.{region_length, Judgement}
use Rattle.signed_image.specs.SignedImage.{ImageFields, image_head_length, image_length, hash_type_of, region_count_of, must_validate_of, hash_of, regions_of, image_faults, image_number, image_fields, image_hash, image_regions, image_field_faults, image_fields_malformed, bad_flag, image_bytes, image_write_step}
use Rattle.element_parts.proofs.Verdicts.{read_yes, read_accepted, write_accepted, write_after, write_done}
use Rattle.element_parts.proofs.Items.{GoodItems, good_items, items_good, items_of, counted}
use Rattle.laws.proofs.Lists.{take_to_end}
use Rattle.signed_image.specs.Parts.{image_parts}
use Rattle.element_parts.proofs.Heads.{four_and_rest}
use Rattle.signed_image.proofs.Flags.{flag_back, flag_good, flag_small, flag_again}

-- ---- fields that the writer accepts

pub record ImageSound (j : Judgement) (hash_type : ℕ) (hash regions : List ℕ) : Type 0 where
  pub known : hash_type ≤ 2
  pub hash_length_law : length hash ≡ hash_length hash_type
  pub items : GoodItems region_length regions
  pub sound : j.bad_regions regions (item_count region_length regions) ≡ false

module _ (j : Judgement) (t : ℕ) (hash regions : List ℕ) where
  image_sound : image_fields_malformed j t hash regions ≡ false → ImageSound j t hash regions
  unfolding image_fields_malformed
  image_sound e =
      let p = any_no (image_field_faults j t hash regions) e in
      record {
        known = ltb-false 2 t p.0;
        hash_length_law = no_equal _ _ p.1.0;
        items = good_items region_length regions p.1.1.0;
        sound = p.1.1.1.0;
      }

  pub sound_image : ImageSound j t hash regions → image_fields_malformed j t hash regions ≡ false
  unfolding image_fields_malformed
  sound_image k =
      no_any (image_field_faults j t hash regions)
      (le-ltb 2 t k.known, (equal_no k.hash_length_law, (items_good region_length regions k.items, (k.sound, tt))))

  module _ (m : Bool) where
    -- what an accepted writer was given
    pub record ImageWrites (buffer : List ℕ) : Type 0 where
      pub fields : ImageSound j t hash regions
      pub long : length buffer ≡ image_head_length + length hash + length regions
      pub after : (image_write_step j t (bit_of m) hash regions buffer).after ≡ image_bytes t (bit_of m) hash regions

    pub image_writes : (buffer : List ℕ) → (image_write_step j t (bit_of m) hash regions buffer).number ≡ 0 → ImageWrites buffer
    image_writes buffer e =
        let malformed : Bool = bad_flag (bit_of m) || image_fields_malformed j t hash regions in
        let p = write_accepted malformed (image_bytes t (bit_of m) hash regions) buffer e in
        record {
          fields = image_sound (or_no (bad_flag (bit_of m)) (image_fields_malformed j t hash regions) p.0).1;
          long = omega (arith, p.1, length-append hash regions);
          after = write_after malformed (image_bytes t (bit_of m) hash regions) buffer e;
        }

-- ---- an element that the reader accepts

pub record ImageElement (j : Judgement) (b : List ℕ) : Type 0 where
  pub long : length b ≡ image_length (hash_type_of b) (region_count_of b)
  pub high : get_or b 0 0 / 2 ^ 3 ≡ 0
  pub known : hash_type_of b ≤ 2
  pub some : region_count_of b ≡ 0 → ⊥
  pub flag : get_or b 2 0 / 2 ≡ 0
  pub zero3 : get_or b 3 0 ≡ 0
  pub sound : j.bad_regions (regions_of b) (region_count_of b) ≡ false

module _ (j : Judgement) (b : List ℕ) where
  pub image_element : image_number j b ≡ 0 → ImageElement j b
  unfolding image_number
  image_element e =
      let p = any_no (image_faults j b) (read_accepted _ e) in
      record {
        long = no_equal _ _ p.0;
        high = no_equal _ _ p.1.0;
        known = ltb-false 2 (hash_type_of b) p.1.1.0;
        some = eqb-false (region_count_of b) 0 p.1.1.1.0;
        flag = no_equal _ _ p.1.1.1.1.0;
        zero3 = no_equal _ _ p.1.1.1.1.1.0;
        sound = p.1.1.1.1.1.1.0;
      }

  image_accepted : ImageElement j b → image_number j b ≡ 0
  unfolding image_number
  image_accepted k =
      read_yes
      (no_any (image_faults j b) (
        equal_no k.long,
        (equal_no k.high, (le-ltb 2 (hash_type_of b) k.known, (ne_eqb (region_count_of b) 0 k.some, (equal_no k.flag, (equal_no k.zero3, (k.sound, tt)))))),
      ))

both_no : (a b : Bool) → (a ≡ false → b ≡ false) → (b ≡ false → a ≡ false) → a ≡ b
both_no true true f g = refl
both_no true false f g = g refl
both_no false b f g = sym (f refl)

-- the bytes behind the first four, as code lends them
abbrev rest_of : List ℕ → List ℕ
rest_of b = take (length b - 4) (drop 4 b)

-- an element that the code took apart: the type t by its first byte, and of what stands behind the first four the hash and the regions
pub record Apart (b : List ℕ) (t width : ℕ) (hash regions : List ℕ) : Type 0 where
  pub type : (t ≡ get_or b 0 0) × (get_or b 0 0 ≤ 2)
  pub zero3 : get_or b 3 0 ≡ 0
  pub long : 4 ≤ length b
  pub wide : width ≡ hash_length t
  pub hash_is : hash ≡ take width (rest_of b)
  pub regions_is : regions ≡ drop width (rest_of b)

module _ (j : Judgement) (b : List ℕ) {t width : ℕ} {hash regions : List ℕ} (a : Apart b t width hash regions) where
  rest_is : rest_of b ≡ drop 4 b
  rest_is = take_to_end 4 b

  type_is : t ≡ hash_type_of b
  type_is = let e = a.type in omega arith

  width_is : width ≡ hash_length (hash_type_of b)
  width_is = a.wide ∙ ap hash_length type_is

  length_is : length b ≡ 4 + length (rest_of b)
  length_is = let l = a.long in omega (arith, ap length rest_is, length-drop 4 b)

  pub hash_apart : hash ≡ hash_of b
  hash_apart = a.hash_is ∙ (λ i. take (width_is i) (rest_is i))

  pub regions_apart : regions ≡ regions_of b
  regions_apart = a.regions_is ∙ (λ i. drop (width_is i) (rest_is i)) ∙ drop-drop (hash_length (hash_type_of b)) 4 b

  -- what is left to test, where u judges the regions
  pub tests_apart : {u : Bool} → u ≡ j.bad_regions regions (region_count_of b)
      → read_number (ltb 1 (get_or b 2 0) || eqb (region_count_of b) 0 || not (eqb (length (rest_of b)) (width + region_length * region_count_of b)) || u) ≡ image_number j b
  unfolding image_number
  tests_apart {u} e =
      ap read_number
      (both_no _ (any (image_faults j b))
      (λ f.
      let p = or_no _ u f in
      let q = or_no _ _ p.0 in
      let r = or_no (ltb 1 (get_or b 2 0)) _ q.0 in
      let long : length (rest_of b) ≡ width + region_length * region_count_of b = no_equal _ _ q.1 in
      let flag = ltb-false 1 (get_or b 2 0) r.0 in
      let type = a.type in
      no_any (image_faults j b) (
        equal_no (omega (arith, length_is, width_is)),
        (equal_no (omega arith), (le-ltb 2 (hash_type_of b) (omega (arith, type_is)), (r.1, (equal_no (omega arith), (equal_no a.zero3, (judged e ∙ p.1, tt)))))),
      ))
      (λ f.
      let p = any_no (image_faults j b) f in
      let long : length b ≡ image_length (hash_type_of b) (region_count_of b) = no_equal _ _ p.0 in
      let high : get_or b 2 0 / 2 ≡ 0 = no_equal _ _ p.1.1.1.1.0 in
      let width_long : length (rest_of b) ≡ width + region_length * region_count_of b = omega (arith, length_is, width_is) in
      none (le-ltb 1 (get_or b 2 0) (omega arith)) p.1.1.1.0 (equal_no width_long) (sym (judged e) ∙ p.1.1.1.1.1.1.0)))
    where
      judged : u ≡ j.bad_regions regions (region_count_of b) → j.bad_regions (regions_of b) (region_count_of b) ≡ u
      judged g = ap (λ (l : List ℕ). j.bad_regions l (region_count_of b)) (sym regions_apart) ∙ sym g

      none : {x y z w : Bool} → x ≡ false → y ≡ false → z ≡ false → w ≡ false → (x || y || z || w) ≡ false
      none f g h k = rw (f, g, h, k)

  pub parts_apart : get_or b 2 0 ≤ 1
      → ◌≡◌ {A = ImageFields × List ℕ × List ℕ} (record { hash_type = t; region_count = region_count_of b; must_validate = eqb (get_or b 2 0) 1 }, hash, regions) (image_parts b)
  parts_apart h =
      let flag : get_or b 2 0 ≡ get_or b 2 0 % 2 = omega arith in
      λ i. (record { hash_type = type_is i; region_count = region_count_of b; must_validate = eqb (flag i) 1 }, hash_apart i, regions_apart i)

-- ---- what was written is read back

module _ (j : Judgement) (t : ℕ) (m : Bool) (hash regions : List ℕ) (k : ImageSound j t hash regions) where
  abbrev element : List ℕ
  element = image_bytes t (bit_of m) hash regions

  type_back : hash_type_of element ≡ t
  type_back = omega (arith, k.known)

  width_back : hash_length (hash_type_of element) ≡ length hash
  width_back = ap hash_length type_back ∙ sym k.hash_length_law

  hash_back : hash_of element ≡ hash
  hash_back = take_at hash regions _ (sym width_back)

  regions_back : regions_of element ≡ regions
  regions_back = sym (drop-drop (hash_length (hash_type_of element)) 4 element) ∙ drop_at hash regions _ (sym width_back)

  element_back : ImageElement j element
  element_back =
      record {
        long = omega (arith, length-append hash regions, width_back, k.items.whole);
        high = omega (arith, k.known);
        known = omega (arith, type_back, k.known);
        some = k.items.some;
        flag = flag_small m;
        zero3 = refl;
        sound = ap (λ (l : List ℕ). j.bad_regions l (item_count region_length regions)) regions_back ∙ k.sound;
      }

pub image_back : (j : Judgement) (hash_type : ℕ) (must_validate : Bool) (hash regions buffer : List ℕ)
    → let w = image_write_step j hash_type (bit_of must_validate) hash regions buffer in
    w.number ≡ 0
    → (reply (image_number j w.after) (image_fields w.after)
    ≡ reply 0 (record { hash_type = hash_type; region_count = item_count region_length regions; must_validate = must_validate }))
    × ((image_hash j w.after ≡ hash) × (image_regions j w.after ≡ regions))
image_back j t m hash regions buffer e =
    let w = image_writes j t hash regions m buffer e in
    let k = w.fields in
    let b : List ℕ = image_bytes t (bit_of m) hash regions in
    let yes : image_number j b ≡ 0 = image_accepted j b (element_back j t m hash regions k) in (
      ap (λ (l : List ℕ). reply (image_number j l) (image_fields l)) w.after
          ∙ (λ i. reply (yes i) (record { hash_type = type_back j t m hash regions k i; region_count = item_count region_length regions; must_validate = flag_back m i })),
      (
        ap (image_hash j) w.after ∙ accepted_yes (hash_of b) [] yes ∙ hash_back j t m hash regions k,
        ap (image_regions j) w.after ∙ accepted_yes (regions_of b) [] yes ∙ regions_back j t m hash regions k,
      ),
    )

-- ---- what is read is written again

module _ (j : Judgement) (b : List ℕ) (k : ImageElement j b) where
  pub regions_length : length (regions_of b) ≡ region_length * region_count_of b
  regions_length = omega (arith, length-drop (4 + hash_length (hash_type_of b)) b, k.long)

  pub hash_length_law : length (hash_of b) ≡ hash_length (hash_type_of b)
  hash_length_law = length-take-le (hash_length (hash_type_of b)) (drop 4 b) (omega (arith, length-drop 4 b, k.long))

  count_again : item_count region_length (regions_of b) ≡ region_count_of b
  count_again = counted region_length (region_count_of b) (regions_of b) (lit< tt) regions_length

  fields_again : Bytes b → ImageSound j (hash_type_of b) (hash_of b) (regions_of b)
  fields_again y =
      record {
        known = k.known;
        hash_length_law = hash_length_law;
        items = items_of region_length (region_count_of b) (regions_of b) (lit< tt) regions_length k.some (y 1);
        sound = ap (j.bad_regions (regions_of b)) count_again ∙ k.sound;
      }

  bytes_again : image_bytes (hash_type_of b) (bit_of (must_validate_of b)) (hash_of b) (regions_of b) ≡ b
  bytes_again =
      let type : hash_type_of b ≡ get_or b 0 0 = omega (arith, k.high) in
      let rest : hash_of b ++ regions_of b ≡ drop 4 b =
      ap (λ (l : List ℕ). hash_of b ++ l) (sym (drop-drop (hash_length (hash_type_of b)) 4 b)) ∙ take-append-drop (hash_length (hash_type_of b)) (drop 4 b) in
      (λ i. type i ∷ count_again i ∷ flag_again (get_or b 2 0) k.flag i ∷ sym k.zero3 i ∷ rest i)
      ∙ sym (four_and_rest b (omega (arith, k.long)))

pub image_again : (j : Judgement) (b buffer : List ℕ) → Bytes b → image_number j b ≡ 0 → length buffer ≡ length b
    → image_write_step j (hash_type_of b) (bit_of (must_validate_of b)) (image_hash j b) (image_regions j b) buffer ≡ outcome 0 b
image_again j b buffer y e l =
    let k = image_element j b e in
    let h : image_hash j b ≡ hash_of b = accepted_yes (hash_of b) [] e in
    let r : image_regions j b ≡ regions_of b = accepted_yes (regions_of b) [] e in
    let sound = sound_image j (hash_type_of b) (hash_of b) (regions_of b) (fields_again j b k y) in
    let same = bytes_again j b k in
    (λ i. image_write_step j (hash_type_of b) (bit_of (must_validate_of b)) (h i) (r i) buffer)
    ∙ write_done (bad_flag (bit_of (must_validate_of b)) || image_fields_malformed j (hash_type_of b) (hash_of b) (regions_of b))
    (image_bytes (hash_type_of b) (bit_of (must_validate_of b)) (hash_of b) (regions_of b)) buffer
    (or_left (image_fields_malformed j (hash_type_of b) (hash_of b) (regions_of b)) (flag_good (must_validate_of b)) ∙ sound) (l ∙ sym (ap length same))
    ∙ ap (outcome 0) same
