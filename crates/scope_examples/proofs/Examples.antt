-- Every example of the table holds.
use Prim.Native.Nat.{ℕ}
use mathlib.Core.Path.{◌≡◌, refl, sym, ap, ◌∙◌}
use mathlib.Core.Bool.{Bool, false, ◌||◌}
use mathlib.Core.List.{List, [], ◌∷◌}
use native.Mathlib.Omega.{arith}
use borrow.Author.Tests.{le-ltb}
use lib.Dec.{lit<}
use lib.ListN.{length, length-append}
use Rattle.laws.specs.Tests.{bit_of}
use Rattle.refusal.specs.Steps.{reply}
use Rattle.refusal.proofs.Laws.{accepted_yes}
use Rattle.octets.specs.Octets.{number_at}
use Rattle.message_header.specs.Header.{foreign, unoffered_kind, command_of}
use Rattle.element_parts.specs.Parts.{read_number, item_count}
use Rattle.regions.specs.Region.{region_length, any_region, start_above_end, end_is_last, region_number}
use Rattle.regions.specs.RwRegion.{rw_region_number}
use Rattle.signed_image.specs.SignedImage.{image_fields_malformed, bad_flag, image_bytes, image_write_step}
use Rattle.laws.proofs.Tests.{or_left}
use Rattle.element_parts.proofs.Verdicts.{write_yes, write_wrong_buffer}
use Rattle.element_parts.proofs.Items.{items_of, counted}
use Rattle.signed_image.proofs.Flags.{flag_good}
use Rattle.regions.proofs.Regions.{region_element}
use Rattle.signed_image.proofs.Images.{sound_image}
use Rattle.signed_image.proofs.RoundTrips.{round_trips}
use Rattle.laws.specs.Lists.{All}
use Rattle.scope_examples.specs.Examples.{Holds, start_is_end, one_region_image, table}

one_byte : Holds (start_is_end 0x02 1)
unfolding rw_region_number
one_byte a b c d =
    let n : ℕ = number_at 4 (a ∷ b ∷ c ∷ d ∷ []) 0 in
    (ap read_number (le-ltb n n (omega arith)), omega arith)

-- ---- a signed image with SHA-256 and one region

module _ (hash region : List ℕ) (h : length hash ≡ 32) (r : region_number end_is_last region ≡ 0) where
  eight : length region ≡ region_length
  eight = (region_element end_is_last region r).0

  one : item_count region_length region ≡ 1
  one = counted region_length 1 region (lit< tt) eight

  one_sound : any_region start_above_end region 1 ≡ false
  unfolding any_region
  one_sound = (region_element end_is_last region r).1

  sound : image_fields_malformed end_is_last 0 hash region ≡ false
  sound =
      sound_image end_is_last 0 hash region
      (record {
        known = omega arith;
        hash_length_law = h;
        items = items_of region_length 1 region (lit< tt) eight (λ z. omega arith) (lit< tt);
        sound = ap (any_region start_above_end region) one ∙ one_sound;
      })

  module _ (m : Bool) where
    -- a given bit is one
    good : (bad_flag (bit_of m) || image_fields_malformed end_is_last 0 hash region) ≡ false
    good = or_left (image_fields_malformed end_is_last 0 hash region) (flag_good m) ∙ sound

    bytes_44 : length (image_bytes 0 (bit_of m) hash region) ≡ 44
    bytes_44 = omega (arith, h, eight, length-append hash region)

image_44 : Holds (one_region_image 0 32 44)
image_44 m hash region buffer h r =
    let long = bytes_44 hash region h r m in
    let written = image_write_step end_is_last 0 (bit_of m) hash region buffer in
    let yes : length buffer ≡ 44 → written.number ≡ 0 = λ e. write_yes (good hash region h r m) (e ∙ sym long) in
    record {
      accepted = yes;
      refused = λ e. write_wrong_buffer (good hash region h r m) (λ f. e (f ∙ long));
      bytes = λ e. ap length (accepted_yes (image_bytes 0 (bit_of m) hash region) buffer (yes e)) ∙ long;
      back = λ e.
          let k = (round_trips end_is_last).image_back 0 m hash region buffer (yes e) in
          (k.0 ∙ (λ i. reply 0 (record { hash_type = 0; region_count = one hash region h r i; must_validate = m })), k.1);
    }

pub examples : All Holds table
unfolding table command_of foreign unoffered_kind rw_region_number
examples = (refl, (refl, (refl, (refl, (refl, (refl, (refl, (refl, (refl, (refl, (refl, (refl, (one_byte, (image_44, tt))))))))))))))
