-- Parts that C is told by their place and length: the laws of specs/Laws.antt.
use Prim.Native.Nat.{ℕ, zero, suc, ◌+◌, ◌*◌, ◌≤◌}
use mathlib.Core.Path.{◌≡◌, refl, sym, ap, ◌∙◌}
use mathlib.Core.Bool.{Bool, true, false, cond}
use mathlib.Core.List.{List, [], ◌∷◌}
use native.Mathlib.Omega.{arith}
use native.Mathlib.Nat.{mul-le-mul_left, le_of_lt}
use lib.ListN.{length, take, drop}
use lib.Dec.{eqb}
use Rattle.refusal.proofs.Laws.{accepted_yes}
use Rattle.log_entry.specs.Entry.{entry_length}
use Rattle.attestation_log.specs.State.{State}
use Rattle.attestation_log.specs.Calls.{read_out_step}
use Rattle.attestation_log.proofs.Answers.{read_bytes}
use Rattle.manifest_slot.specs.declared.Role.{Role}
use Rattle.manifest_slot.specs.Slot.{Held}
use Rattle.slot_state.specs.State.{received_of}
use Rattle.manifest_slot.specs.Calls.{manifest_of}
use Rattle.hash.specs.Types.{hash_length}
use Rattle.regions.specs.Region.{end_is_last}
use Rattle.signed_image.specs.SignedImage.{hash_of}
use Rattle.signed_image.specs.SignedImage.{image_head_length, hash_type_of, regions_of, image_number, image_hash, image_regions}
use Rattle.root_cas.specs.RootCas.{roots_head_length, roots_hash, roots_hash_number}
use Rattle.root_cas.proofs.Roots.{roots_element, hash_accepted}
use Rattle.root_cas.proofs.ByNumber.{by_number}
use Rattle.c_encoding.specs.Roles.{role_of}
use Rattle.cerberus.specs.Calls.{manifest_step, hash_place}
use Rattle.cerberus.specs.Laws.{PartLaws}

-- a part that is the front of a list is found there by its length
take_again : (n : ℕ) (l : List ℕ) → take (length (take n l)) l ≡ take n l
take_again zero l = refl
take_again (suc n) [] = refl
take_again (suc n) (x ∷ l) = ap (λ (m : List ℕ). x ∷ m) (take_again n l)

front : {part : List ℕ} (n : ℕ) (l : List ℕ) → part ≡ take n l → take (length part) l ≡ part
front n l e = ap (λ (m : List ℕ). take (length m) l) e ∙ take_again n l ∙ sym e

text : (s : State) (buffer : List ℕ) → (read_out_step s buffer).number ≡ 0
    → let part = (read_out_step s buffer).after.bytes in
    take (length part) buffer ≡ part
unfolding read_out_step
text s buffer e = front (entry_length * s.count) buffer (sym (read_bytes s buffer e))

manifest : (role : ℕ) (h : Held) → (manifest_step role h).number ≡ 0
    → let part = (manifest_step role h).after in
    take (length part) (cond (eqb role 0) h.active h.pending) ≡ part
unfolding manifest_step
manifest role h e = of_role (eqb role 0) (accepted_yes (manifest_of (role_of role) h) [] e)
  where
    of_role : {part : List ℕ} (t : Bool) → part ≡ manifest_of (cond t Role.Active Role.Pending) h
        → take (length part) (cond t h.active h.pending) ≡ part
    of_role true is = front h.slot.active.length h.active is
    of_role false is = front (received_of h.slot.transfer) h.pending is

image : (b : List ℕ) → image_number end_is_last b ≡ 0
    → let width = hash_length (hash_type_of b) in
    (take width (drop image_head_length b) ≡ image_hash end_is_last b) × (drop (image_head_length + width) b ≡ image_regions end_is_last b)
image b e = (sym (accepted_yes (hash_of b) [] e), sym (accepted_yes (regions_of b) [] e))

hash : (hash_type : ℕ) (b : List ℕ) (index : ℕ) → roots_hash_number hash_type b index ≡ 0
    → let place = hash_place hash_type index in
    take place.1 (drop place.0 b) ≡ roots_hash hash_type b index
hash t b i e = sym (by_number.hash_shown t b i e).1

pub part_laws : PartLaws
part_laws = record { text = text; manifest = manifest; image = image; hash = hash }

-- a hash of w bytes that is told of begins within the element
pub hash_within : (hash_type : ℕ) (b : List ℕ) (index : ℕ) {w : ℕ} → roots_hash_number hash_type b index ≡ 0 → w ≡ hash_length hash_type
    → roots_head_length + w * index ≤ length b
hash_within t b i e l =
    let k = hash_accepted t b i e in
    omega (arith, ap (λ (n : ℕ). n * i) l, (roots_element t b k.0).long, mul-le-mul_left (hash_length t) (le_of_lt k.1))
