-- What holds of the numbers that C holds.
use Rattle.std.specs.Prelude.{ℕ, ◌+◌, ◌≤◌, ◌≡◌, cond, List, Ok, length, take, drop, eqb}
use Rattle.refusal.specs.declared.Refusal.{Refusal}
use Rattle.refusal.specs.Refusals.{refusal_number, refusal_of, meaning_of, longest_meaning}
use Rattle.attestation_log.specs.State.{State}
use Rattle.attestation_log.specs.Calls.{read_out_step}
use Rattle.manifest_slot.specs.Slot.{Held}
use Rattle.hash.specs.Types.{hash_length}
use Rattle.regions.specs.Region.{end_is_last}
use Rattle.signed_image.specs.SignedImage.{image_head_length, hash_type_of, image_number, image_hash, image_regions}
use Rattle.root_cas.specs.RootCas.{roots_hash, roots_hash_number}
use Rattle.cerberus.specs.Calls.{manifest_step, hash_place}

-- ---- the refusals' meaning

pub record MeaningLaws : Type 0 where
  -- each refusal is the one whose meaning is put for its number
  pub named : (why : Refusal) → refusal_of (refusal_number why) ≡ Ok why
  -- no other number has one
  pub others : (n : ℕ) (why : Refusal) → refusal_of n ≡ Ok why → refusal_number why ≡ n
  -- a text that is not refused has room for each meaning
  pub fits : (why : Refusal) → length (meaning_of why) ≤ longest_meaning

-- ---- parts that C is told by their place and length

pub record PartLaws : Type 0 where
  -- "The log's text: the first *text_len bytes of buffer"
  pub text : (s : State) (buffer : List ℕ) → (read_out_step s buffer).number ≡ 0
      → let part = (read_out_step s buffer).after.bytes in
      take (length part) buffer ≡ part
  -- "The manifest of a role: the first *length bytes of active or of pending"
  pub manifest : (role : ℕ) (h : Held) → (manifest_step role h).number ≡ 0
      → let part = (manifest_step role h).after in
      take (length part) (cond (eqb role 0) h.active h.pending) ≡ part
  -- "The hash is the *hash_len bytes of element from 4 on, the regions are all behind it"
  pub image : (b : List ℕ) → image_number end_is_last b ≡ 0
      → let width = hash_length (hash_type_of b) in
      (take width (drop image_head_length b) ≡ image_hash end_is_last b) × (drop (image_head_length + width) b ≡ image_regions end_is_last b)
  -- "Hash index, from 0: the *hash_len bytes of element from *offset on"
  pub hash : (hash_type : ℕ) (b : List ℕ) (index : ℕ) → roots_hash_number hash_type b index ≡ 0
      → let place = hash_place hash_type index in
      take place.1 (drop place.0 b) ≡ roots_hash hash_type b index
