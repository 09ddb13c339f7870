-- One region by its number.
use Prim.Native.Nat.{ℕ, ◌+◌, ◌*◌, ◌<◌}
use mathlib.Core.Path.{◌≡◌, sym, ap, ◌∙◌}
use mathlib.Core.List.{List, []}
use mathlib.Core.Logic.{⊎_elim}
use lib.ListN.{length, take, drop}
use lib.Seq.{drop-drop}
use Rattle.laws.specs.Tests.{any}
use Rattle.refusal.specs.Steps.{reply}
use Rattle.refusal.proofs.Laws.{accepted_yes}
use Rattle.hash.specs.Types.{hash_length}
use Rattle.element_parts.specs.Parts.{shown_part, item}
use Rattle.element_parts.proofs.Items.{item_length, item_there, item_cases, item_shown}
use Rattle.regions.specs.declared.region.Region.{Region}
use Rattle.regions.specs.Region.{region_length, region_at, Judgement, RunsOfSound, region_number, read_region, run_region}
use Rattle.regions.proofs.Regions.{region_item, region_accepted}
use Rattle.signed_image.specs.SignedImage.{image_head_length, hash_type_of, region_count_of, hash_of, regions_of, image_faults, image_number, image_hash, image_regions, image_region_number, image_region}
use Rattle.signed_image.specs.ByNumber.{ByNumber}
use Rattle.signed_image.specs.Walks.{Walks}
use Rattle.signed_image.proofs.Images.{image_element, hash_length_law, regions_length}

module _ (j : Judgement) (b : List ℕ) (i : ℕ) where
  abbrev region : Region
  region = region_at (regions_of b) (region_length * i)

  -- it is there, or it is 12
  region_cases : {A : Type 0}
      → (image_region_number j b i ≡ 0 → image_number j b ≡ 0 → i < region_count_of b → A)
      → (image_region_number j b i ≡ 12 → (image_number j b ≡ 0 → i < region_count_of b → ⊥) → A) → A
  unfolding image_number image_region_number
  region_cases f g =
      ⊎_elim
      (λ (p : (image_region_number j b i ≡ 0) × (image_number j b ≡ 0) × (i < region_count_of b)). f p.0 p.1 p.2)
      (λ (p : (image_region_number j b i ≡ 12) × (image_number j b ≡ 0 → i < region_count_of b → ⊥)). g p.0 p.1)
      (item_cases (any (image_faults j b)) (region_count_of b) i)

  region_shown : image_number j b ≡ 0 → i < region_count_of b → image_region j b i ≡ reply 0 region
  unfolding image_region_number
  region_shown e h = ap (λ (n : ℕ). reply n region) (item_there e h)

  region_none : (image_number j b ≡ 0 → i < region_count_of b → ⊥) → image_region j b i ≡ record { number = 12; values = [] }
  region_none h = region_cases (λ n e l. absurd (h e l)) (λ n _. ap (λ (n : ℕ). reply n region) n)

  -- ---- each, read alone

  module _ (runs : RunsOfSound j) where
    alone : image_number j b ≡ 0 → i < region_count_of b → read_region j (item region_length (regions_of b) i) ≡ reply 0 region
    alone e h =
        let k = image_element j b e in
        let l : List ℕ = regions_of b in
        let at = region_item l i in
        let long = item_length region_length (region_count_of b) l i (regions_length j b k) h in
        let yes = region_accepted j (item region_length l i) long (ap j.bad_region at ∙ runs.each l (region_count_of b) i k.sound h) in
        λ k. reply (yes k) (at k)

    part : item region_length (image_regions j b) i ≡ shown_part (image_region_number j b i) (item region_length (regions_of b) i)
    unfolding image_region_number
    part = item_shown region_length (region_count_of b) (regions_of b) i (image_number j b) (λ e. regions_length j b (image_element j b e))

    pub region_walk : run_region j (image_regions j b) i ≡ image_region j b i
    unfolding region_number
    region_walk =
        let one : List ℕ = item region_length (regions_of b) i in
        region_cases
        (λ n e h.
        ap (read_region j) part
        ∙ ap (λ (n : ℕ). read_region j (shown_part n one)) n
        ∙ alone e h
        ∙ ap (λ (n : ℕ). reply n region) (sym n))
        (λ n _.
        ap (read_region j) part
        ∙ ap (λ (n : ℕ). read_region j (shown_part n one)) n
        ∙ ap (λ (n : ℕ). reply n region) (sym n))

    region_bytes_law : image_number j b ≡ 0 → i < region_count_of b
        → read_region j (take region_length (drop (image_head_length + length (image_hash j b) + region_length * i) b)) ≡ image_region j b i
    region_bytes_law e h =
        let width = ap length (accepted_yes (hash_of b) [] e) ∙ hash_length_law j b (image_element j b e) in
        ap (λ (n : ℕ). read_region j (take region_length (drop (image_head_length + n + region_length * i) b))) width
        ∙ ap (λ (l : List ℕ). read_region j (take region_length l)) (sym (drop-drop (region_length * i) (image_head_length + hash_length (hash_type_of b)) b))
        ∙ alone e h
        ∙ sym (region_shown e h)

-- ---- the claims

pub by_number : (j : Judgement) → ByNumber j
by_number j = record { region_shown = region_shown j; region_none = region_none j }

pub walks : (j : Judgement) → RunsOfSound j → Walks j
walks j runs = record { region = λ b i. region_walk j b i runs; region_bytes_law = λ b i. region_bytes_law j b i runs }
