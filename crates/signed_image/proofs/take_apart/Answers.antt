use Rattle.std.proofs.Common.{get_or, sym, ap, ◌∙◌, rules}
use Rattle.refusal.specs.Steps.{reply}
use Rattle.element_parts.specs.Parts.{read_number}
use Rattle.hash.specs.Types.{type_number}
use Rattle.hash.proofs.Types.{type_tried}
use Rattle.regions.specs.Region.{end_is_last}
use Rattle.signed_image.specs.Parts.{image_parts}
use Rattle.signed_image.proofs.Images.{Apart, tests_apart, parts_apart}
use Rattle.signed_image.proofs.take_apart.Goals as goal

pub returns-then-malformed : goal.returns-then-malformed
returns-then-malformed c =
    let b = c.args.element.now in
    let apart : Apart b (type_number c.in_ok-hash_type.hash_type) c.len-width.result c.front-hash.result.now c.behind-regions.result.now =
    record {
      type = type_tried _ (get_or b 0 0) c.in_ok-hash_type.ensures;
      zero3 = search rules;
      long = c.in-0.len_at_least;
      wide = c.len-width.ensures;
      hash_is = c.front-hash.ensures;
      regions_is = c.behind-regions.ensures;
    } in
    let number = ap read_number (sym c.if-malformed.true) ∙ tests_apart end_is_last b apart c.any_unsound.ensures in
    λ i. reply (number i) (image_parts b)

pub returns : goal.returns
returns c =
    let b = c.args.element.now in
    let apart : Apart b (type_number c.in_ok-hash_type.hash_type) c.len-width.result c.front-hash.result.now c.behind-regions.result.now =
    record {
      type = type_tried _ (get_or b 0 0) c.in_ok-hash_type.ensures;
      zero3 = search rules;
      long = c.in-0.len_at_least;
      wide = c.len-width.ensures;
      hash_is = c.front-hash.ensures;
      regions_is = c.behind-regions.ensures;
    } in
    let number = ap read_number (sym c.if-malformed.false) ∙ tests_apart end_is_last b apart c.any_unsound.ensures in
    λ i. reply (number i) (parts_apart end_is_last b apart (search rules) i)
