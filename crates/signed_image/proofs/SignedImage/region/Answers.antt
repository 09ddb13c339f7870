use mathlib.Core.Path.{◌∙◌}
use Rattle.regions.specs.Region.{end_is_last, run_region}
use Rattle.regions.proofs.Judgements.{end_is_last_law}
use Rattle.signed_image.proofs.ByNumber.{region_walk}
use Rattle.signed_image.proofs.SignedImage.region.Goals as goal

pub returns : goal.returns
returns c =
    let a = c.args in
    c.nth.ensures
    ∙ (λ i. run_region end_is_last (c.regions.ensures i) a.i)
    ∙ region_walk end_is_last a.element.now a.i end_is_last_law
