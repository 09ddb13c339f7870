use Rattle.std.proofs.Common.{◌*◌, ◌∙◌, arith, rules, refl}
use Rattle.std.proofs.lemmas.Iterator.{YieldsList-from_range}
use Rattle.std.proofs.lemmas.Iterator.Search.{any_from_yields_List}
use Rattle.regions.specs.Region.{region_at, region_length, start_above_end}
use Rattle.regions.proofs.Judgements.{in_turn}
use Rattle.regions.proofs.region.Region.any_unsound.Goals as goal

pub returns : goal.returns
returns c =
    let run = c.args.run.now in
    any_from_yields_List (λ i. start_above_end (region_at run (region_length * i))) _ _ c.any.result c.any.ensures.ran (YieldsList-from_range 0 c.args.n c.args.n refl (omega arith)) (λ x b q k. search rules)
    ∙ in_turn start_above_end run c.args.n
