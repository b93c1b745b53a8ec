use Rattle.std.proofs.Common.{arith, ap, ◌∙◌}
use Rattle.std.proofs.lemmas.List.{get_or_default}
use Rattle.ec_unit.specs.declared.seen.Seen.{Seen}
use Rattle.ec_unit.specs.Leaning.{no_seen}
use Rattle.ec_unit.proofs.Growing.{leans_set}
use Rattle.ec_unit.proofs.seen.rest_on.Goals as goal

pub returns-clause-leans : goal.returns-clause-leans
returns-clause-leans c =
    let here = c.index_mut-base.ensures.value ∙ get_or_default c.args.seen.now.items c.args.base c.index_mut-base.result.now no_seen c.requires in
    leans_set c.args.seen.now.items c.args.base c.args.place _ c.requires (ap (λ (s : Seen). s.lit) here) (omega (arith, c.min-base.ensures))
