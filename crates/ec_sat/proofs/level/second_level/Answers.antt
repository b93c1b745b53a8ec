use Rattle.std.proofs.Common.{ap, ◌∙◌, arith}
use Rattle.std.specs.Prelude.{unwrap_or}
use Rattle.ec_trail.specs.TrailList.{level_of}
use Rattle.ec_sat.proofs.Levels.{levels_more}
use Rattle.ec_sat.proofs.level.second_level.Goals as goal

pub loop-lit-preserved : goal.loop-lit-preserved
loop-lit-preserved c =
    let es = c.args.trail.now.entries in
    rw (c.max-first.ensures, c.max-second.ensures, c.min.ensures)
    (levels_more es c.args.lits.now c.loop-lit.lit-index c.loop-lit.first c.loop-lit.second c.unwrap_or-level.result c.lit-item.result c.level-top.ensures.trail.rising c.loop-lit.invariant (omega arith) c.lit-item.is (c.unwrap_or-level.ensures ∙ ap (λ o. unwrap_or o 0) (c.level_of.ensures.value ∙ ap (level_of es) c.variable.ensures.variable)))
