use Rattle.ec_clause.proofs.Sound.{step_holds}
use Rattle.ec_clause.proofs.step.steps_are_sound.Goals as goal

pub returns : goal.returns
returns c = step_holds
