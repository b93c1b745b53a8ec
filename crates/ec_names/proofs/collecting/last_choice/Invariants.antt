use Rattle.std.proofs.Common.{◌≡◌, drop, map}
use Rattle.ec_syntax.specs.View.{placed_of}
use Rattle.ec_names.specs.Names.{last_choice}
use Rattle.ec_names.proofs.collecting.last_choice.Given as goal

abbrev pub invariant-loop-placed : goal.invariant-loop-placed
invariant-loop-placed l = last_choice l.option l.chosen (map placed_of (drop l.placed-index l.statements)) ≡ last_choice l.option l.fn.before (map placed_of l.statements)
