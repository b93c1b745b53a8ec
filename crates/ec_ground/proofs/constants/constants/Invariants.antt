use Rattle.std.proofs.Common.{◌≡◌, ◌++◌, drop}
use Rattle.ec_ground.specs.Constants.{constants_of}
use Rattle.ec_ground.proofs.constants.constants.Given as goal

abbrev pub invariant-loop-scope : goal.invariant-loop-scope
invariant-loop-scope l = l.known.items ++ constants_of (drop l.scope-index l.scopes) ≡ constants_of l.scopes
