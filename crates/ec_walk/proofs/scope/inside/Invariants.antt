use Rattle.std.proofs.Common.{◌≡◌, take}
use Rattle.ec_walk.specs.Scopes.{words}
use Rattle.ec_walk.proofs.scope.inside.Given as goal

abbrev pub invariant-loop-binder : goal.invariant-loop-binder
invariant-loop-binder l = words l.inner.items ≡ take l.binder-index l.binders
