use Rattle.std.proofs.Common.{◌≡◌, drop}
use Rattle.ec_names.specs.Names.{is_among}
use Rattle.ec_walk.specs.Scopes.{words}
use Rattle.ec_walk.proofs.scope.contains.Given as goal

abbrev pub invariant-loop-word : goal.invariant-loop-word
invariant-loop-word l = is_among l.variable (words (drop l.word-index l.scope)) ≡ is_among l.variable (words l.scope)
