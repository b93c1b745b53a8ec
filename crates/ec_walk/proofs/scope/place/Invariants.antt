use Rattle.std.proofs.Common.{◌≡◌, ◌+◌, drop}
use Rattle.std.specs.List.{position_or_len}
use Rattle.std.specs.Str.{bytes_eq}
use Rattle.ec_walk.specs.Scopes.{words}
use Rattle.ec_walk.proofs.scope.place.Given as goal

abbrev pub invariant-loop-word : goal.invariant-loop-word
invariant-loop-word l = record {
  passed : l.place ≡ l.word-index;
  rest : l.place + position_or_len (bytes_eq l.variable) (words (drop l.word-index l.scope)) ≡ position_or_len (bytes_eq l.variable) (words l.scope);
}
