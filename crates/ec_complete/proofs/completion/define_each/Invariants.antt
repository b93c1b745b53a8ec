use Rattle.std.proofs.Common.{◌≡◌, map, take}
use Rattle.ec_logic.specs.Universe.{universe_of}
use Rattle.ec_path.specs.View.{path_of}
use Rattle.ec_complete.specs.Completion.{defined}
use Rattle.ec_complete.specs.View.{scope_of}
use Rattle.ec_complete.proofs.completion.define_each.Given as goal

abbrev pub invariant-loop-predicate : goal.invariant-loop-predicate
invariant-loop-predicate l = record {
  predicates : map (λ d. d.predicate) l.definitions.items ≡ take l.predicate-index l.predicates;
  scopes : map scope_of l.definitions.items ≡ map (defined (universe_of l.signature) (map path_of l.found)) (take l.predicate-index l.predicates);
}
