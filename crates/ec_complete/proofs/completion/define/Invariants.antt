use Rattle.std.proofs.Common.{◌≡◌, ◌==◌, ◌++◌, map, filter, drop}
use Rattle.ec_logic.specs.Universe.{universe_of}
use Rattle.ec_theory.specs.View.{formula_tree}
use Rattle.ec_path.specs.View.{path_of}
use Rattle.ec_complete.specs.Completion.{path_formula}
use Rattle.ec_complete.proofs.completion.define.Given as goal

abbrev pub invariant-loop-path : goal.invariant-loop-path
invariant-loop-path l = map formula_tree l.ways.items ++ map (path_formula (universe_of l.signature)) (filter (λ path. path.predicate == l.predicate) (map path_of (drop l.path-index l.found))) ≡ map (path_formula (universe_of l.signature)) (filter (λ path. path.predicate == l.predicate) (map path_of l.found))
