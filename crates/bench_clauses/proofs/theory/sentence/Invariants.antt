use Rattle.std.proofs.Common.{◌≡◌, ◌∷◌, [], ◌++◌, true}
use Rattle.ec_folding.specs.Tree.{literal}
use Rattle.ec_prop.specs.Prop.{trees_of}
use Rattle.bench_clauses.specs.Alike.{repeated, pair_tree}
use Rattle.bench_clauses.proofs.theory.sentence.Given as goal

abbrev pub invariant-loop : goal.invariant-loop
invariant-loop l = trees_of l.parts.items ≡ (pair_tree ∷ []) ++ repeated l.counter (literal 2 true)
