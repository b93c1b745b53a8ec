use Rattle.std.proofs.Common.{◌≡◌}
use Rattle.ec_prop.specs.Prop.{trees_of}
use Rattle.bench_clauses.specs.Alike.{repeated, sentence_tree}
use Rattle.bench_clauses.proofs.theory.sentences.Given as goal

abbrev pub invariant-loop : goal.invariant-loop
invariant-loop l = trees_of l.found.items ≡ repeated l.counter sentence_tree
