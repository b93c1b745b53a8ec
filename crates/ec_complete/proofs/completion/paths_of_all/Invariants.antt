use Rattle.std.proofs.Common.{◌≡◌, ◌++◌, map, drop}
use Rattle.std.specs.List.{flat_map}
use Rattle.ec_logic.specs.Paths.{paths}
use Rattle.ec_theory.specs.Theories.{sentence_trees}
use Rattle.ec_path.specs.View.{path_of}
use Rattle.ec_complete.proofs.completion.paths_of_all.Given as goal

abbrev pub invariant-loop-sentence : goal.invariant-loop-sentence
invariant-loop-sentence l = map path_of l.found.items ++ flat_map paths (sentence_trees (drop l.sentence-index l.sentences)) ≡ flat_map paths (sentence_trees l.sentences)
