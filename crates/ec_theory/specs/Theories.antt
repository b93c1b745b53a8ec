-- The theory that sentences and groups stand for.
use Rattle.std.specs.Prelude.{List, map}
use Rattle.ec_logic.specs.Tree as tree
use Rattle.ec_logic.specs.Theory as logic
use Rattle.ec_theory.specs.declared.theory.Sentence.{Sentence}
use Rattle.ec_theory.specs.declared.theory.Group.{Group}
use Rattle.ec_theory.specs.declared.theory.Theory.{Theory}
use Rattle.ec_theory.specs.View.{formula_tree}

abbrev pub sentence_trees : List Sentence → List tree.Formula
sentence_trees sentences = map (λ (sentence : Sentence). formula_tree sentence.formula) sentences

abbrev pub group_of : Group → logic.Group
group_of group = record { predicates = group.predicates.items; sentences = sentence_trees group.sentences.items }

abbrev pub theory_of : Theory → logic.Theory
theory_of theory = record { signature = theory.signature; remaining = sentence_trees theory.remaining.items; groups = map group_of theory.groups.items }
