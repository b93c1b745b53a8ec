use Rattle.std.proofs.Common.{◌≡◌, ◌++◌, [], true, drop, length, map}
use Rattle.ec_logic.specs.Universe.{universe_of}
use Rattle.ec_theory.specs.View.{formula_tree}
use Rattle.ec_grounding.specs.Folded.{folded}
use Rattle.ec_fold.specs.Known.{read_with}
use Rattle.ec_prop.specs.Prop.{trees_of}
use Rattle.ec_ground.proofs.sentences.add_formulas.Given as goal

abbrev pub invariant-loop-formula : goal.invariant-loop-formula
invariant-loop-formula l = record {
  trees :
      trees_of l.trees.items ++ map (folded (universe_of l.reader.signature.now) (read_with (universe_of l.reader.signature.now) l.reader.known.now) [] true) (map formula_tree (drop l.formula-index l.formulas))
      ≡ trees_of l.fn.trees.items ++ map (folded (universe_of l.reader.signature.now) (read_with (universe_of l.reader.signature.now) l.reader.known.now) [] true) (map formula_tree l.formulas);
  room : length l.room ≡ length l.fn.room;
}
