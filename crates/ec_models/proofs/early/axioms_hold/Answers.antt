use Rattle.std.proofs.Common.{◌≡◌, ◌∙◌, ◌+◌, ◌∷◌, List, drop, map, sym, ap, subst}
use Rattle.std.specs.List.{AllByRecursion}
use Rattle.ec_logic.specs.Tree.{Formula}
use Rattle.ec_logic.specs.Universe.{universe_of}
use Rattle.ec_logic.specs.Atom.{structure_of}
use Rattle.ec_logic.specs.Theory.{all_hold}
use Rattle.ec_logic.specs.ValidTheory.{IsSentence}
use Rattle.ec_theory.specs.View.{formula_tree}
use Rattle.ec_models.proofs.Passing.{item_at, later_hold, later_nest}
use Rattle.ec_models.proofs.early.axioms_hold.Goals as goal

pub loop-formula-preserved : goal.loop-formula-preserved
loop-formula-preserved c =
    let universe = universe_of c.args.signature.now in
    let m = structure_of universe c.args.structure.now in
    let f = formula_tree c.formula-item.result in
    let rest = map formula_tree (drop c.loop-formula.formula-index c.args.axioms.now) in
    let later = map formula_tree (drop (c.loop-formula.formula-index + 1) c.args.axioms.now) in
    let at : rest ≡ f ∷ later = ap (map formula_tree) (item_at c.args.axioms.now c.loop-formula.formula-index c.formula-item.result c.loop-formula-test.true c.formula-item.is) in
    let P : List Formula → Type 0 = λ fs. AllByRecursion (IsSentence c.args.signature.now) fs in
    record {
      rest = later_hold universe m f later rest (all_hold universe m (map formula_tree c.args.axioms.now)) at (sym c.holds.ensures.answer ∙ c.if-not-holds.false) c.loop-formula.invariant.rest;
      sentences = (subst P at c.loop-formula.invariant.sentences).1;
      room = later_nest f later rest c.loop-formula.scratch c.holds.new.scratch at c.holds.ensures.same c.loop-formula.invariant.room;
      same = c.holds.ensures.same ∙ c.loop-formula.invariant.same;
    }
