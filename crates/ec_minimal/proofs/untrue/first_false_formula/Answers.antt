use Rattle.std.proofs.Common.{◌∙◌, map, sym, arith}
use Rattle.ec_logic.specs.Universe.{universe_of}
use Rattle.ec_logic.specs.Atom.{structure_of}
use Rattle.ec_logic.specs.ValidTheory.{IsSentence}
use Rattle.ec_theory.specs.View.{formula_tree}
use Rattle.ec_minimal.proofs.FirstLemmas.{item_at, fact_at, room_for, next_holds}
use Rattle.ec_minimal.proofs.untrue.first_false_formula.Goals as goal

pub holds-requires-clause-sentence : goal.holds-requires-clause-sentence
holds-requires-clause-sentence c =
    let formula = c.index-formulas-place.result in
    let at = item_at formula_tree c.args.formulas.now c.loop-place.place formula c.loop-place-test.true c.index-formulas-place.is in
    fact_at (IsSentence c.args.signature.now) (map formula_tree c.args.formulas.now) c.loop-place.place (formula_tree formula) c.requires.sentences at

pub holds-requires-clause-room : goal.holds-requires-clause-room
holds-requires-clause-room c =
    let formula = c.index-formulas-place.result in
    let at = item_at formula_tree c.args.formulas.now c.loop-place.place formula c.loop-place-test.true c.index-formulas-place.is in
    omega (arith, room_for (map formula_tree c.args.formulas.now) c.loop-place.place c.args.scratch.now (formula_tree formula) c.requires.room at, c.loop-place.invariant.same)

pub returns-then-not-holds-clause-first : goal.returns-then-not-holds-clause-first
returns-then-not-holds-clause-first c =
    let formula = c.index-formulas-place.result in
    record {
      before = c.loop-place.invariant.before;
      sentence = formula_tree formula;
      there = item_at formula_tree c.args.formulas.now c.loop-place.place formula c.loop-place-test.true c.index-formulas-place.is;
      untrue = sym c.holds.ensures.answer ∙ c.if-not-holds.true;
    }

pub loop-place-preserved : goal.loop-place-preserved
loop-place-preserved c =
    let universe = universe_of c.args.signature.now in
    let formula = c.index-formulas-place.result in
    let at = item_at formula_tree c.args.formulas.now c.loop-place.place formula c.loop-place-test.true c.index-formulas-place.is in
    let true_here = sym c.holds.ensures.answer ∙ c.if-not-holds.false in
    record {
      before = next_holds universe (structure_of universe c.args.structure.now) (map formula_tree c.args.formulas.now) c.loop-place.place (formula_tree formula) at true_here c.loop-place.invariant.before;
      same = c.holds.ensures.same ∙ c.loop-place.invariant.same;
    }
