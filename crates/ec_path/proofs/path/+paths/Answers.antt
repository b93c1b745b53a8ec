use Rattle.std.proofs.Common.{◌++◌, map, drop, ◌+◌, ◌∙◌}
use Rattle.ec_logic.specs.Paths.{paths_of}
use Rattle.ec_theory.specs.View.{formula_tree, formula_trees}
use Rattle.ec_path.specs.View.{below, path_of, step_of}
use Rattle.ec_path.proofs.GatherLemmas.{drop_item, gathered_more}
use Rattle.ec_path.proofs.path.+paths.Goals as goal

pub gather_each-loop-formula-preserved : goal.gather_each-loop-formula-preserved
gather_each-loop-formula-preserved t c =
    let steps = map step_of c.args.above.now.items in
    let tree = formula_tree c.formula-item.result in
    let splits = drop_item c.args.formulas.now c.loop-formula.formula-index c.formula-item.result c.loop-formula-test.true c.formula-item.is in
    let rest-of = formula_trees (drop (c.loop-formula.formula-index + 1) c.args.formulas.now) in
    let made = rw c.loop-formula.invariant.above at c.in_ok-gather.ensures.paths in
    record {
      above = c.in_ok-gather.ensures.above ∙ c.loop-formula.invariant.above;
      rest = gathered_more steps (map path_of c.loop-formula.found.items) (map path_of c.gather.new.found.items) (map path_of c.args.found.now.items ++ below steps (paths_of (formula_trees c.args.formulas.now))) tree rest-of made (rw splits at c.loop-formula.invariant.rest);
    }
