use Rattle.std.proofs.Common.{◌≡◌, ◌++◌, map, drop}
use Rattle.ec_logic.specs.Universe.{universe_of}
use Rattle.ec_theory.specs.View.{formula_tree, term_trees}
use Rattle.ec_complete.specs.Completion.{terms_ranges}
use Rattle.ec_complete.proofs.ranges.+term_ranges.Given as goal

abbrev pub invariant-add_ranges_of_args-loop-place : goal.invariant-add_ranges_of_args-loop-place
invariant-add_ranges_of_args-loop-place l = map formula_tree l.found.items ++ terms_ranges (universe_of l.signature) l.depth (drop l.place l.sorts) (term_trees (drop l.place l.args)) ≡ map formula_tree l.fn.found.items ++ terms_ranges (universe_of l.signature) l.depth l.sorts (term_trees l.args)
