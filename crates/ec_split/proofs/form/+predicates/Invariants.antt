use Rattle.std.proofs.Common.{◌≡◌, drop}
use Rattle.ec_theory.specs.View.{formula_trees}
use Rattle.ec_split.specs.Form.{first_predicate_of}
use Rattle.ec_split.specs.Plan.{groups_in}
use Rattle.ec_split.specs.Split.{is_in}
use Rattle.ec_split.proofs.form.+predicates.Given as goal

abbrev pub invariant-first_in_each-loop-f : goal.invariant-first_in_each-loop-f
invariant-first_in_each-loop-f l = first_predicate_of (is_in (groups_in l.plan) l.place) (formula_trees (drop l.f-index l.fs)) ≡ first_predicate_of (is_in (groups_in l.plan) l.place) (formula_trees l.fs)
