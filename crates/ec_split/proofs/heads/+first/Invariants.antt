use Rattle.std.proofs.Common.{◌≡◌, drop}
use Rattle.ec_theory.specs.View.{formula_trees}
use Rattle.ec_split.specs.Form.{first_head_of}
use Rattle.ec_split.proofs.heads.+first.Given as goal

abbrev pub invariant-first_head_of_trees-loop-f : goal.invariant-first_head_of_trees-loop-f
invariant-first_head_of_trees-loop-f l = first_head_of (formula_trees (drop l.f-index l.fs)) ≡ first_head_of (formula_trees l.fs)
