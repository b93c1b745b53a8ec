use Rattle.std.proofs.Common.{◌≡◌, drop}
use Rattle.ec_theory.specs.View.{formula_trees}
use Rattle.ec_split.specs.Form.{clause_fault_of}
use Rattle.ec_split.specs.Plan.{groups_in}
use Rattle.ec_split.specs.Split.{is_in}
use Rattle.ec_split.proofs.form.+fault.Given as goal

abbrev pub invariant-form_fault_of-loop-f : goal.invariant-form_fault_of-loop-f
invariant-form_fault_of-loop-f l = clause_fault_of (is_in (groups_in l.plan) l.place) (formula_trees (drop l.f-index l.fs)) ≡ clause_fault_of (is_in (groups_in l.plan) l.place) (formula_trees l.fs)
