use Rattle.std.proofs.Common.{◌≡◌, ◌++◌, drop, map}
use Rattle.ec_logic.specs.Axiom.{release_axioms_from, release_axioms}
use Rattle.ec_theory.specs.View.{formula_tree}
use Rattle.ec_axiom.proofs.release.release_axioms.Given as goal

-- the axioms so far and those of the fluents to come
abbrev pub invariant-loop-number : goal.invariant-loop-number
invariant-loop-number l = map formula_tree l.formulas.items ++ release_axioms_from l.signature l.number (drop l.number l.signature.fluents) ≡ release_axioms l.signature
