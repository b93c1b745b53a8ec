-- What the walk answers for a first fault and a formula.
use Rattle.std.specs.Prelude.{◌≡◌, Option, Some, None}
use Rattle.ec_logic.specs.Tree as tree
use Rattle.ec_theory.specs.View.{formula_tree}
use Rattle.ec_walk.specs.declared.fault.Fault.{Fault}
use Rattle.ec_walk.specs.declared.sentence.Walked.{Walked}
use Rattle.ec_walk.specs.declared.sentence.Walked.TheVariants.{Formula, Refused}

-- the formula that is due where there is no fault, or the fault
abbrev pub IsWalked : Option Fault → tree.Formula → Walked → Type 0
IsWalked fault due (Formula f) = (fault ≡ None) × (formula_tree f ≡ due)
IsWalked fault due (Refused f) = fault ≡ Some f
