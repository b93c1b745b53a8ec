-- A sentence as a whole: its first fault, and its formula with its free variables closed.
use Rattle.std.specs.Prelude.{[], Option}
use Rattle.ec_logic.specs.Tree as tree
use Rattle.ec_names.specs.Names.{Names}
use Rattle.ec_syntax.specs.Written.{Formula}
use Rattle.ec_walk.specs.declared.fault.Fault.{Fault}
use Rattle.ec_walk.specs.Faults.{formula_fault, opened}
use Rattle.ec_walk.specs.Variables.{closed_variables}
use Rattle.ec_walk.specs.Trees.{formula_tree, quantified}

abbrev pub sentence_fault : Names → Formula → Option Fault
sentence_fault names f = formula_fault names (opened [] (closed_variables f)) f

-- the first free variable is the outermost
abbrev pub sentence_tree : Names → Formula → tree.Formula
sentence_tree names f = quantified tree.for_all names (closed_variables f) (formula_tree names (opened [] (closed_variables f)) f)
