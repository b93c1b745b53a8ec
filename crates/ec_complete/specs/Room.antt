-- Paths whose formulas can be written with numbers of 32 bits.
use Rattle.std.specs.Prelude.{ℕ, ◌<◌, ◌≤◌, ◌^◌, max, List, [], ◌∷◌}
use Rattle.ec_logic.specs.Tree.{Formula, verum, falsum, atom, equal, less, negation, all_of, any_of, implies, iff, for_all, exists, Formulas, no_formulas, formula}
use Rattle.ec_logic.specs.Reach.{reach, reach_of, nesting}
use Rattle.ec_logic.specs.ValidTheory.{binder_limit}
use Rattle.ec_logic.specs.Paths.{Step, binder, body, Path, binders}
use Rattle.ec_complete.specs.Completion.{count_of}

-- one more than the greatest number of a variable, or 0 where there is none
abbrev mutual
  pub formula_reach : Formula → ℕ
  formula_reach verum = 0
  formula_reach falsum = 0
  formula_reach (atom p ts) = reach_of ts
  formula_reach (equal a b) = max (reach a) (reach b)
  formula_reach (less a b) = max (reach a) (reach b)
  formula_reach (negation f) = formula_reach f
  formula_reach (all_of fs) = formulas_reach fs
  formula_reach (any_of fs) = formulas_reach fs
  formula_reach (implies f g) = max (formula_reach f) (formula_reach g)
  formula_reach (iff f g) = max (formula_reach f) (formula_reach g)
  formula_reach (for_all s f) = formula_reach f
  formula_reach (exists s f) = formula_reach f

  pub formulas_reach : Formulas → ℕ
  formulas_reach no_formulas = 0
  formulas_reach (formula f fs) = max (formula_reach f) (formulas_reach fs)

-- No variable's number and no nesting is over the limit of a sentence.
pub record IsLow (f : Formula) : Type 0 where
  pub reach : formula_reach f ≤ binder_limit
  pub nesting : nesting f ≤ binder_limit

abbrev pub AreLow : List Step → Type 0
AreLow [] = Unit {0}
AreLow (binder s f ∷ steps) = IsLow f × AreLow steps
AreLow (body f ∷ steps) = IsLow f × AreLow steps

pub record HasRoom (path : Path) : Type 0 where
  pub steps : AreLow path.steps
  pub binders : binders path.steps ≤ binder_limit
  pub args : count_of path.args < 2 ^ 31
