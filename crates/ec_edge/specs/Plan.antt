-- The calls of one kind on files or a sink in memory, and which of them are set to fail.
use Rattle.std.specs.Prelude.{ℕ, List, [], ◌∷◌, ◌++◌, Contains}
use Rattle.ec_edge.specs.Causes.{raised}

-- how many calls there were, and the numbers, from 1, of those that are set to fail
pub record CallPlan : Type 0 where
  pub made : ℕ
  pub failing : List ℕ

-- no call was made, and none is set to fail
abbrev pub no_calls : CallPlan
no_calls = record { made = 0; failing = [] }

-- one call more was made
abbrev pub after_call : CallPlan → CallPlan
after_call plan = record plan { made = raised plan.made }

-- the n-th call is set to fail too
abbrev pub failing_too : CallPlan → ℕ → CallPlan
failing_too plan n = record plan { failing = plan.failing ++ n ∷ [] }

-- the next call is set to fail
abbrev pub FailsNext : CallPlan → Type 0
FailsNext plan = Contains plan.failing (raised plan.made)
