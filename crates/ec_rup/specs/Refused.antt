-- why a step is refused
use Rattle.std.specs.Prelude.{◌≡◌, ℕ, List, Option, Some, None, IfSome}
use Rattle.ec_clause.specs.Literal.{Literal}
use Rattle.ec_clause.specs.ClauseList.{ClauseList}
use Rattle.ec_clause.specs.Step as step
use Rattle.ec_clause.specs.Step.{Fault, IsFault}
use Rattle.ec_rup.specs.declared.fault.StepFault.{StepFault}
use Rattle.ec_rup.specs.declared.fault.StepFault.TheVariants.{Lits, Unknown, NotUnit, NotFalse, Memory}

-- what an answer says is wrong; want of memory says nothing
abbrev pub said : StepFault → Option Fault
said Lits = Some step.Lits
said (Unknown at) = Some (step.Unknown at)
said (NotUnit at) = Some (step.NotUnit at)
said NotFalse = Some step.NotFalse
said Memory = None

-- an answer says what is wrong first with literals and hints
abbrev pub IsRefused : ClauseList → List Literal → List ℕ → StepFault → Type 0
IsRefused c lits hints answer = IfSome (said answer) (IsFault c lits hints)

-- an answer says what was found
abbrev pub Says : Option Fault → StepFault → Type 0
Says found answer = IfSome (said answer) (λ fault. found ≡ Some fault)
