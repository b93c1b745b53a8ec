-- What `accept` answers.
use Rattle.std.specs.Prelude.{Result, Ok, Err}
use Rattle.ec_logic.specs.Theory as logic
use Rattle.ec_syntax.specs.declared.book.Refusal.{Refusal}
use Rattle.ec_theory.specs.Theories.{theory_of}
use Rattle.ec_accept.specs.declared.accepting.Accepted.{Accepted}
use Rattle.ec_accept.specs.declared.fault.AcceptFault.{AcceptFault}
use Rattle.ec_accept.specs.declared.fault.AcceptFault.TheVariants as fault

-- The theory or the refusal that a rule gives; a fault of the files and want of memory say nothing of it.
abbrev pub Answers : (Result logic.Theory Refusal → Type 0) → Result Accepted AcceptFault → Type 0
Answers rule (Ok accepted) = rule (Ok (theory_of accepted.theory))
Answers rule (Err (fault.Refused refusal)) = rule (Err refusal)
Answers rule (Err fault.Files) = Unit {0}
Answers rule (Err fault.Memory) = Unit {0}
