-- What `split` answers.
use Rattle.std.specs.Prelude.{◌≡◌, Result, Ok, Err}
use Rattle.ec_theory.specs.declared.sorted.Sorted.{Sorted}
use Rattle.ec_theory.specs.declared.theory.Theory.{Theory}
use Rattle.ec_split.specs.declared.fault.SplitFault.{SplitFault}
use Rattle.ec_split.specs.declared.fault.SplitFault.TheVariants.{Refused, Memory}
use Rattle.ec_split.specs.Parts.{parts_of}
use Rattle.ec_split.specs.Split.{split_of}

-- Ok has exactly the theory, Refused the first fault.
abbrev pub IsSplit : Sorted → Result Theory SplitFault → Type 0
IsSplit sorted (Ok theory) = split_of sorted.signature sorted.labelled.items sorted.wanted.items ≡ Ok (parts_of theory)
IsSplit sorted (Err (Refused refusal)) = split_of sorted.signature sorted.labelled.items sorted.wanted.items ≡ Err refusal
IsSplit sorted (Err Memory) = Unit {0}
