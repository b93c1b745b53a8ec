use Rattle.std.proofs.Common.{◌≡◌, drop}
use Rattle.ec_names.specs.Names.{constant_entry}
use Rattle.ec_declare.specs.Faults.{first_fault, symbol_fault}
use Rattle.ec_declare.proofs.symbols.constants_fault.Given as goal

abbrev pub invariant-loop-constant : goal.invariant-loop-constant
invariant-loop-constant l = first_fault (λ name. symbol_fault l.names (constant_entry l.sort name)) (drop l.constant-index l.constants) ≡ first_fault (λ name. symbol_fault l.names (constant_entry l.sort name)) l.constants
