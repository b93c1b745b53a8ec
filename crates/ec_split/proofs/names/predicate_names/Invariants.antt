use Rattle.std.proofs.Common.{◌≡◌, take}
use Rattle.ec_logic.specs.Valid.{symbol_names}
use Rattle.ec_split.proofs.names.predicate_names.Given as goal

abbrev pub invariant-loop-p : goal.invariant-loop-p
invariant-loop-p l = l.names.keys ≡ take l.p (symbol_names l.signature.predicates)
