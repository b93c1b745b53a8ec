use Rattle.std.proofs.Common.{◌≡◌, ◌∷◌, map, take}
use Rattle.ec_clause.specs.Literal.{opposite}
use Rattle.ec_encode.proofs.names.long_opposite.Given as goal

abbrev pub invariant-loop-part : goal.invariant-loop-part
invariant-loop-part l = l.scratch.items ≡ l.fn.lit ∷ map opposite (take l.part-index l.parts)
