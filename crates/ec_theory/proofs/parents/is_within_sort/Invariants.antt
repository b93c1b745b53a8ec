use Rattle.std.proofs.Common.{◌≡◌, ◌-◌, length}
use Rattle.ec_logic.specs.Signature.{descends, is_within}
use Rattle.ec_theory.specs.Rows.{signature_of}
use Rattle.ec_theory.proofs.parents.is_within_sort.Given as goal

abbrev pub invariant-loop-passed : goal.invariant-loop-passed
invariant-loop-passed l = descends (signature_of l.rows) (length l.rows.sorts.items - l._passed) l.at l.ancestor ≡ is_within (signature_of l.rows) l.fn.sort l.ancestor
