use Rattle.std.proofs.Common.{length}
use Rattle.ec_logic.specs.Universe.{universe_of}
use Rattle.ec_logic.specs.Atom.{all_atoms}
use Rattle.ec_audit.proofs.Copied.{IsCopied}
use Rattle.ec_audit.proofs.part.structure_with.Given as goal

abbrev pub invariant-loop-atom : goal.invariant-loop-atom
invariant-loop-atom l = IsCopied l.fn.truth (length (all_atoms (universe_of l.fn.atoms))) l.atom l.structure
