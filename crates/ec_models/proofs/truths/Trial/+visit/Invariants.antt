use Rattle.std.proofs.Common.{◌-◌, length}
use Rattle.ec_logic.specs.Universe.{universe_of}
use Rattle.ec_logic.specs.Atom.{visible_atoms}
use Rattle.ec_models.proofs.truths.Trial.+visit.Given as goal

abbrev pub decreases-visit : goal.decreases-visit
decreases-visit l = length (visible_atoms (universe_of l.self.now.theory.now.signature)) - l.atom
