use Rattle.std.proofs.Common.{arith}
use Rattle.ec_naming.proofs.Numbering.{variable_of-contained}
use Rattle.ec_encode.proofs.names.Names.atom_literal.Goals as goal

pub new-requires-clause-low : goal.new-requires-clause-low
new-requires-clause-low c = omega (arith, c.variable_of.ensures, variable_of-contained c.args.atoms.now c.args.atom c.requires.atom)
