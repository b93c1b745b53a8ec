use Rattle.std.proofs.Common.{◌∙◌}
use Rattle.ec_folding.specs.Tree.{as_trees}
use Rattle.ec_prop.specs.Prop.{trees_of}
use Rattle.ec_naming.specs.Variables.{variable_of}
use Rattle.ec_naming.proofs.Adding.{range_names, few_gate}
use Rattle.ec_encode.proofs.names.Names.define_all.Goals as goal

pub add_and-requires-clause-range : goal.add_and-requires-clause-range
add_and-requires-clause-range c =
    range_names c.args.atoms.now c.args.self.now.variables _ c.args.self.now.next (as_trees (trees_of c.args.parts.now)) _ c.name_each.ensures.variables (c.deref.ensures.value ∙ c.in_ok-lits.ensures.literals) c.requires.enough c.requires.low c.requires.high c.requires.atoms

pub add_and-requires-clause-few : goal.add_and-requires-clause-few
add_and-requires-clause-few c =
    few_gate (variable_of c.args.atoms.now) c.args.self.now.next 4294967295 c.args.lit (as_trees (trees_of c.args.parts.now)) c.args.self.now.clauses c.name_each.new.self.clauses c.deref.result.now c.in_ok-lits.ensures.clauses (c.deref.ensures.value ∙ c.in_ok-lits.ensures.literals) c.requires.few
