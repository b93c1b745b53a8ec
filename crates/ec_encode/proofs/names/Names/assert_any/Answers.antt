use Rattle.std.proofs.Common.{◌∙◌}
use Rattle.ec_folding.specs.Tree.{as_trees}
use Rattle.ec_prop.specs.Prop.{trees_of}
use Rattle.ec_naming.specs.Variables.{variable_of}
use Rattle.ec_naming.proofs.Adding.{range_names, few_after}
use Rattle.ec_encode.proofs.names.Names.assert_any.Goals as goal

pub push-requires-clause-range : goal.push-requires-clause-range
push-requires-clause-range c =
    range_names c.args.atoms.now c.args.self.now.variables _ c.args.self.now.next (as_trees (trees_of c.args.parts.now)) _ c.name_each.ensures.variables (c.deref.ensures.value ∙ c.in_ok-lits.ensures.literals) c.requires.enough c.requires.low c.requires.high c.requires.atoms

pub push-requires-clause-few : goal.push-requires-clause-few
push-requires-clause-few c =
    few_after (variable_of c.args.atoms.now) c.args.self.now.next 4294967295 (as_trees (trees_of c.args.parts.now)) c.args.self.now.clauses c.name_each.new.self.clauses c.in_ok-lits.ensures.clauses c.requires.few
