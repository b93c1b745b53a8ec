use Rattle.std.proofs.lemmas.Result.{on_ok_weaker}
use Rattle.ec_prop.specs.Prop.{trees_of}
use Rattle.ec_prop.specs.Grounded.{definitions_of}
use Rattle.ec_naming.specs.Variables.{variable_of}
use Rattle.ec_naming.proofs.Adding.{few_first, few_second, whole_added}
use Rattle.ec_encode.proofs.names.Names.add_whole.Goals as goal

pub assert_each-requires-clause-few : goal.assert_each-requires-clause-few
assert_each-requires-clause-few c =
    few_first (variable_of c.args.atoms.now) c.args.self.now.next (trees_of c.args.sentences.now) (definitions_of c.args.definitions.now) 4294967295 c.args.self.now.clauses c.requires.few

pub define_each-requires-clause-few : goal.define_each-requires-clause-few
define_each-requires-clause-few c =
    few_second (variable_of c.args.atoms.now) c.args.self.now.next (trees_of c.args.sentences.now) (definitions_of c.args.definitions.now) 4294967295 c.assert_each.new.self.next c.args.self.now.clauses c.assert_each.new.self.clauses c.in_ok-assert_each.ensures.next c.in_ok-assert_each.ensures.clauses c.requires.few

pub returns-clause-clauses : goal.returns-clause-clauses
returns-clause-clauses c =
    on_ok_weaker c.define_each.result
    (whole_added (variable_of c.args.atoms.now) c.args.self.now.next (trees_of c.args.sentences.now) (definitions_of c.args.definitions.now) c.assert_each.new.self.next c.args.self.now.clauses c.assert_each.new.self.clauses c.define_each.new.self.clauses c.in_ok-assert_each.ensures.next c.in_ok-assert_each.ensures.clauses)
    c.define_each.ensures.clauses
