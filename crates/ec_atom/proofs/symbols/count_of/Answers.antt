use Rattle.std.proofs.Common.{◌∙◌, sym, arith}
use Rattle.ec_logic.proofs.Extents.{arguments_length}
use Rattle.ec_atom.proofs.SymbolLemmas.{predicates_count}
use Rattle.ec_atom.proofs.symbols.count_of.Goals as goal

pub returns-in-Events-clause-count : goal.returns-in-Events-clause-count
returns-in-Events-clause-count c = rw c.in-Events.is (c.events.ensures.count ∙ sym (arguments_length c.args.signature.now.events))

pub returns-in-Fluents-clause-count : goal.returns-in-Fluents-clause-count
returns-in-Fluents-clause-count c = rw c.in-Fluents.is (c.fluents.ensures.count ∙ sym (arguments_length c.args.signature.now.fluents))

pub returns-in-Predicates-clause-count : goal.returns-in-Predicates-clause-count
returns-in-Predicates-clause-count c =
    let count = c.predicates.ensures.count in
    let many = c.predicates.ensures.built_in in
    rw c.in-Predicates.is (count ∙ sym (predicates_count c.args.signature.now (omega (arith, count, many))))
