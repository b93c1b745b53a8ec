use Rattle.std.proofs.Common.{map, length, sym, ap, ◌∙◌, arith}
use Rattle.std.proofs.lemmas.List.{length-map}
use Rattle.ec_syntax.specs.View.{placed_of}
use Rattle.ec_names.specs.View.{sort_of}
use Rattle.ec_names.proofs.Few.{sorts-listable, symbols-listable}
use Rattle.ec_names.proofs.names.Names.of.Goals as goal

pub declared_names-requires : goal.declared_names-requires
declared_names-requires c = symbols-listable (map placed_of c.args.statements.now) c.requires

pub invariant_of-result : goal.invariant_of-result
invariant_of-result c =
    let ps = map placed_of c.args.statements.now in
    let sorts = sorts-listable ps c.requires in
    let entries = sym (length-map c.in_ok-sorts.sorts.entries sort_of) ∙ ap (λ xs. length xs) c.in_ok-sorts.ensures.sorts in
    let symbols = symbols-listable ps c.requires in
    let same = ap (λ xs. length xs) c.in_ok-sorts.ensures.symbols in
    (omega (arith, sorts, entries), omega (arith, symbols, same))
