use Rattle.std.proofs.Common.{length, arith, ◌∙◌, ap}
use Rattle.ec_logic.specs.Universe.{universe_of, before}
use Rattle.ec_logic.specs.Atom.{predicates_in_order}
use Rattle.ec_atom.proofs.BlockLemmas.{firsts_count, first_found}
use Rattle.ec_atom.proofs.SymbolLemmas.{predicates_count, before_total}
use Rattle.ec_atom.proofs.atoms.before_place.Goals as goal

pub index-requires : goal.index-requires
index-requires c =
    let universe = universe_of c.args.signature.now in
    let count = firsts_count universe c.args.predicates.now c.requires.predicates.blocks_are in
    let rows = ap length c.requires.predicates.rows_are in
    let n = predicates_count c.args.signature.now c.requires.many in
    let within = c.requires.within in
    omega (arith, count, rows, n, within)

pub returns : goal.returns
returns c =
    let universe = universe_of c.args.signature.now in
    let rows = c.requires.predicates.rows_are in
    let n = predicates_count c.args.signature.now c.requires.many in
    let within = c.requires.within in
    let same = ap length rows in
    c.index.ensures ∙ (first_found universe c.args.predicates.now c.requires.predicates.blocks_are c.args.place c.index.result.now (omega (arith, same, n, within)) ∙ (ap (λ rs. before universe rs c.args.place) rows ∙ before_total universe (predicates_in_order universe) c.args.place))
