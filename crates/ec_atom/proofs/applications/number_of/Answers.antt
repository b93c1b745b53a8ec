use Rattle.std.proofs.Common.{◌≡◌, arith, ◌∙◌}
use Rattle.ec_logic.specs.Universe.{before}
use Rattle.ec_theory.specs.Values.{numbers_of}
use Rattle.ec_atom.specs.Blocks.{universe_in, rows_in}
use Rattle.ec_atom.proofs.BlockLemmas.{firsts_count, first_found, few_sorts, row_rank, number_is, number_below, number_small}
use Rattle.ec_atom.proofs.applications.number_of.Goals as goal

first_is : (c : goal.After-tuple_place) → c.index.result.now ≡ before (universe_in c.args.tables.now) (rows_in c.args.blocks.now) c.args.symbol
first_is c = let known = c.requires.known in c.index.ensures ∙ first_found (universe_in c.args.tables.now) c.args.blocks.now c.requires.blocks c.args.symbol c.index.result.now (omega (arith, known))

pub index-requires : goal.index-requires
index-requires c =
    let count = firsts_count (universe_in c.args.tables.now) c.args.blocks.now c.requires.blocks in
    let known = c.requires.known in
    omega (arith, count, known)

pub tuple_place-requires-clause-row : goal.tuple_place-requires-clause-row
tuple_place-requires-clause-row c = c.requires.blocks.each c.args.symbol c.row_at-row.result.now c.row_at-row.ensures

pub tuple_place-requires-clause-few : goal.tuple_place-requires-clause-few
tuple_place-requires-clause-few c = few_sorts (universe_in c.args.tables.now) c.args.blocks.now c.requires.blocks c.args.symbol c.row_at-row.result.now c.requires.known c.row_at-row.ensures

pub tuple_place-requires-clause-within : goal.tuple_place-requires-clause-within
tuple_place-requires-clause-within c = row_rank (universe_in c.args.tables.now) c.args.blocks.now c.requires.blocks c.args.symbol c.row_at-row.result.now (numbers_of c.args.args.now) c.requires.known c.row_at-row.ensures c.requires.within

pub overflow_add-result : goal.overflow_add-result
overflow_add-result c =
    let small = number_small (universe_in c.args.tables.now) c.args.blocks.now c.requires.blocks c.args.symbol c.row_at-row.result.now (numbers_of c.args.args.now) c.requires.known c.row_at-row.ensures c.index.result.now c.tuple_place.result (first_is c) c.tuple_place.ensures in
    omega (arith, small)

pub returns-clause-number : goal.returns-clause-number
returns-clause-number c = number_is (universe_in c.args.tables.now) c.args.blocks.now c.requires.blocks c.args.symbol c.row_at-row.result.now (numbers_of c.args.args.now) c.requires.known c.row_at-row.ensures c.index.result.now c.tuple_place.result (first_is c) c.tuple_place.ensures

pub returns-clause-below : goal.returns-clause-below
returns-clause-below c = number_below (universe_in c.args.tables.now) c.args.blocks.now c.requires.blocks c.args.symbol c.row_at-row.result.now (numbers_of c.args.args.now) c.requires.known c.row_at-row.ensures c.index.result.now c.tuple_place.result (first_is c) c.tuple_place.ensures
