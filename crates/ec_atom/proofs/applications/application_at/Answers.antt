use Rattle.std.proofs.Common.{◌≡◌, ◌-◌, arith, ◌∙◌, refl}
use Rattle.ec_logic.specs.Universe.{before}
use Rattle.ec_theory.specs.Values.{numbers_of}
use Rattle.ec_atom.specs.Blocks.{universe_in, rows_in}
use Rattle.ec_atom.proofs.BlockLemmas.{firsts_rise, first_found, few_sorts, some_first, symbol_known, symbol_low, place_below, application_is, number_again}
use Rattle.ec_atom.proofs.applications.application_at.Goals as goal

pub count_at_most-symbol-requires : goal.count_at_most-symbol-requires
count_at_most-symbol-requires c = rw c.deref.ensures.value (firsts_rise (universe_in c.args.tables.now) c.args.blocks.now c.requires.blocks)

pub overflow_sub-symbol : goal.overflow_sub-symbol
overflow_sub-symbol c = some_first (universe_in c.args.tables.now) c.args.blocks.now c.requires.blocks c.args.number c.count_at_most-symbol.result c.requires.within (rw c.deref.ensures.value at c.count_at_most-symbol.ensures.count) (rw c.deref.ensures.value at c.count_at_most-symbol.ensures.within)

pub row_at-row-requires : goal.row_at-row-requires
row_at-row-requires c = symbol_known (universe_in c.args.tables.now) c.args.blocks.now c.requires.blocks c.args.number c.count_at_most-symbol.result c.requires.within (rw c.deref.ensures.value at c.count_at_most-symbol.ensures.count) (rw c.deref.ensures.value at c.count_at_most-symbol.ensures.within)

pub overflow_sub-number : goal.overflow_sub-number
overflow_sub-number c =
    let known = symbol_known (universe_in c.args.tables.now) c.args.blocks.now c.requires.blocks c.args.number c.count_at_most-symbol.result c.requires.within (rw c.deref.ensures.value at c.count_at_most-symbol.ensures.count) (rw c.deref.ensures.value at c.count_at_most-symbol.ensures.within) in
    let first : c.index.result.now ≡ before (universe_in c.args.tables.now) (rows_in c.args.blocks.now) (c.count_at_most-symbol.result - 1) = c.index.ensures ∙ first_found (universe_in c.args.tables.now) c.args.blocks.now c.requires.blocks (c.count_at_most-symbol.result - 1) c.index.result.now (omega (arith, known)) in
    let low = symbol_low (universe_in c.args.tables.now) c.args.blocks.now c.requires.blocks c.args.number c.count_at_most-symbol.result c.requires.within (rw c.deref.ensures.value at c.count_at_most-symbol.ensures.count) (rw c.deref.ensures.value at c.count_at_most-symbol.ensures.within) in
    omega (arith, low, first)

pub tuple_at-requires-clause-row : goal.tuple_at-requires-clause-row
tuple_at-requires-clause-row c = c.requires.blocks.each (c.count_at_most-symbol.result - 1) c.row_at-row.result.now c.row_at-row.ensures

pub tuple_at-requires-clause-few : goal.tuple_at-requires-clause-few
tuple_at-requires-clause-few c =
    let known = symbol_known (universe_in c.args.tables.now) c.args.blocks.now c.requires.blocks c.args.number c.count_at_most-symbol.result c.requires.within (rw c.deref.ensures.value at c.count_at_most-symbol.ensures.count) (rw c.deref.ensures.value at c.count_at_most-symbol.ensures.within) in
    few_sorts (universe_in c.args.tables.now) c.args.blocks.now c.requires.blocks (c.count_at_most-symbol.result - 1) c.row_at-row.result.now known c.row_at-row.ensures

pub tuple_at-requires-clause-within : goal.tuple_at-requires-clause-within
tuple_at-requires-clause-within c =
    let known = symbol_known (universe_in c.args.tables.now) c.args.blocks.now c.requires.blocks c.args.number c.count_at_most-symbol.result c.requires.within (rw c.deref.ensures.value at c.count_at_most-symbol.ensures.count) (rw c.deref.ensures.value at c.count_at_most-symbol.ensures.within) in
    let first : c.index.result.now ≡ before (universe_in c.args.tables.now) (rows_in c.args.blocks.now) (c.count_at_most-symbol.result - 1) = c.index.ensures ∙ first_found (universe_in c.args.tables.now) c.args.blocks.now c.requires.blocks (c.count_at_most-symbol.result - 1) c.index.result.now (omega (arith, known)) in
    place_below (universe_in c.args.tables.now) c.args.blocks.now c.requires.blocks c.args.number c.count_at_most-symbol.result c.requires.within (rw c.deref.ensures.value at c.count_at_most-symbol.ensures.count) (rw c.deref.ensures.value at c.count_at_most-symbol.ensures.within) c.row_at-row.result.now c.row_at-row.ensures c.index.result.now first

pub overflow_cast-result : goal.overflow_cast-result
overflow_cast-result c =
    let known = symbol_known (universe_in c.args.tables.now) c.args.blocks.now c.requires.blocks c.args.number c.count_at_most-symbol.result c.requires.within (rw c.deref.ensures.value at c.count_at_most-symbol.ensures.count) (rw c.deref.ensures.value at c.count_at_most-symbol.ensures.within) in
    let symbols = c.requires.symbols in
    omega (arith, known, symbols)

pub returns-clause-application : goal.returns-clause-application
returns-clause-application c =
    let known = symbol_known (universe_in c.args.tables.now) c.args.blocks.now c.requires.blocks c.args.number c.count_at_most-symbol.result c.requires.within (rw c.deref.ensures.value at c.count_at_most-symbol.ensures.count) (rw c.deref.ensures.value at c.count_at_most-symbol.ensures.within) in
    let first : c.index.result.now ≡ before (universe_in c.args.tables.now) (rows_in c.args.blocks.now) (c.count_at_most-symbol.result - 1) = c.index.ensures ∙ first_found (universe_in c.args.tables.now) c.args.blocks.now c.requires.blocks (c.count_at_most-symbol.result - 1) c.index.result.now (omega (arith, known)) in
    application_is (universe_in c.args.tables.now) c.args.blocks.now c.requires.blocks c.args.number c.count_at_most-symbol.result c.requires.within (rw c.deref.ensures.value at c.count_at_most-symbol.ensures.count) (rw c.deref.ensures.value at c.count_at_most-symbol.ensures.within) c.row_at-row.result.now c.row_at-row.ensures c.index.result.now first (numbers_of c.in_ok-args.args.items) c.in_ok-args.ensures _ refl refl

pub returns-clause-number : goal.returns-clause-number
returns-clause-number c =
    let known = symbol_known (universe_in c.args.tables.now) c.args.blocks.now c.requires.blocks c.args.number c.count_at_most-symbol.result c.requires.within (rw c.deref.ensures.value at c.count_at_most-symbol.ensures.count) (rw c.deref.ensures.value at c.count_at_most-symbol.ensures.within) in
    let first : c.index.result.now ≡ before (universe_in c.args.tables.now) (rows_in c.args.blocks.now) (c.count_at_most-symbol.result - 1) = c.index.ensures ∙ first_found (universe_in c.args.tables.now) c.args.blocks.now c.requires.blocks (c.count_at_most-symbol.result - 1) c.index.result.now (omega (arith, known)) in
    number_again (universe_in c.args.tables.now) c.args.blocks.now c.requires.blocks c.args.number c.count_at_most-symbol.result c.requires.within (rw c.deref.ensures.value at c.count_at_most-symbol.ensures.count) (rw c.deref.ensures.value at c.count_at_most-symbol.ensures.within) c.row_at-row.result.now c.row_at-row.ensures c.index.result.now first (numbers_of c.in_ok-args.args.items) c.in_ok-args.ensures

pub returns-clause-known : goal.returns-clause-known
returns-clause-known c = symbol_known (universe_in c.args.tables.now) c.args.blocks.now c.requires.blocks c.args.number c.count_at_most-symbol.result c.requires.within (rw c.deref.ensures.value at c.count_at_most-symbol.ensures.count) (rw c.deref.ensures.value at c.count_at_most-symbol.ensures.within)
