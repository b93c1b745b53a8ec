use Rattle.std.proofs.Common.{◌≡◌, ◌≤◌, ◌<◌, length, arith, Some, slice_get, option_map}
use Rattle.ec_logic.specs.Signature.{SymbolRow}
use Rattle.ec_logic.proofs.AtomOrder.{predicate_at}
use Rattle.ec_atom.proofs.SymbolLemmas.{predicates_count, sorts_in_order}
use Rattle.ec_atom.proofs.symbols.predicate_sorts_at.Goals as goal

pub predicate_at-requires-clause-within : goal.predicate_at-requires-clause-within
predicate_at-requires-clause-within c =
    let count = c.predicates.ensures.count in
    let many = c.predicates.ensures.built_in in
    let rows = predicates_count c.args.signature.now (omega (arith, count, many)) in
    let within = c.requires in
    omega (arith, count, rows, within)

pub returns : goal.returns
returns c =
    let count = c.predicates.ensures.count in
    let many : 6 ≤ length c.args.signature.now.predicates = omega (arith, count, c.predicates.ensures.built_in) in
    let rows = predicates_count c.args.signature.now many in
    let within : c.args.place < length c.args.signature.now.predicates = rw rows at c.requires in
    let sorts : option_map (λ (row : SymbolRow). row.sorts) (slice_get c.args.signature.now.predicates (predicate_at (length c.args.signature.now.predicates) c.args.place)) ≡ Some c.predicate_sorts.result.now = rw (← count, ← c.predicate_at.ensures.predicate) c.predicate_sorts.ensures.sorts in
    sorts_in_order c.args.signature.now many c.args.place c.predicate_sorts.result.now within sorts
