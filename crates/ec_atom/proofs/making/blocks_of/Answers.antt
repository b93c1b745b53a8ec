use Rattle.std.proofs.Common.{◌≡◌, ◌+◌, length, map, arith, refl, sym, ◌∙◌}
use Rattle.std.proofs.lemmas.Grind.{common_steps}
use Rattle.ec_logic.specs.Universe.{universe_of}
use Rattle.ec_atom.specs.Symbols.{rows_of}
use Rattle.ec_atom.proofs.BlockLemmas.{vecs_more, before_none, sum_next, sum_small, rows_next, firsts_next, made_blocks}
use Rattle.ec_atom.proofs.making.blocks_of.Goals as goal

pub overflow_add-sum : goal.overflow_add-sum
overflow_add-sum c =
    let universe = universe_of c.args.signature.now in
    let small = sum_small universe (rows_of universe c.args.symbols) c.loop-place.place c.sorts_at-sorts.result.now c.sorts_at-sorts.ensures c.requires c.loop-place.sum c.tuples_of.result c.loop-place.invariant.sum c.tuples_of.ensures in
    omega (arith, small)

pub loop-place-init : goal.loop-place-init
loop-place-init c =
    let universe = universe_of c.args.signature.now in
    let none = before_none universe (rows_of universe c.args.symbols) in
    record {
      sum = sym none;
      firsts = rw (c.in_ok-push.ensures.items, c.in_ok-firsts.ensures.items, none) refl;
      rows = rw c.in_ok-rows.ensures.items refl;
    }

pub loop-place-preserved : goal.loop-place-preserved
loop-place-preserved c =
    let universe = universe_of c.args.signature.now in
    let rows = rows_of universe c.args.symbols in
    let l = c.loop-place in
    let sum = sum_next universe rows l.place c.sorts_at-sorts.result.now c.sorts_at-sorts.ensures c.requires l.sum c.tuples_of.result l.invariant.sum c.tuples_of.ensures in
    record {
      sum = sum;
      firsts = rw c.in_ok-push-3.ensures.items (firsts_next universe rows l.firsts.items l.place (l.sum + c.tuples_of.result) l.invariant.firsts sum);
      rows = rw c.in_ok-push-2.ensures.items (vecs_more l.rows.items c.in_ok-arguments_of.field-0 ∙ rows_next universe rows l.place c.sorts_at-sorts.result.now c.sorts_at-sorts.ensures (map (λ row. row.items) l.rows.items) c.in_ok-arguments_of.field-0.items c.in_ok-arguments_of.ensures l.invariant.rows);
    }

pub returns : goal.returns
returns c =
    let universe = universe_of c.args.signature.now in
    let end : c.loop-place.place ≡ length (rows_of universe c.args.symbols) = grind (arith, common_steps) in
    made_blocks universe (rows_of universe c.args.symbols) _ c.loop-place.place end c.requires c.loop-place.invariant.firsts c.loop-place.invariant.rows
