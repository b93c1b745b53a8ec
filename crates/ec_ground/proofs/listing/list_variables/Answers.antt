use Rattle.std.proofs.Common.{◌≡◌, ◌∙◌, None, length, ap, sym, arith}
use Rattle.std.specs.List.{flat_map, range_with_len, slice_index_or}
use Rattle.ec_ground.specs.Listed.{variable_if}
use Rattle.ec_ground.proofs.Places.{one_more, none_more, constant_unlisted, variable_listed}
use Rattle.ec_ground.proofs.listing.list_variables.Goals as goal

pub loop-atom-preserved-then-is_some : goal.loop-atom-preserved-then-is_some
loop-atom-preserved-then-is_some c =
    let known = c.args.known.now in
    let atom = c.loop-atom.atom in
    none_more (λ k. variable_if (slice_index_or known k None) k) atom c.loop-atom.variables.items c.loop-atom.invariant
    (constant_unlisted (slice_index_or known atom None) atom (sym c.is_some.ensures ∙ c.if-is_some.true))

pub loop-atom-preserved : goal.loop-atom-preserved
loop-atom-preserved c =
    let known = c.args.known.now in
    let atom = c.loop-atom.atom in
    one_more (λ k. variable_if (slice_index_or known k None) k) atom c.loop-atom.variables.items c.push.new.self.items _ c.loop-atom.invariant c.in_ok-push.ensures.items
    (variable_listed (slice_index_or known atom None) atom (sym c.is_some.ensures ∙ c.if-is_some.false))

pub returns : goal.returns
returns c =
    let known = c.args.known.now in
    let last : c.loop-atom.atom ≡ length known = omega (arith, c.loop-atom-test.false, c.loop-atom.auto.atom-end) in
    c.loop-atom.invariant ∙ ap (λ n. flat_map (λ k. variable_if (slice_index_or known k None) k) (range_with_len 0 n)) last
