use Rattle.std.proofs.Common.{◌≡◌, ◌+◌, ◌++◌, map, drop, slice_get}
use Rattle.ec_logic.specs.Universe.{universe_of}
use Rattle.ec_theory.specs.View.{formula_tree, term_tree, term_trees}
use Rattle.ec_complete.specs.View.{ranges_with}
use Rattle.ec_complete.specs.Completion.{term_ranges, terms_ranges}
use Rattle.ec_complete.proofs.Views.{added, args_step}
use Rattle.ec_complete.proofs.ranges.+term_ranges.Goals as goal

pub add_ranges_of_args-loop-place-preserved : goal.add_ranges_of_args-loop-place-preserved
add_ranges_of_args-loop-place-preserved t c =
    let universe = universe_of c.args.signature.now in
    let arg = term_tree c.index-args-place.result in
    let here = ranges_with universe c.args.depth (slice_get c.args.sorts.now c.loop-place.place) arg in
    let within = term_ranges universe c.args.depth arg in
    let rest = terms_ranges universe c.args.depth (drop (c.loop-place.place + 1) c.args.sorts.now) (term_trees (drop (c.loop-place.place + 1) c.args.args.now)) in
    let done = map formula_tree c.args.found.now.items ++ terms_ranges universe c.args.depth c.args.sorts.now (term_trees c.args.args.now) in
    let before = map formula_tree c.loop-place.found.items in
    let between = map formula_tree c.add_place.new.found.items in
    let step = args_step universe c.args.depth c.args.sorts.now c.args.args.now c.loop-place.place c.index-args-place.result c.loop-place-test.true c.index-args-place.is in
    let first : between ≡ before ++ here = rw c.sort_at-sort.ensures at c.in_ok-add_place.ensures in
    let placed = added before between here (within ++ rest) done first (rw step at c.loop-place.invariant) in
    added between (map formula_tree c.add_ranges_of_term.new.found.items) within rest done c.in_ok-add_ranges_of_term.ensures placed
