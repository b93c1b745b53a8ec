use Rattle.std.proofs.Common.{◌≡◌, ◌∙◌, ◌<◌, ◌+◌, ℕ, Bool, List, length, slice_get, if◌then◌else◌, sym, ap, subst, arith}
use Rattle.std.proofs.lemmas.List.{length-set}
use Rattle.ec_logic.specs.Signature.{Signature}
use Rattle.ec_logic.specs.Universe.{universe_of, row_of, tuples}
use Rattle.ec_logic.specs.Atom.{atoms_before, predicates_in_order, visible_atoms}
use Rattle.ec_logic.proofs.Counted.{countable_by_visible}
use Rattle.ec_logic.proofs.Extents.{arguments_length}
use Rattle.ec_logic.proofs.FewAtoms.{six_predicates}
use Rattle.ec_minimal.specs.Agrees.{in_span}
use Rattle.ec_minimal.proofs.AgreeLemmas.{count_is, within_all}
use Rattle.ec_minimal.proofs.TakeLemmas.{taken_more, taken_all}
use Rattle.ec_minimal.proofs.fill.take_extent.Goals as goal

pub get-truth-requires : goal.get-truth-requires
get-truth-requires c =
    let signature = c.args.signature.now in
    let universe = universe_of signature in
    let V : Signature → Type 0 = λ s. c.visible-visible.result ≡ length (visible_atoms (universe_of s)) in
    let countable = countable_by_visible signature c.visible-visible.result c.sorts-sorts.ensures.valid (subst V c.requires.of c.visible-visible.ensures.count) c.visible-visible.ensures.few in
    let F : Signature → Type 0 = λ s. c.first_of-first.result ≡ atoms_before (universe_of s) (predicates_in_order (universe_of s)) c.args.predicate in
    let first = subst F c.requires.of c.first_of-first.ensures.first in
    let known : c.args.predicate < length universe.predicates = omega (arith, c.requires.known, arguments_length signature.predicates) in
    let count = count_is signature c.args.predicate c.tuples_of-count.result c.predicate_sorts.result.now c.predicate_sorts.ensures.sorts c.tuples_of-count.ensures (countable.predicates c.args.predicate) in
    let inside = within_all universe c.args.predicate known c.first_of-first.result first c.loop-place.place (omega (arith, count, c.loop-place-test.true)) in
    omega (arith, c.requires.source, inside)

pub set-requires : goal.set-requires
set-requires c =
    let signature = c.args.signature.now in
    let universe = universe_of signature in
    let V : Signature → Type 0 = λ s. c.visible-visible.result ≡ length (visible_atoms (universe_of s)) in
    let countable = countable_by_visible signature c.visible-visible.result c.sorts-sorts.ensures.valid (subst V c.requires.of c.visible-visible.ensures.count) c.visible-visible.ensures.few in
    let F : Signature → Type 0 = λ s. c.first_of-first.result ≡ atoms_before (universe_of s) (predicates_in_order (universe_of s)) c.args.predicate in
    let first = subst F c.requires.of c.first_of-first.ensures.first in
    let known : c.args.predicate < length universe.predicates = omega (arith, c.requires.known, arguments_length signature.predicates) in
    let count = count_is signature c.args.predicate c.tuples_of-count.result c.predicate_sorts.result.now c.predicate_sorts.ensures.sorts c.tuples_of-count.ensures (countable.predicates c.args.predicate) in
    let inside = within_all universe c.args.predicate known c.first_of-first.result first c.loop-place.place (omega (arith, count, c.loop-place-test.true)) in
    omega (arith, c.requires.target, inside, c.loop-place.invariant.size)

pub loop-place-preserved : goal.loop-place-preserved
loop-place-preserved c =
    let signature = c.args.signature.now in
    let universe = universe_of signature in
    let V : Signature → Type 0 = λ s. c.visible-visible.result ≡ length (visible_atoms (universe_of s)) in
    let countable = countable_by_visible signature c.visible-visible.result c.sorts-sorts.ensures.valid (subst V c.requires.of c.visible-visible.ensures.count) c.visible-visible.ensures.few in
    let F : Signature → Type 0 = λ s. c.first_of-first.result ≡ atoms_before (universe_of s) (predicates_in_order (universe_of s)) c.args.predicate in
    let first = subst F c.requires.of c.first_of-first.ensures.first in
    let known : c.args.predicate < length universe.predicates = omega (arith, c.requires.known, arguments_length signature.predicates) in
    let count = count_is signature c.args.predicate c.tuples_of-count.result c.predicate_sorts.result.now c.predicate_sorts.ensures.sorts c.tuples_of-count.ensures (countable.predicates c.args.predicate) in
    let inside = within_all universe c.args.predicate known c.first_of-first.result first c.loop-place.place (omega (arith, count, c.loop-place-test.true)) in
    let at = c.first_of-first.result + c.loop-place.place in
    let here : at < length c.loop-place.target = omega (arith, c.requires.target, inside, c.loop-place.invariant.size) in
    let more = taken_more c.first_of-first.result c.loop-place.place 0 c.args.source.now c.args.target.now c.loop-place.target c.get-truth.result here c.get-truth.ensures c.loop-place.invariant.spans in
    let P : List Bool → Type 0 = λ xs. (k : ℕ) → slice_get xs k ≡ (if in_span c.first_of-first.result (c.loop-place.place + 1) k then slice_get c.args.source.now k else slice_get c.args.target.now k) in
    record {
      size = ap length c.set.ensures ∙ length-set c.loop-place.target at c.get-truth.result ∙ c.loop-place.invariant.size;
      spans = subst P (sym c.set.ensures) more;
    }

pub returns-clause-takes : goal.returns-clause-takes
returns-clause-takes c =
    let signature = c.args.signature.now in
    let universe = universe_of signature in
    let V : Signature → Type 0 = λ s. c.visible-visible.result ≡ length (visible_atoms (universe_of s)) in
    let countable = countable_by_visible signature c.visible-visible.result c.sorts-sorts.ensures.valid (subst V c.requires.of c.visible-visible.ensures.count) c.visible-visible.ensures.few in
    let F : Signature → Type 0 = λ s. c.first_of-first.result ≡ atoms_before (universe_of s) (predicates_in_order (universe_of s)) c.args.predicate in
    let first = subst F c.requires.of c.first_of-first.ensures.first in
    let known : c.args.predicate < length universe.predicates = omega (arith, c.requires.known, arguments_length signature.predicates) in
    let count = count_is signature c.args.predicate c.tuples_of-count.result c.predicate_sorts.result.now c.predicate_sorts.ensures.sorts c.tuples_of-count.ensures (countable.predicates c.args.predicate) in
    let last : c.loop-place.place ≡ tuples universe (row_of universe.predicates c.args.predicate) = omega (arith, count, c.loop-place-test.false, c.loop-place.auto.place-end) in
    let P : ℕ → Type 0 = λ n. (k : ℕ) → slice_get c.loop-place.target k ≡ (if in_span c.first_of-first.result n k then slice_get c.args.source.now k else slice_get c.args.target.now k) in
    taken_all universe c.args.predicate known c.first_of-first.result first c.args.source.now c.args.target.now c.loop-place.target (six_predicates signature c.sorts-sorts.ensures.valid) c.requires.source c.requires.target (c.loop-place.invariant.size ∙ c.requires.target)
    (subst P last c.loop-place.invariant.spans)
