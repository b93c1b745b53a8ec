use Rattle.std.proofs.Common.{◌≡◌, ◌∙◌, ◌<◌, length, sym, subst, arith}
use Rattle.ec_logic.specs.Signature.{Signature}
use Rattle.ec_logic.specs.Universe.{universe_of, row_of, tuples}
use Rattle.ec_logic.specs.Atom.{atoms_before, predicates_in_order, visible_atoms}
use Rattle.ec_logic.proofs.Counted.{countable_by_visible}
use Rattle.ec_logic.proofs.Extents.{arguments_length}
use Rattle.ec_minimal.proofs.AgreeLemmas.{count_is, within_all, agree_if, disagree}
use Rattle.ec_minimal.proofs.group.agree_on.Goals as goal

pub same_at-requires-clause-left : goal.same_at-requires-clause-left
same_at-requires-clause-left c =
    let signature = c.args.signature.now in
    let universe = universe_of signature in
    let V : Signature → Type 0 = λ s. c.visible-visible.result ≡ length (visible_atoms (universe_of s)) in
    let countable = countable_by_visible signature c.visible-visible.result c.sorts-sorts.ensures.valid (subst V c.requires.of c.visible-visible.ensures.count) c.visible-visible.ensures.few in
    let F : Signature → Type 0 = λ s. c.first_of-first.result ≡ atoms_before (universe_of s) (predicates_in_order (universe_of s)) c.args.predicate in
    let first = subst F c.requires.of c.first_of-first.ensures.first in
    let known : c.args.predicate < length universe.predicates = omega (arith, c.requires.known, arguments_length signature.predicates) in
    let count = count_is signature c.args.predicate c.tuples_of-count.result c.predicate_sorts.result.now c.predicate_sorts.ensures.sorts c.tuples_of-count.ensures (countable.predicates c.args.predicate) in
    omega (arith, c.requires.left, within_all universe c.args.predicate known c.first_of-first.result first c.loop-place.place (omega (arith, count, c.loop-place-test.true)))

pub same_at-requires-clause-right : goal.same_at-requires-clause-right
same_at-requires-clause-right c =
    let signature = c.args.signature.now in
    let universe = universe_of signature in
    let V : Signature → Type 0 = λ s. c.visible-visible.result ≡ length (visible_atoms (universe_of s)) in
    let countable = countable_by_visible signature c.visible-visible.result c.sorts-sorts.ensures.valid (subst V c.requires.of c.visible-visible.ensures.count) c.visible-visible.ensures.few in
    let F : Signature → Type 0 = λ s. c.first_of-first.result ≡ atoms_before (universe_of s) (predicates_in_order (universe_of s)) c.args.predicate in
    let first = subst F c.requires.of c.first_of-first.ensures.first in
    let known : c.args.predicate < length universe.predicates = omega (arith, c.requires.known, arguments_length signature.predicates) in
    let count = count_is signature c.args.predicate c.tuples_of-count.result c.predicate_sorts.result.now c.predicate_sorts.ensures.sorts c.tuples_of-count.ensures (countable.predicates c.args.predicate) in
    omega (arith, c.requires.right, within_all universe c.args.predicate known c.first_of-first.result first c.loop-place.place (omega (arith, count, c.loop-place-test.true)))

pub returns-then-not-same_at-clause-other : goal.returns-then-not-same_at-clause-other
returns-then-not-same_at-clause-other c = λ e agrees.
    let signature = c.args.signature.now in
    let universe = universe_of signature in
    let V : Signature → Type 0 = λ s. c.visible-visible.result ≡ length (visible_atoms (universe_of s)) in
    let countable = countable_by_visible signature c.visible-visible.result c.sorts-sorts.ensures.valid (subst V c.requires.of c.visible-visible.ensures.count) c.visible-visible.ensures.few in
    let F : Signature → Type 0 = λ s. c.first_of-first.result ≡ atoms_before (universe_of s) (predicates_in_order (universe_of s)) c.args.predicate in
    let first = subst F c.requires.of c.first_of-first.ensures.first in
    let known : c.args.predicate < length universe.predicates = omega (arith, c.requires.known, arguments_length signature.predicates) in
    let count = count_is signature c.args.predicate c.tuples_of-count.result c.predicate_sorts.result.now c.predicate_sorts.ensures.sorts c.tuples_of-count.ensures (countable.predicates c.args.predicate) in
    let below : c.loop-place.place < tuples universe (row_of universe.predicates c.args.predicate) = omega (arith, count, c.loop-place-test.true) in
    let all = within_all universe c.args.predicate known c.first_of-first.result first c.loop-place.place below in
    disagree universe c.args.predicate known c.first_of-first.result first c.args.a.now c.args.b.now c.loop-place.place below (omega (arith, c.requires.left, all)) (omega (arith, c.requires.right, all)) (sym c.same_at.ensures ∙ c.if-not-same_at.true) agrees

pub returns-clause-same : goal.returns-clause-same
returns-clause-same c = λ e.
    let signature = c.args.signature.now in
    let universe = universe_of signature in
    let V : Signature → Type 0 = λ s. c.visible-visible.result ≡ length (visible_atoms (universe_of s)) in
    let countable = countable_by_visible signature c.visible-visible.result c.sorts-sorts.ensures.valid (subst V c.requires.of c.visible-visible.ensures.count) c.visible-visible.ensures.few in
    let F : Signature → Type 0 = λ s. c.first_of-first.result ≡ atoms_before (universe_of s) (predicates_in_order (universe_of s)) c.args.predicate in
    let first = subst F c.requires.of c.first_of-first.ensures.first in
    let known : c.args.predicate < length universe.predicates = omega (arith, c.requires.known, arguments_length signature.predicates) in
    let count = count_is signature c.args.predicate c.tuples_of-count.result c.predicate_sorts.result.now c.predicate_sorts.ensures.sorts c.tuples_of-count.ensures (countable.predicates c.args.predicate) in
    agree_if universe c.args.predicate known c.first_of-first.result first c.args.a.now c.args.b.now (λ k l. c.loop-place.invariant k (omega (arith, l, count, c.loop-place-test.false)))
