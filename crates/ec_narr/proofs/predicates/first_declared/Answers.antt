use Rattle.std.proofs.Common.{◌≡◌, ◌-◌, length, subst, arith}
use Rattle.ec_logic.specs.Atom.{atoms_before, predicates_in_order, visible_atoms}
use Rattle.ec_logic.specs.Signature.{Signature}
use Rattle.ec_logic.specs.Universe.{universe_of}
use Rattle.ec_narr.proofs.PredicateLemmas.{from_declared, none_declared, count_same}
use Rattle.ec_narr.proofs.predicates.first_declared.Goals as goal

pub returns-then-predicates-gt-DECLARED : goal.returns-then-predicates-gt-DECLARED
returns-then-predicates-gt-DECLARED c =
    let P : Signature → Type 0 = λ s. c.first_of.result ≡ atoms_before (universe_of s) (predicates_in_order (universe_of s)) 6 in
    let many = c.if-predicates-gt-DECLARED.true in
    let count = c.predicates.ensures.count in
    let rows = count_same c.args.signature.now in
    from_declared (universe_of c.args.signature.now) (length (universe_of c.args.signature.now).predicates - 7) c.first_of.result (omega (arith, many, count, rows)) (subst P c.requires.same c.first_of.ensures.first)

pub returns-else-predicates-gt-DECLARED : goal.returns-else-predicates-gt-DECLARED
returns-else-predicates-gt-DECLARED c =
    let P : Signature → Type 0 = λ s. c.visible.result ≡ length (visible_atoms (universe_of s)) in
    let few = c.if-predicates-gt-DECLARED.false in
    let count = c.predicates.ensures.count in
    let rows = count_same c.args.signature.now in
    none_declared (universe_of c.args.signature.now) c.visible.result (omega (arith, few, count, rows)) (subst P c.requires.same c.visible.ensures.count)
