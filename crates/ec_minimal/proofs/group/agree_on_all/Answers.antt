use Rattle.std.proofs.Common.{ℕ, sym, subst, arith, below_more}
use Rattle.std.proofs.lemmas.Grind.{get_or_default_zero}
use Rattle.ec_logic.specs.Universe.{universe_of}
use Rattle.ec_minimal.specs.Agrees.{Agrees}
use Rattle.ec_minimal.proofs.group.agree_on_all.Goals as goal

pub loop-predicate-preserved : goal.loop-predicate-preserved
loop-predicate-preserved c = below_more _ _ c.loop-predicate.invariant (c.agree_on.ensures.same c.if-not-agree_on.false)

pub returns-clause-same : goal.returns-clause-same
returns-clause-same c = λ e k d l.
    let P : ℕ → Type 0 = Agrees (universe_of c.args.signature.now) c.args.a.now c.args.b.now in
    subst P (sym (get_or_default_zero c.args.predicates.now k d l)) (c.loop-predicate.invariant k (omega (arith, l, c.loop-predicate-test.false)))
