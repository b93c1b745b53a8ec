use Rattle.std.proofs.Common.{◌≡◌, arith, ap, ◌∙◌, sym, take, map}
use Rattle.std.proofs.lemmas.Grind.{common_steps}
use Rattle.ec_logic.specs.Shift.{shifted_term}
use Rattle.ec_logic.specs.Substitute.{substituted_term}
use Rattle.ec_logic.specs.TreeList.{terms_of}
use Rattle.ec_theory.specs.View.{term_tree}
use Rattle.ec_theory.proofs.Views.{substituted_terms_of}
use Rattle.ec_theory.proofs.substituting.+substitute_in_term.Goals as goal

pub substitute_in_terms-returns : goal.substitute_in_terms-returns
substitute_in_terms-returns t c =
    let put = shifted_term 0 c.args.passed (term_tree c.args.term.now) in
    let all : take c.loop-inner.inner-index c.args.terms.now ≡ c.args.terms.now = grind (arith, common_steps) in
    let done = ap terms_of (c.loop-inner.invariant ∙ ap (map (λ u. substituted_term c.args.at put (term_tree u))) all) in
    done ∙ sym (substituted_terms_of c.args.at put c.args.terms.now)
