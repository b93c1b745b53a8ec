use Rattle.std.proofs.Common.{◌≡◌, arith, ap, ◌∙◌, sym, take, map}
use Rattle.std.proofs.lemmas.Grind.{common_steps}
use Rattle.ec_logic.specs.Shift.{shifted_term}
use Rattle.ec_logic.specs.TreeList.{terms_of}
use Rattle.ec_theory.specs.View.{term_tree}
use Rattle.ec_theory.proofs.Views.{shifted_terms_of}
use Rattle.ec_theory.proofs.shifting.+shift_term.Goals as goal

pub shift_terms-returns : goal.shift_terms-returns
shift_terms-returns t c =
    let all : take c.loop-term.term-index c.args.terms.now ≡ c.args.terms.now = grind (arith, common_steps) in
    let done = ap terms_of (c.loop-term.invariant.done ∙ ap (map (λ u. shifted_term c.args.from c.args.by (term_tree u))) all) in
    done ∙ sym (shifted_terms_of c.args.from c.args.by c.args.terms.now)
