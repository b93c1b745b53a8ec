use Rattle.std.proofs.Common.{◌≡◌, arith, ap, ◌∙◌, sym, take, map}
use Rattle.std.proofs.lemmas.Grind.{common_steps}
use Rattle.ec_logic.specs.TreeList.{terms_of}
use Rattle.ec_theory.specs.View.{term_tree}
use Rattle.ec_complete.specs.Completion.{lowered}
use Rattle.ec_complete.proofs.Views.{lowered_terms_of}
use Rattle.ec_complete.proofs.terms.+lower.Goals as goal

pub lower_each-returns : goal.lower_each-returns
lower_each-returns t c =
    let all : take c.loop-term.term-index c.args.terms.now ≡ c.args.terms.now = grind (arith, common_steps) in
    let done = ap terms_of (c.loop-term.invariant ∙ ap (map (λ u. lowered c.args.by (term_tree u))) all) in
    done ∙ sym (lowered_terms_of c.args.by c.args.terms.now)
