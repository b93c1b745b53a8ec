use Rattle.std.proofs.Common.{◌≡◌, arith, ap, ◌∙◌, sym, take, map, add-one}
use Rattle.std.proofs.lemmas.Grind.{common_steps}
use Rattle.ec_logic.specs.Shift.{shifted_term}
use Rattle.ec_logic.specs.Substitute.{substituted}
use Rattle.ec_logic.specs.TreeList.{formulas_of}
use Rattle.ec_theory.specs.View.{term_tree, formula_tree}
use Rattle.ec_logic.proofs.Shifting.{shifted_term_twice}
use Rattle.ec_theory.proofs.Views.{substituted_each_of}
use Rattle.ec_theory.proofs.substituting.+substitute.Goals as goal

pub substitute_in_each-returns : goal.substitute_in_each-returns
substitute_in_each-returns t c =
    let put = shifted_term 0 c.args.passed (term_tree c.args.term.now) in
    let all : take c.loop-formula.formula-index c.args.formulas.now ≡ c.args.formulas.now = grind (arith, common_steps) in
    let done = ap formulas_of (c.loop-formula.invariant.done ∙ ap (map (λ u. substituted c.args.at put (formula_tree u))) all) in
    done ∙ sym (substituted_each_of c.args.at put c.args.formulas.now)

pub substitute_under-returns : goal.substitute_under-returns
substitute_under-returns t c = rw (shifted_term_twice 1 c.args.passed (term_tree c.args.term.now), ← add-one c.args.at) c.substitute_in_boxed.ensures
