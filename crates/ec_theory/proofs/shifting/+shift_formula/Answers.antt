use Rattle.std.proofs.Common.{◌≡◌, arith, ap, ◌∙◌, sym, take, map}
use Rattle.std.proofs.lemmas.Grind.{common_steps}
use Rattle.ec_logic.specs.Shift.{shifted}
use Rattle.ec_logic.specs.TreeList.{formulas_of}
use Rattle.ec_theory.specs.View.{formula_tree}
use Rattle.ec_theory.proofs.Views.{shifted_each_of}
use Rattle.ec_theory.proofs.shifting.+shift_formula.Goals as goal

pub shift_each-returns : goal.shift_each-returns
shift_each-returns t c =
    let all : take c.loop-formula.formula-index c.args.formulas.now ≡ c.args.formulas.now = grind (arith, common_steps) in
    let done = ap formulas_of (c.loop-formula.invariant.done ∙ ap (map (λ u. shifted c.args.from c.args.by (formula_tree u))) all) in
    done ∙ sym (shifted_each_of c.args.from c.args.by c.args.formulas.now)
