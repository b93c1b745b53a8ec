-- The trees that terms and formulas stand for.
use Rattle.std.specs.Prelude.{List, map}
use Rattle.ec_logic.specs.Tree as tree
use Rattle.ec_logic.specs.TreeList.{terms_of, formulas_of}
use Rattle.ec_theory.specs.declared.term.Term.{Term, fold-Term}
use Rattle.ec_theory.specs.declared.term.Term.TheOpen.{Term-F}
use Rattle.ec_theory.specs.declared.formula.Formula.{Formula, fold-Formula}
use Rattle.ec_theory.specs.declared.formula.Formula.TheOpen.{Formula-F}

-- one level of a term, where the terms inside are trees
abbrev pub term_step : Term-F tree.Term → tree.Term
term_step (Term-F.Variable k) = tree.variable k
term_step (Term-F.Int z) = tree.int z
term_step (Term-F.Constant c) = tree.constant c
term_step (Term-F.Event symbol args) = tree.event symbol (terms_of args.items)
term_step (Term-F.Fluent symbol args) = tree.fluent symbol (terms_of args.items)
term_step (Term-F.Sum a b) = tree.sum a.value b.value
term_step (Term-F.Difference a b) = tree.difference a.value b.value
term_step (Term-F.Product a b) = tree.product a.value b.value

abbrev pub term_tree : Term → tree.Term
term_tree = fold-Term tree.Term term_step

abbrev pub term_trees : List Term → tree.Terms
term_trees ts = terms_of (map term_tree ts)

-- one level of a formula, where the formulas inside are trees
abbrev pub formula_step : Formula-F tree.Formula → tree.Formula
formula_step Formula-F.True = tree.verum
formula_step Formula-F.False = tree.falsum
formula_step (Formula-F.Atom p args) = tree.atom p (term_trees args.items)
formula_step (Formula-F.Equal a b) = tree.equal (term_tree a) (term_tree b)
formula_step (Formula-F.Less a b) = tree.less (term_tree a) (term_tree b)
formula_step (Formula-F.Not f) = tree.negation f.value
formula_step (Formula-F.And fs) = tree.all_of (formulas_of fs.items)
formula_step (Formula-F.Or fs) = tree.any_of (formulas_of fs.items)
formula_step (Formula-F.Implies f g) = tree.implies f.value g.value
formula_step (Formula-F.Iff f g) = tree.iff f.value g.value
formula_step (Formula-F.ForAll s f) = tree.for_all s f.value
formula_step (Formula-F.Exists s f) = tree.exists s f.value

abbrev pub formula_tree : Formula → tree.Formula
formula_tree = fold-Formula tree.Formula formula_step

abbrev pub formula_trees : List Formula → tree.Formulas
formula_trees fs = formulas_of (map formula_tree fs)
