-- The trees' own lists, from lists.
use Rattle.std.specs.Prelude.{List, [], ◌∷◌}
use Rattle.ec_logic.specs.Tree.{Term, Terms, no_terms, term, Formula, Formulas, no_formulas, formula}

abbrev pub terms_of : List Term → Terms
terms_of [] = no_terms
terms_of (t ∷ ts) = term t (terms_of ts)

abbrev pub formulas_of : List Formula → Formulas
formulas_of [] = no_formulas
formulas_of (f ∷ fs) = formula f (formulas_of fs)
