-- Formulas by numbers. The scope lists the variables that are bound where a part stands, the innermost first.
use Rattle.std.specs.Prelude.{ℕ, pos, List, [], ◌∷◌, Option, Some, None}
use Rattle.std.specs.List.{position_or_len}
use Rattle.std.specs.Str.{bytes_eq}
use Rattle.ec_logic.specs.Tree as tree
use Rattle.ec_names.specs.Names.{Names, Role, constant_role, event_role, fluent_role, predicate_role, SymbolEntry, symbol_named, symbol_number, sort_number, sort_of_variable}
use Rattle.ec_syntax.specs.declared.tree.Op.{Op}
use Rattle.ec_syntax.specs.declared.tree.Op.TheVariants.{Equal, Unequal, Less, AtMost, More, AtLeast}
use Rattle.ec_syntax.specs.Written.{Term, name, variable, number, sum, difference, product, negative, Terms, no_terms, term, Formula, atom, compare, not, and, or, implies, iff, for_all, exists, Formulas, no_formulas, formula}
use Rattle.ec_walk.specs.Faults.{opened}

-- a name and its arguments, by the number of the name in its role; a name of no term has been refused
abbrev pub applied : Role → ℕ → tree.Terms → tree.Term
applied constant_role k ts = tree.constant k
applied event_role k ts = tree.event k ts
applied fluent_role k ts = tree.fluent k ts
applied predicate_role k ts = tree.constant k

abbrev pub application : Names → List ℕ → Option SymbolEntry → tree.Terms → tree.Term
application names n None ts = tree.constant 0
application names n (Some entry) ts = applied entry.role (symbol_number entry.role names n) ts

-- a variable is the number of binders between itself and its own; a negative is the difference of 0 and the term
abbrev mutual
  pub term_tree : Names → List (List ℕ) → Term → tree.Term
  term_tree names scope (name n ts) = application names n (symbol_named names n) (term_trees names scope ts)
  term_tree names scope (variable v) = tree.variable (position_or_len (bytes_eq v) scope)
  term_tree names scope (number n) = tree.int (pos n)
  term_tree names scope (sum a b) = tree.sum (term_tree names scope a) (term_tree names scope b)
  term_tree names scope (difference a b) = tree.difference (term_tree names scope a) (term_tree names scope b)
  term_tree names scope (product a b) = tree.product (term_tree names scope a) (term_tree names scope b)
  term_tree names scope (negative a) = tree.difference (tree.int (pos 0)) (term_tree names scope a)

  pub term_trees : Names → List (List ℕ) → Terms → tree.Terms
  term_trees names scope no_terms = tree.no_terms
  term_trees names scope (term t ts) = tree.term (term_tree names scope t) (term_trees names scope ts)

abbrev pub comparison : Op → tree.Term → tree.Term → tree.Formula
comparison Equal a b = tree.equal a b
comparison Unequal a b = tree.negation (tree.equal a b)
comparison Less a b = tree.less a b
comparison AtMost a b = tree.negation (tree.less b a)
comparison More a b = tree.less b a
comparison AtLeast a b = tree.negation (tree.less a b)

-- the number of a variable's sort; a variable of none has been refused
abbrev pub sort_place : Names → Option (List ℕ) → ℕ
sort_place names None = 0
sort_place names (Some sort) = sort_number names sort

abbrev pub variable_sort : Names → List ℕ → ℕ
variable_sort names v = sort_place names (sort_of_variable names v)

-- the number of an atom's name; an unknown one has been refused
abbrev pub symbol_place : Names → List ℕ → Option SymbolEntry → ℕ
symbol_place names n None = 0
symbol_place names n (Some entry) = symbol_number entry.role names n

-- one binder for each variable, the first outermost
abbrev pub quantified : (ℕ → tree.Formula → tree.Formula) → Names → List (List ℕ) → tree.Formula → tree.Formula
quantified binder names [] f = f
quantified binder names (v ∷ vs) f = binder (variable_sort names v) (quantified binder names vs f)

abbrev mutual
  pub formula_tree : Names → List (List ℕ) → Formula → tree.Formula
  formula_tree names scope (atom n ts) = tree.atom (symbol_place names n (symbol_named names n)) (term_trees names scope ts)
  formula_tree names scope (compare op a b) = comparison op (term_tree names scope a) (term_tree names scope b)
  formula_tree names scope (not f) = tree.negation (formula_tree names scope f)
  formula_tree names scope (and fs) = tree.all_of (formula_trees names scope fs)
  formula_tree names scope (or fs) = tree.any_of (formula_trees names scope fs)
  formula_tree names scope (implies f g) = tree.implies (formula_tree names scope f) (formula_tree names scope g)
  formula_tree names scope (iff f g) = tree.iff (formula_tree names scope f) (formula_tree names scope g)
  formula_tree names scope (for_all vs f) = quantified tree.for_all names vs (formula_tree names (opened scope vs) f)
  formula_tree names scope (exists vs f) = quantified tree.exists names vs (formula_tree names (opened scope vs) f)

  pub formula_trees : Names → List (List ℕ) → Formulas → tree.Formulas
  formula_trees names scope no_formulas = tree.no_formulas
  formula_trees names scope (formula f fs) = tree.formula (formula_tree names scope f) (formula_trees names scope fs)
