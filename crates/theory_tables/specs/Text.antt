-- Formulas as text: v0 is the variable of the innermost binder, c0, e0 and f0 are the first constant, event and fluent, and built-in sorts
-- and predicates have their names. A number of one digit is spelled right, no other one.
use Rattle.std.specs.Prelude.{ℕ, suc, ◌+◌, ◌==◌, if◌then◌else◌, ℤ, pos, negsuc, codes, List, [], ◌∷◌, ◌++◌}
use Rattle.ec_logic.specs.Tree.{Term, variable, int, constant, event, fluent, sum, difference, product, Terms, no_terms, term, Formula, verum, falsum, atom, equal, less, negation, all_of, any_of, implies, iff, for_all, exists, Formulas, no_formulas, formula}
use Rattle.ec_logic.specs.Signature.{time_sort, event_sort, fluent_sort, holds_at, released_at, happens, initiates, terminates, releases}

abbrev pub digit : ℕ → List ℕ
digit n = (48 + n) ∷ []

abbrev pub number_text : ℤ → List ℕ
number_text (pos n) = digit n
number_text (negsuc n) = codes "-" ++ digit (suc n)

abbrev pub sort_text : ℕ → List ℕ
sort_text s =
    if s == time_sort then codes "time"
    else (if s == event_sort then codes "event"
    else (if s == fluent_sort then codes "fluent"
    else codes "s" ++ digit s))

abbrev pub predicate_text : ℕ → List ℕ
predicate_text p =
    if p == holds_at then codes "HoldsAt"
    else (if p == released_at then codes "ReleasedAt"
    else (if p == happens then codes "Happens"
    else (if p == initiates then codes "Initiates"
    else (if p == terminates then codes "Terminates"
    else (if p == releases then codes "Releases"
    else codes "p" ++ digit p)))))

-- two texts with a sign between them, in parentheses
abbrev pub joined : List ℕ → List ℕ → List ℕ → List ℕ
joined sign a b = codes "(" ++ a ++ sign ++ b ++ codes ")"

abbrev mutual
  pub term_text : Term → List ℕ
  term_text (variable k) = codes "v" ++ digit k
  term_text (int z) = number_text z
  term_text (constant c) = codes "c" ++ digit c
  term_text (event symbol ts) = codes "e" ++ digit symbol ++ codes "(" ++ terms_text ts ++ codes ")"
  term_text (fluent symbol ts) = codes "f" ++ digit symbol ++ codes "(" ++ terms_text ts ++ codes ")"
  term_text (sum a b) = joined (codes " + ") (term_text a) (term_text b)
  term_text (difference a b) = joined (codes " - ") (term_text a) (term_text b)
  term_text (product a b) = joined (codes " * ") (term_text a) (term_text b)

  pub terms_text : Terms → List ℕ
  terms_text no_terms = []
  terms_text (term t ts) = term_text t ++ more_terms ts

  pub more_terms : Terms → List ℕ
  more_terms no_terms = []
  more_terms (term t ts) = codes ", " ++ term_text t ++ more_terms ts

abbrev mutual
  pub formula_text : Formula → List ℕ
  formula_text verum = codes "true"
  formula_text falsum = codes "false"
  formula_text (atom p ts) = predicate_text p ++ codes "(" ++ terms_text ts ++ codes ")"
  formula_text (equal a b) = term_text a ++ codes " = " ++ term_text b
  formula_text (less a b) = term_text a ++ codes " < " ++ term_text b
  formula_text (negation f) = codes "!" ++ formula_text f
  formula_text (all_of fs) = codes "(" ++ formulas_text (codes " & ") fs ++ codes ")"
  formula_text (any_of fs) = codes "(" ++ formulas_text (codes " | ") fs ++ codes ")"
  formula_text (implies f g) = joined (codes " -> ") (formula_text f) (formula_text g)
  formula_text (iff f g) = joined (codes " <-> ") (formula_text f) (formula_text g)
  formula_text (for_all s f) = codes "[" ++ sort_text s ++ codes "] " ++ formula_text f
  formula_text (exists s f) = codes "{" ++ sort_text s ++ codes "} " ++ formula_text f

  pub formulas_text : List ℕ → Formulas → List ℕ
  formulas_text sign no_formulas = []
  formulas_text sign (formula f fs) = formula_text f ++ more_formulas sign fs

  pub more_formulas : List ℕ → Formulas → List ℕ
  more_formulas sign no_formulas = []
  more_formulas sign (formula f fs) = sign ++ formula_text f ++ more_formulas sign fs
