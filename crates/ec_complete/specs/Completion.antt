-- The completion of a group: for each predicate a formula, over the predicate's arguments, of what the group's sentences say makes it true.
use Rattle.std.specs.Prelude.{ℕ, suc, ◌≡◌, ◌+◌, ◌-◌, ◌==◌, ℤ, pos, ◌+ℤ◌, if◌then◌else◌, List, [], ◌∷◌, ◌++◌, map, filter, reverse, length, Option, Some, None}
use Rattle.std.specs.List.{flat_map}
use Rattle.ec_logic.specs.Tree.{Term, variable, int, constant, event, fluent, sum, difference, product, Terms, no_terms, term, Formula, verum, falsum, atom, equal, less, negation, all_of, any_of, implies, iff, for_all, exists, Formulas, no_formulas, formula}
use Rattle.ec_logic.specs.TreeList.{formulas_of}
use Rattle.ec_logic.specs.Extent.{Extent, numbers, members}
use Rattle.ec_logic.specs.Universe.{Universe, extent_at, row_of}
use Rattle.ec_logic.specs.Place.{innermost, is_at}
use Rattle.ec_logic.specs.Truth.{Structure, truth}
use Rattle.ec_logic.specs.Shift.{shifted}
use Rattle.ec_logic.specs.ClauseTree.{is_supported}
use Rattle.ec_logic.specs.Paths.{Step, binder, body, Path, paths, binders, bodies}

-- ---- the places of a binder, as comparisons

-- a term whose variables are all of binders further out than this many, as it reads outside of these
abbrev mutual
  pub lowered : ℕ → Term → Term
  lowered by (variable k) = variable (k - by)
  lowered by (int z) = int z
  lowered by (constant c) = constant c
  lowered by (event symbol ts) = event symbol (lowered_terms by ts)
  lowered by (fluent symbol ts) = fluent symbol (lowered_terms by ts)
  lowered by (sum a b) = sum (lowered by a) (lowered by b)
  lowered by (difference a b) = difference (lowered by a) (lowered by b)
  lowered by (product a b) = product (lowered by a) (lowered by b)

  pub lowered_terms : ℕ → Terms → Terms
  lowered_terms by no_terms = no_terms
  lowered_terms by (term t ts) = term (lowered by t) (lowered_terms by ts)

-- the least number of a sort and the one past the greatest, where the sort has a range
abbrev pub bounds : Extent → Option (ℤ × ℤ)
bounds (numbers least size) = Some (least, least +ℤ pos size)
bounds (members count test) = None

-- that a term isn't below the one and is below the other
abbrev pub comparisons : Option (ℤ × ℤ) → Term → List Formula
comparisons None t = []
comparisons (Some (least, end)) t = negation (less t (int least)) ∷ less t (int end) ∷ []

-- that a term with this sort, if it is a place of the binder d binders out, is in range
abbrev pub place_ranges : Universe → ℕ → ℕ → Term → List Formula
place_ranges universe d s t = if is_at d (innermost t) then comparisons (bounds (extent_at universe s)) (lowered d t) else []

-- that each place of the binder d binders out is in range, as it reads right under that binder
abbrev mutual
  pub term_ranges : Universe → ℕ → Term → List Formula
  term_ranges universe d (variable k) = []
  term_ranges universe d (int z) = []
  term_ranges universe d (constant c) = []
  term_ranges universe d (event symbol ts) = terms_ranges universe d (row_of universe.events symbol) ts
  term_ranges universe d (fluent symbol ts) = terms_ranges universe d (row_of universe.fluents symbol) ts
  term_ranges universe d (sum a b) = term_ranges universe d a ++ term_ranges universe d b
  term_ranges universe d (difference a b) = term_ranges universe d a ++ term_ranges universe d b
  term_ranges universe d (product a b) = term_ranges universe d a ++ term_ranges universe d b

  pub terms_ranges : Universe → ℕ → List ℕ → Terms → List Formula
  terms_ranges universe d ss no_terms = []
  terms_ranges universe d [] (term t ts) = term_ranges universe d t ++ terms_ranges universe d [] ts
  terms_ranges universe d (s ∷ ss) (term t ts) = place_ranges universe d s t ++ (term_ranges universe d t ++ terms_ranges universe d ss ts)

abbrev mutual
  pub ranges : Universe → ℕ → Formula → List Formula
  ranges universe d verum = []
  ranges universe d falsum = []
  ranges universe d (atom p ts) = terms_ranges universe d (row_of universe.predicates p) ts
  ranges universe d (equal a b) = term_ranges universe d a ++ term_ranges universe d b
  ranges universe d (less a b) = term_ranges universe d a ++ term_ranges universe d b
  ranges universe d (negation f) = ranges universe d f
  ranges universe d (all_of fs) = ranges_of universe d fs
  ranges universe d (any_of fs) = ranges_of universe d fs
  ranges universe d (implies f g) = ranges universe d f ++ ranges universe d g
  ranges universe d (iff f g) = ranges universe d f ++ ranges universe d g
  ranges universe d (for_all s f) = ranges universe (suc d) f
  ranges universe d (exists s f) = ranges universe (suc d) f

  pub ranges_of : Universe → ℕ → Formulas → List Formula
  ranges_of universe d no_formulas = []
  ranges_of universe d (formula f fs) = ranges universe d f ++ ranges_of universe d fs

-- ---- the formula of a path

abbrev pub count_of : Terms → ℕ
count_of no_terms = 0
count_of (term t ts) = suc (count_of ts)

-- That each term is the argument of its place, under so many binders. The first argument is outermost.
abbrev pub equations : ℕ → Terms → List Formula
equations by no_terms = []
equations by (term t ts) = equal t (variable (by + count_of ts)) ∷ equations by ts

-- that the places of each binder are in range, under all of the path's binders
abbrev pub step_ranges : Universe → List Step → List Formula
step_ranges universe [] = []
step_ranges universe (binder s f ∷ steps) = map (shifted 0 (binders steps)) (ranges universe 0 f) ++ step_ranges universe steps
step_ranges universe (body f ∷ steps) = step_ranges universe steps

-- that some values of the binders make a formula true
abbrev pub within : List Step → Formula → Formula
within [] f = f
within (binder s g ∷ steps) f = exists s (within steps f)
within (body g ∷ steps) f = within steps f

-- that the arguments are the head of an instance of the path whose bodies are all true
abbrev pub path_formula : Universe → Path → Formula
path_formula universe path = within path.steps (all_of (formulas_of (equations (binders path.steps) path.args ++ (step_ranges universe path.steps ++ bodies path.steps))))

-- ---- the definition of a predicate

-- that the arguments are the head of such an instance, of one of these paths that has this predicate as head
abbrev pub defined : Universe → List Path → ℕ → Formula
defined universe found p = any_of (formulas_of (map (path_formula universe) (filter (λ path. path.predicate == p) found)))

-- the same of the paths of some sentences
abbrev pub definition : Universe → List Formula → ℕ → Formula
definition universe sentences p = defined universe (flat_map paths sentences) p

-- In every structure, and for every tuple of the predicate's length, a formula over the arguments is true exactly where the sentences
-- support the tuple. The last argument is the innermost variable.
abbrev pub Defines : Universe → List Formula → ℕ → Formula → Type 0
Defines universe sentences p f = (m : Structure) (vs : List ℤ) → length vs ≡ length (row_of universe.predicates p) → truth universe m (reverse vs) f ≡ is_supported universe m sentences p vs
