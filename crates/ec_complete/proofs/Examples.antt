-- A head at the next time: its place narrows the binder for the head beside it too.
use Rattle.std.proofs.Common.{◌≡◌, ℕ, ◌==◌, true, false, [], ◌∷◌, reverse, pos, refl}
use Rattle.ec_logic.specs.Tree.{Term, variable, int, sum, Formula, atom, equal, less, negation, all_of, any_of, implies, for_all, exists, Formulas, no_formulas, formula}
use Rattle.ec_logic.specs.TreeList.{formulas_of, terms_of}
use Rattle.ec_logic.specs.Extent.{numbers}
use Rattle.ec_logic.specs.Universe.{Universe}
use Rattle.ec_logic.specs.Truth.{Structure, truth}
use Rattle.ec_complete.specs.Completion.{definition}

-- the numbers 0 and 1, three predicates of one number, and one of two
abbrev over : Universe
over = record { extents = numbers (pos 0) 2 ∷ []; events = []; fluents = []; predicates = (0 ∷ []) ∷ (0 ∷ []) ∷ (0 ∷ []) ∷ (0 ∷ 0 ∷ []) ∷ [] }

abbrev at : ℕ → Term → Formula
at p t = atom p (terms_of (t ∷ []))

abbrev next : Term
next = sum (variable 0) (int (pos 1))

-- for all t, if p0(t), then p1(t) and p2(t + 1)
abbrev rule : Formula
rule = for_all 0 (implies (at 0 (variable 0)) (all_of (formulas_of (at 1 (variable 0) ∷ at 2 next ∷ []))))

abbrev in_range : Term → Formulas → Formulas
in_range t rest = formula (negation (less t (int (pos 0)))) (formula (less t (int (pos 2))) rest)

-- some t: x = t, each of t, t and t + 1 is 0 or 1, and p0(t)
written : definition over (rule ∷ []) 1 ≡ any_of (formula (exists 0 (all_of (formula (equal (variable 0) (variable 1)) (in_range (variable 0) (in_range (variable 0) (in_range next (formula (at 0 (variable 0)) no_formulas))))))) no_formulas)
written = refl

abbrev always : Structure
always p vs = p == 0

first : truth over always (reverse (pos 0 ∷ [])) (definition over (rule ∷ []) 1) ≡ true
first = refl

last : truth over always (reverse (pos 1 ∷ [])) (definition over (rule ∷ []) 1) ≡ false
last = refl

-- for all t, for all u, if p0(u), then p3(t, u): the first argument is outermost, and the second binder innermost
abbrev pairs : Formula
pairs = for_all 0 (for_all 0 (implies (at 0 (variable 0)) (atom 3 (terms_of (variable 1 ∷ variable 0 ∷ [])))))

pair-written : definition over (pairs ∷ []) 3 ≡ any_of (formula (exists 0 (exists 0 (all_of (formula (equal (variable 1) (variable 3)) (formula (equal (variable 0) (variable 2)) (in_range (variable 1) (in_range (variable 0) (in_range (variable 0) (formula (at 0 (variable 0)) no_formulas))))))))) no_formulas)
pair-written = refl

-- with no sentence that has it as head, a predicate is never true
none : definition over (rule ∷ []) 0 ≡ any_of no_formulas
none = refl
