-- Places of a shifted tree: those outside keep theirs, those of the new binders have none.
use Rattle.std.proofs.Common.{◌≡◌, ℕ, suc, ◌+◌, ◌<◌, ◌≤◌, true, false, List, [], ◌∷◌, ◌++◌, length, ℤ, pos, Option, Some, None, option_map, refl, ap, arith}
use Rattle.std.proofs.lemmas.Bool.Decides.{nat_tests}
use Rattle.ec_logic.specs.Tree.{Term, variable, int, constant, event, fluent, sum, difference, product, Terms, no_terms, term, Formula, verum, falsum, atom, equal, less, negation, all_of, any_of, implies, iff, for_all, exists, Formulas, no_formulas, formula}
use Rattle.ec_logic.specs.Universe.{Universe, row_of}
use Rattle.ec_logic.specs.Truth.{Structure}
use Rattle.ec_logic.specs.Place.{nearer, innermost, innermost_of, is_at, place_in_range, term_keeps, terms_keep, keeps, all_keep}
use Rattle.ec_logic.specs.Shift.{shifted_variable, shifted_term, shifted_terms, shifted, shifted_each}
use Rattle.ec_complete.specs.Completion.{lowered, lowered_terms}
use Rattle.ec_logic.proofs.Shifting.{innermost-shifted, value-shifted}

is_at-raised : (from by d e : ℕ) (o : Option ℕ) → from ≤ d → e ≡ d + by → is_at e (option_map (shifted_variable from by) o) ≡ is_at d o
is_at-raised from by d e None l h = refl
is_at-raised from by d e (Some k) l h = grind (arith, nat_tests)

is_at-clear : (from by d : ℕ) (o : Option ℕ) → from ≤ d → d < from + by → is_at d (option_map (shifted_variable from by) o) ≡ false
is_at-clear from by d None l h = refl
is_at-clear from by d (Some k) l h = grind (arith, nat_tests)

abbrev no_structure : Structure
no_structure p vs = false

-- the places of a binder outside of the new ones
module _ (universe : Universe) (new env : List ℤ) where
  place-raised : (outer : List ℤ) (d e s : ℕ) (t : Term) → length outer ≤ d → e ≡ d + length new → place_in_range universe (outer ++ (new ++ env)) e s (shifted_term (length outer) (length new) t) ≡ place_in_range universe (outer ++ env) d s t
  place-raised outer d e s t l h = rw (innermost-shifted (length outer) (length new) t, is_at-raised (length outer) (length new) d e (innermost t) l h, value-shifted universe no_structure new env outer t) refl

  mutual
    pub term_keeps-raised : (outer : List ℤ) (d e : ℕ) (t : Term) → length outer ≤ d → e ≡ d + length new → term_keeps universe (outer ++ (new ++ env)) e (shifted_term (length outer) (length new) t) ≡ term_keeps universe (outer ++ env) d t
    term_keeps-raised outer d e (variable k) l h = refl
    term_keeps-raised outer d e (int z) l h = refl
    term_keeps-raised outer d e (constant c) l h = refl
    term_keeps-raised outer d e (event s ts) l h = terms_keep-raised outer d e (row_of universe.events s) ts l h
    term_keeps-raised outer d e (fluent s ts) l h = terms_keep-raised outer d e (row_of universe.fluents s) ts l h
    term_keeps-raised outer d e (sum a b) l h = rw (term_keeps-raised outer d e a l h, term_keeps-raised outer d e b l h) refl
    term_keeps-raised outer d e (difference a b) l h = rw (term_keeps-raised outer d e a l h, term_keeps-raised outer d e b l h) refl
    term_keeps-raised outer d e (product a b) l h = rw (term_keeps-raised outer d e a l h, term_keeps-raised outer d e b l h) refl

    pub terms_keep-raised : (outer : List ℤ) (d e : ℕ) (ss : List ℕ) (ts : Terms) → length outer ≤ d → e ≡ d + length new → terms_keep universe (outer ++ (new ++ env)) e ss (shifted_terms (length outer) (length new) ts) ≡ terms_keep universe (outer ++ env) d ss ts
    terms_keep-raised outer d e ss no_terms l h = refl
    terms_keep-raised outer d e [] (term t ts) l h = rw (term_keeps-raised outer d e t l h, terms_keep-raised outer d e [] ts l h) refl
    terms_keep-raised outer d e (s ∷ ss) (term t ts) l h = rw (place-raised outer d e s t l h, term_keeps-raised outer d e t l h, terms_keep-raised outer d e ss ts l h) refl

  mutual
    pub keeps-raised : (outer : List ℤ) (d e : ℕ) (f : Formula) → length outer ≤ d → e ≡ d + length new → keeps universe (outer ++ (new ++ env)) e (shifted (length outer) (length new) f) ≡ keeps universe (outer ++ env) d f
    keeps-raised outer d e verum l h = refl
    keeps-raised outer d e falsum l h = refl
    keeps-raised outer d e (atom p ts) l h = terms_keep-raised outer d e (row_of universe.predicates p) ts l h
    keeps-raised outer d e (equal a b) l h = rw (term_keeps-raised outer d e a l h, term_keeps-raised outer d e b l h) refl
    keeps-raised outer d e (less a b) l h = rw (term_keeps-raised outer d e a l h, term_keeps-raised outer d e b l h) refl
    keeps-raised outer d e (negation f) l h = keeps-raised outer d e f l h
    keeps-raised outer d e (all_of fs) l h = all_keep-raised outer d e fs l h
    keeps-raised outer d e (any_of fs) l h = all_keep-raised outer d e fs l h
    keeps-raised outer d e (implies f g) l h = rw (keeps-raised outer d e f l h, keeps-raised outer d e g l h) refl
    keeps-raised outer d e (iff f g) l h = rw (keeps-raised outer d e f l h, keeps-raised outer d e g l h) refl
    keeps-raised outer d e (for_all s f) l h = keeps-raised (pos 0 ∷ outer) (suc d) (suc e) f (omega arith) (omega arith)
    keeps-raised outer d e (exists s f) l h = keeps-raised (pos 0 ∷ outer) (suc d) (suc e) f (omega arith) (omega arith)

    all_keep-raised : (outer : List ℤ) (d e : ℕ) (fs : Formulas) → length outer ≤ d → e ≡ d + length new → all_keep universe (outer ++ (new ++ env)) e (shifted_each (length outer) (length new) fs) ≡ all_keep universe (outer ++ env) d fs
    all_keep-raised outer d e no_formulas l h = refl
    all_keep-raised outer d e (formula f fs) l h = rw (keeps-raised outer d e f l h, all_keep-raised outer d e fs l h) refl

-- a new binder has no places
module _ (universe : Universe) (by : ℕ) where
  place-clear : (env : List ℤ) (from d s : ℕ) (t : Term) → from ≤ d → d < from + by → place_in_range universe env d s (shifted_term from by t) ≡ true
  place-clear env from d s t l h = rw (innermost-shifted from by t, is_at-clear from by d (innermost t) l h) refl

  mutual
    term_keeps-clear : (env : List ℤ) (from d : ℕ) (t : Term) → from ≤ d → d < from + by → term_keeps universe env d (shifted_term from by t) ≡ true
    term_keeps-clear env from d (variable k) l h = refl
    term_keeps-clear env from d (int z) l h = refl
    term_keeps-clear env from d (constant c) l h = refl
    term_keeps-clear env from d (event s ts) l h = terms_keep-clear env from d (row_of universe.events s) ts l h
    term_keeps-clear env from d (fluent s ts) l h = terms_keep-clear env from d (row_of universe.fluents s) ts l h
    term_keeps-clear env from d (sum a b) l h = rw (term_keeps-clear env from d a l h) (term_keeps-clear env from d b l h)
    term_keeps-clear env from d (difference a b) l h = rw (term_keeps-clear env from d a l h) (term_keeps-clear env from d b l h)
    term_keeps-clear env from d (product a b) l h = rw (term_keeps-clear env from d a l h) (term_keeps-clear env from d b l h)

    terms_keep-clear : (env : List ℤ) (from d : ℕ) (ss : List ℕ) (ts : Terms) → from ≤ d → d < from + by → terms_keep universe env d ss (shifted_terms from by ts) ≡ true
    terms_keep-clear env from d ss no_terms l h = refl
    terms_keep-clear env from d [] (term t ts) l h = rw (term_keeps-clear env from d t l h) (terms_keep-clear env from d [] ts l h)
    terms_keep-clear env from d (s ∷ ss) (term t ts) l h = rw (place-clear env from d s t l h, term_keeps-clear env from d t l h) (terms_keep-clear env from d ss ts l h)

  mutual
    pub keeps-clear : (env : List ℤ) (from d : ℕ) (f : Formula) → from ≤ d → d < from + by → keeps universe env d (shifted from by f) ≡ true
    keeps-clear env from d verum l h = refl
    keeps-clear env from d falsum l h = refl
    keeps-clear env from d (atom p ts) l h = terms_keep-clear env from d (row_of universe.predicates p) ts l h
    keeps-clear env from d (equal a b) l h = rw (term_keeps-clear env from d a l h) (term_keeps-clear env from d b l h)
    keeps-clear env from d (less a b) l h = rw (term_keeps-clear env from d a l h) (term_keeps-clear env from d b l h)
    keeps-clear env from d (negation f) l h = keeps-clear env from d f l h
    keeps-clear env from d (all_of fs) l h = all_keep-clear env from d fs l h
    keeps-clear env from d (any_of fs) l h = all_keep-clear env from d fs l h
    keeps-clear env from d (implies f g) l h = rw (keeps-clear env from d f l h) (keeps-clear env from d g l h)
    keeps-clear env from d (iff f g) l h = rw (keeps-clear env from d f l h) (keeps-clear env from d g l h)
    keeps-clear env from d (for_all s f) l h = keeps-clear (pos 0 ∷ env) (suc from) (suc d) f (omega arith) (omega arith)
    keeps-clear env from d (exists s f) l h = keeps-clear (pos 0 ∷ env) (suc from) (suc d) f (omega arith) (omega arith)

    all_keep-clear : (env : List ℤ) (from d : ℕ) (fs : Formulas) → from ≤ d → d < from + by → all_keep universe env d (shifted_each from by fs) ≡ true
    all_keep-clear env from d no_formulas l h = refl
    all_keep-clear env from d (formula f fs) l h = rw (keeps-clear env from d f l h) (all_keep-clear env from d fs l h)

-- a term without variables below d is its lowered term, shifted
abbrev pub Reaches : ℕ → Option ℕ → Type 0
Reaches d None = Unit {0}
Reaches d (Some k) = d ≤ k

reaches_parts : (d : ℕ) (a b : Option ℕ) → Reaches d (nearer a b) → Reaches d a × Reaches d b
reaches_parts d None b r = (tt, r)
reaches_parts d (Some a) None r = (r, tt)
reaches_parts d (Some a) (Some b) r = (omega (arith, r), omega (arith, r))

pub reaches_at : (d : ℕ) (o : Option ℕ) → is_at d o ≡ true → Reaches d o
reaches_at d None h = tt
reaches_at d (Some k) h = grind (arith, nat_tests)

mutual
  pub shifted-lowered : (d : ℕ) (t : Term) → Reaches d (innermost t) → shifted_term 0 d (lowered d t) ≡ t
  shifted-lowered d (variable k) r = ap variable (grind (arith, nat_tests))
  shifted-lowered d (int z) r = refl
  shifted-lowered d (constant c) r = refl
  shifted-lowered d (event s ts) r = ap (event s) (shifted-lowered_terms d ts r)
  shifted-lowered d (fluent s ts) r = ap (fluent s) (shifted-lowered_terms d ts r)
  shifted-lowered d (sum a b) r = let both = reaches_parts d (innermost a) (innermost b) r in rw (shifted-lowered d a both.0, shifted-lowered d b both.1) refl
  shifted-lowered d (difference a b) r = let both = reaches_parts d (innermost a) (innermost b) r in rw (shifted-lowered d a both.0, shifted-lowered d b both.1) refl
  shifted-lowered d (product a b) r = let both = reaches_parts d (innermost a) (innermost b) r in rw (shifted-lowered d a both.0, shifted-lowered d b both.1) refl

  shifted-lowered_terms : (d : ℕ) (ts : Terms) → Reaches d (innermost_of ts) → shifted_terms 0 d (lowered_terms d ts) ≡ ts
  shifted-lowered_terms d no_terms r = refl
  shifted-lowered_terms d (term t ts) r = let both = reaches_parts d (innermost t) (innermost_of ts) r in rw (shifted-lowered d t both.0, shifted-lowered_terms d ts both.1) refl
