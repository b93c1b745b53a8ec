-- The paths of a clause tree and their instances.
use Rattle.std.specs.Prelude.{ℕ, ◌+◌, ◌==◌, ℤ, Bool, not, ◌&&◌, ◌||◌, List, [], ◌∷◌, ◌++◌, map}
use Rattle.std.specs.List.{list_all, list_any, flat_map}
use Rattle.ec_logic.specs.Tree.{Terms, Formula, atom, all_of, implies, for_all, Formulas, no_formulas, formula}
use Rattle.ec_logic.specs.Universe.{Universe}
use Rattle.ec_logic.specs.Value.{values, same_values}
use Rattle.ec_logic.specs.Place.{kept_values}
use Rattle.ec_logic.specs.Truth.{Structure, truth}
use Rattle.ec_logic.specs.Shift.{shifted}

-- What stands above a head: a binder with its sort and its whole scope, or a body.
pub data Step : Type 0 where
  binder : ℕ → Formula → Step
  body : Formula → Step

-- A head with what stands above it, the outermost first.
pub record Path : Type 0 where
  pub steps : List Step
  pub predicate : ℕ
  pub args : Terms

abbrev pub under : Step → Path → Path
under step path = record { steps = step ∷ path.steps; predicate = path.predicate; args = path.args }

-- the paths of a clause tree, in reading order
abbrev mutual
  pub paths : Formula → List Path
  paths (atom p ts) = record { steps = []; predicate = p; args = ts } ∷ []
  paths (implies f g) = map (under (body f)) (paths g)
  paths (all_of fs) = paths_of fs
  paths (for_all s f) = map (under (binder s f)) (paths f)
  paths _ = []

  pub paths_of : Formulas → List Path
  paths_of no_formulas = []
  paths_of (formula f fs) = paths f ++ paths_of fs

-- the instances of a path: the values of its binders, the innermost first, in front of these; the first binder changes slowest
abbrev pub instances : Universe → List ℤ → List Step → List (List ℤ)
instances universe env [] = env ∷ []
instances universe env (binder s f ∷ steps) = flat_map (λ v. instances universe (v ∷ env) steps) (kept_values universe env s f)
instances universe env (body f ∷ steps) = instances universe env steps

-- how many binders there are
abbrev pub binders : List Step → ℕ
binders [] = 0
binders (binder s f ∷ steps) = binders steps + 1
binders (body f ∷ steps) = binders steps

-- the bodies, each read under all of the path's binders
abbrev pub bodies : List Step → List Formula
bodies [] = []
bodies (binder s f ∷ steps) = bodies steps
bodies (body f ∷ steps) = shifted 0 (binders steps) f ∷ bodies steps

-- whether a tuple of a predicate is the head of an instance whose bodies are all true
abbrev pub path_supports : Universe → Structure → ℕ → List ℤ → List ℤ → Path → Bool
path_supports universe m p vs env path = list_any (λ e. list_all (truth universe m e) (bodies path.steps) && ((path.predicate == p) && same_values (values universe e path.args) vs)) (instances universe env path.steps)

-- whether each instance whose bodies are all true has a true head
abbrev pub path_holds : Universe → Structure → List ℤ → Path → Bool
path_holds universe m env path = list_all (λ e. not (list_all (truth universe m e) (bodies path.steps)) || m path.predicate (values universe e path.args)) (instances universe env path.steps)
