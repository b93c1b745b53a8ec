-- The instances of a path gone through from the outermost step on, each body folded where it stands.
use Rattle.std.specs.Prelude.{ℕ, ℤ, true, List, [], ◌∷◌, ◌++◌, if◌then◌else◌}
use Rattle.std.specs.List.{flat_map}
use Rattle.ec_logic.specs.Universe.{Universe}
use Rattle.ec_logic.specs.Place.{kept_values}
use Rattle.ec_logic.specs.Paths.{Step, binder, body, Path}
use Rattle.ec_folding.specs.Tree.{Tree}
use Rattle.ec_folding.specs.Join.{conj}
use Rattle.ec_grounding.specs.Folded.{Reading, folded}
use Rattle.ec_grounding.specs.Scope.{is_head}

-- the trees of a path's instances with this head, from some steps on, where the values of the binders passed and the trees of the bodies passed are given
abbrev pub walked : Universe → Reading → ℕ → List ℤ → Path → List ℤ → List Tree → List Step → List Tree
walked universe reading p vs path env trees [] = if is_head universe p vs path env then conj trees ∷ [] else []
walked universe reading p vs path env trees (binder s f ∷ steps) = flat_map (λ v. walked universe reading p vs path (v ∷ env) trees steps) (kept_values universe env s f)
walked universe reading p vs path env trees (body f ∷ steps) = walked universe reading p vs path env (trees ++ folded universe reading env true f ∷ []) steps
