-- Definitions by which the truths of the visible atoms, which are those below a number, decide those of all others.
use Rattle.std.specs.Prelude.{◌≡◌, ℕ, suc, ◌<◌, ◌≤◌, nat_lt, ◌&&◌, Bool, true, List, [], ◌∷◌, All, if◌then◌else◌}
use Rattle.std.specs.Bool.{beq}
use Rattle.std.specs.List.{list_all}
use Rattle.ec_folding.specs.Tree.{Tree, EachAtom, true_in}
use Rattle.ec_folding.specs.Definition.{Definition, Holds}

-- all atoms of a definition are below a number
abbrev pub IsWithin : ℕ → Definition → Type 0
IsWithin size d = (d.atom < size) × EachAtom (λ a. a < size) d.scope

-- the atoms of definitions, each above the one before, from a number on
abbrev pub Rises : ℕ → List Definition → Type 0
Rises low [] = Unit {0}
Rises low (d ∷ ds) = (low ≤ d.atom) × Rises (suc d.atom) ds

-- where its atom is not visible, the truth of its tree is decided by the visible ones
abbrev pub ReadsVisible : ℕ → Definition → Type 0
ReadsVisible visible d = visible ≤ d.atom → (v w : ℕ → Bool) → ((a : ℕ) → a < visible → v a ≡ w a) → true_in v d.scope ≡ true_in w d.scope

-- each atom has one definition at most, and each that is not visible is decided by the visible ones
pub record AreFillable (visible : ℕ) (ds : List Definition) : Type 0 where
  pub rises : Rises 0 ds
  pub decided : All (ReadsVisible visible) ds

-- where its atom is not visible, it has the truth of its tree
abbrev pub IsFilled : ℕ → (ℕ → Bool) → Definition → Type 0
IsFilled visible v d = visible ≤ d.atom → Holds v d

-- each atom that is not visible has the truth of its tree, where the visible ones decide it
abbrev pub Fills : ℕ → (ℕ → Bool) → List Definition → Type 0
Fills visible v ds = AreFillable visible ds → All (IsFilled visible v) ds

-- whether the atom has the truth of its tree, where it is visible
abbrev pub is_kept : ℕ → (ℕ → Bool) → Definition → Bool
is_kept visible v d = if nat_lt d.atom visible then beq (v d.atom) (true_in v d.scope) else true

-- whether these trees are true, and each visible atom with one of these definitions has the truth of its tree
abbrev pub are_kept : ℕ → (ℕ → Bool) → List Tree → List Definition → Bool
are_kept visible v sentences ds = list_all (true_in v) sentences && list_all (is_kept visible v) ds
