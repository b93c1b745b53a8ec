-- In a valid theory the minimal models are the completed models, and follow from their visible atoms.
use Rattle.std.proofs.Common.{◌≡◌, ◌↔◌, ℕ, suc, false, List, [], ◌∷◌, ℤ, arith, All}
use Rattle.ec_logic.specs.Universe.{universe_of}
use Rattle.ec_logic.specs.Truth.{Structure}
use Rattle.ec_logic.specs.Theory.{Group, Theory, is_in_group}
use Rattle.ec_logic.specs.Minimal.{AreMinimalIn, IsMinimalModel}
use Rattle.ec_logic.specs.Completed.{AreCompletedIn, IsCompletedModel}
use Rattle.ec_logic.specs.Signature.{Signature}
use Rattle.ec_logic.specs.ValidTheory.{IsValidTheory, IsValidGroup, effect_predicates, BeginsWithEffects}
use Rattle.ec_logic.proofs.Completing.{minimal_completed, completed_minimal, completed_equal}

-- a fact of each element of a list holds of each element of its tail
pub all_tail : {A : Type 0} (P : A → Type 0) (x : A) (xs : List A) → All P (x ∷ xs) → All P xs
all_tail P x xs h = λ k d low. h (suc k) d (omega arith)

pub all_head : {A : Type 0} (P : A → Type 0) (x : A) (xs : List A) → All P (x ∷ xs) → P x
all_head P x xs h = h 0 x (omega arith)

groups_completed : (signature : Signature) (groups : List Group) (m : Structure) → All (IsValidGroup signature) groups → AreMinimalIn (universe_of signature) groups m → AreCompletedIn (universe_of signature) groups m
groups_completed signature [] m valid h = tt
groups_completed signature (group ∷ groups) m valid h = (
  minimal_completed (universe_of signature) group (all_head (IsValidGroup signature) group groups valid).clause_form m h.0,
  groups_completed signature groups m (all_tail (IsValidGroup signature) group groups valid) h.1,
)

groups_minimal : (signature : Signature) (groups : List Group) (m : Structure) → All (IsValidGroup signature) groups → AreCompletedIn (universe_of signature) groups m → AreMinimalIn (universe_of signature) groups m
groups_minimal signature [] m valid h = tt
groups_minimal signature (group ∷ groups) m valid h = (
  completed_minimal (universe_of signature) group (all_head (IsValidGroup signature) group groups valid).clause_form m h.0,
  groups_minimal signature groups m (all_tail (IsValidGroup signature) group groups valid) h.1,
)

-- a structure is a minimal model of a valid theory exactly where it is a completed model
pub minimal_iff_completed : (theory : Theory) (m : Structure) → IsValidTheory theory → IsMinimalModel theory m ↔ IsCompletedModel theory m
minimal_iff_completed theory m valid = (
  λ h. record { structure = h.structure; remaining = h.remaining; axioms = h.axioms; release = h.release; groups = groups_completed theory.signature theory.groups m valid.groups h.groups },
  λ h. record { structure = h.structure; remaining = h.remaining; axioms = h.axioms; release = h.release; groups = groups_minimal theory.signature theory.groups m valid.groups h.groups },
)

first_equal : (signature : Signature) (groups : List Group) (m n : Structure) → All (IsValidGroup signature) groups → BeginsWithEffects groups
    → AreMinimalIn (universe_of signature) groups m → AreMinimalIn (universe_of signature) groups n
    → ((p : ℕ) (vs : List ℤ) → is_in_group (record { predicates = effect_predicates; sentences = [] }) p ≡ false → m p vs ≡ n p vs) → (p : ℕ) (vs : List ℤ) → m p vs ≡ n p vs
first_equal signature [] m n valid begins a b visible = absurd begins
first_equal signature (group ∷ groups) m n valid begins a b visible =
    let form = (all_head (IsValidGroup signature) group groups valid).clause_form in
    completed_equal (universe_of signature) group form m n
    (minimal_completed (universe_of signature) group form m a.0) (minimal_completed (universe_of signature) group form n b.0)
    (λ p vs outside. visible p vs (rw begins at outside))

-- minimal models of a valid theory that agree on the visible predicates are equal
pub minimal_models_equal : (theory : Theory) (m n : Structure) → IsValidTheory theory → IsMinimalModel theory m → IsMinimalModel theory n
    → ((p : ℕ) (vs : List ℤ) → is_in_group (record { predicates = effect_predicates; sentences = [] }) p ≡ false → m p vs ≡ n p vs) → (p : ℕ) (vs : List ℤ) → m p vs ≡ n p vs
minimal_models_equal theory m n valid a b visible = first_equal theory.signature theory.groups m n valid.groups valid.effects_first a.groups b.groups visible
