-- What the judgement of a filled structure says of the visible truth that it was filled from.
use Rattle.std.proofs.Common.{◌≡◌, ℕ, ◌≤◌, false, Bool, List, length, get_or, take, ℤ, ap, sym, subst, ◌∙◌}
use Rattle.std.proofs.Math.Path.{fun_ext}
use Rattle.ec_logic.specs.Universe.{universe_of}
use Rattle.ec_logic.specs.Atom.{all_atoms, visible_atoms, structure_of}
use Rattle.ec_logic.specs.Theory.{Theory}
use Rattle.ec_logic.specs.Minimal.{IsMinimalModel}
use Rattle.ec_logic.specs.Listing.{IsTruth}
use Rattle.ec_logic.specs.ValidTheory.{IsValidTheory}
use Rattle.ec_minimal.specs.Effects.{with_effects}
use Rattle.ec_minimal.specs.Verdicts.{IsFirstUntrue}
use Rattle.ec_minimal.specs.declared.verdict.Part.{Part}
use Rattle.ec_minimal.specs.declared.verdict.Verdict.{Verdict}
use Rattle.ec_minimal.specs.declared.verdict.Verdict.TheVariants.{Minimal, Untrue}
use Rattle.ec_models.proofs.Steps.{visible_within}
use Rattle.ec_models.proofs.Leaves.{visible_kept, truth_if_minimal, minimal_if_truth}
use Rattle.ec_audit.specs.Untrue.{filled_structure, IsUntrueAt}
use Rattle.ec_audit.proofs.Copied.{structures_same, front_same}

module _ (theory : Theory) (valid : IsValidTheory theory) (truth old new : List Bool)
    (size_old : length old ≡ length (all_atoms (universe_of theory.signature))) (size_new : length new ≡ length (all_atoms (universe_of theory.signature)))
    (whole : length truth ≡ length (visible_atoms (universe_of theory.signature)))
    (same : (k : ℕ) → get_or old k false ≡ get_or truth k false)
    (fills : (p : ℕ) (vs : List ℤ) → structure_of (universe_of theory.signature) new p vs ≡ with_effects theory (structure_of (universe_of theory.signature) old) p vs) where
  filled : structure_of (universe_of theory.signature) new ≡ filled_structure theory truth
  filled = fun_ext (λ p. fun_ext (λ vs. fills p vs)) ∙ ap (with_effects theory) (structures_same (universe_of theory.signature) old truth same)

  within : length (visible_atoms (universe_of theory.signature)) ≤ length old
  within = rw size_old (visible_within (universe_of theory.signature))

  visible : take (length (visible_atoms (universe_of theory.signature))) new ≡ truth
  visible = visible_kept theory valid old new size_old size_new fills ∙ front_same truth old (length (visible_atoms (universe_of theory.signature))) whole within same

  pub is_truth : IsMinimalModel theory (structure_of (universe_of theory.signature) new) → IsTruth theory truth
  is_truth minimal = subst (IsTruth theory) visible (truth_if_minimal theory valid old new size_old size_new fills minimal)

  pub is_untrue : (part : Part) → (IsMinimalModel theory (structure_of (universe_of theory.signature) new) → ⊥) → IsFirstUntrue theory (structure_of (universe_of theory.signature) new) part → IsUntrueAt theory truth part
  is_untrue part other first = record {
    none = λ is. other (minimal_if_truth theory valid old new size_old size_new fills (subst (IsTruth theory) (sym visible) is));
    first = subst (λ m. IsFirstUntrue theory m part) filled first;
  }

-- a verdict that names an untrue part isn't that of a minimal model
pub is_other : (verdict : Verdict) (part : Part) → verdict ≡ Untrue part → verdict ≡ Minimal → ⊥
is_other verdict part e m = cc
