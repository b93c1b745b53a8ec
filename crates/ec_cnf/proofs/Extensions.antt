-- The truths that meet the list of a theory are the extensions of its ground models.
use Rattle.std.proofs.Common.{◌≡◌, ℕ, zero, suc, ◌+◌, ◌-◌, ◌<◌, Bool, false, List, [], ◌∷◌, length, get_or, ℤ, All, Option, Some, None, slice_get, refl, ap, sym, ◌∙◌, arith}
use Rattle.std.proofs.lemmas.Option.{slice_get-get_or}
use Rattle.ec_logic.specs.Universe.{Universe, universe_of}
use Rattle.ec_logic.specs.Truth.{Structure}
use Rattle.ec_logic.specs.Atom.{GroundAtom, all_atoms, number_of, visible_truth}
use Rattle.ec_logic.specs.Theory.{Theory}
use Rattle.ec_logic.specs.ValidTheory.{IsValidTheory}
use Rattle.ec_logic.specs.Minimal.{IsMinimalModel}
use Rattle.ec_logic.proofs.Minimality.{minimal_iff_completed}
use Rattle.ec_folding.specs.Tree.{Tree}
use Rattle.ec_clause.specs.Step.{AllHold}
use Rattle.ec_naming.specs.Listing.{named_whole}
use Rattle.ec_naming.specs.Extension.{atoms_of, extended, HasOneExtension}
use Rattle.ec_naming.proofs.Extending.{has_one_extension}
use Rattle.ec_naming.proofs.Numbering.{variable_of-low, variable_of-found, variable_of-visible}
use Rattle.ec_grounding.specs.Grounded.{sentence_trees, definitions, variables, IsGroundModel}
use Rattle.ec_grounding.specs.Models.{HasTruths, SupportsTuples, structure_read}
use Rattle.ec_grounding.specs.WellFormed.{AreNumbered, visible_count, IsWellFormed}
use Rattle.ec_grounding.proofs.GroundForm.{well_formed}
use Rattle.ec_grounding.proofs.GroundModels.{gives_models}
use Rattle.ec_grounding.proofs.ReadStructures.{reads_models, read_truths}
use Rattle.ec_certificate.specs.Shown.{visible_part}
use Rattle.ec_cnf.specs.List.{variable_in, clauses_of}
use Rattle.ec_cnf.proofs.AtomsRead.{numbered_is, each_numbered, has_variable, visible_truth_is}

-- the truth of an atom in a structure, if there is one
abbrev pub truth_there : Structure → Option GroundAtom → Bool
truth_there m None = false
truth_there m (Some atom) = m atom.predicate atom.args

-- what is there doesn't depend on what stands for nothing
other_default : (xs : List ℕ) (i c d : ℕ) → i < length xs → get_or xs i c ≡ get_or xs i d
other_default [] i c d h = absurd (omega (arith, h))
other_default (x ∷ xs) zero c d h = refl
other_default (x ∷ xs) (suc i) c d h = other_default xs i c d (omega (arith, h))

module _ (theory : Theory) where
  abbrev universe : Universe
  universe = universe_of theory.signature

  -- the first variable behind those of the atoms
  abbrev pub first_name : ℕ
  first_name = length (variables theory) + 1

  -- the trees that have names, in order
  abbrev pub named_trees : List Tree
  named_trees = named_whole (sentence_trees theory) (definitions theory)

  -- the truths of the atoms, by their numbers
  abbrev pub truths_of : (ℕ → Bool) → ℕ → Bool
  truths_of w = atoms_of (variable_in theory) w

  -- each atom's variable is before the names
  pub low : (a : ℕ) → variable_in theory a < first_name
  low a = variable_of-low (variables theory) first_name refl a

  -- the list extends each truth of the atoms once
  pub one_extension : HasOneExtension (variable_in theory) first_name (sentence_trees theory) (definitions theory)
  one_extension = has_one_extension (variable_in theory) first_name (sentence_trees theory) (definitions theory) low

  -- the atom at a place has the variable behind the place
  pub variable_at : IsWellFormed theory → (a k d : ℕ) → k < length (variables theory) → get_or (variables theory) k d ≡ a → variable_in theory a ≡ k + 1
  variable_at formed a k d h e = variable_of-found (variables theory) a k d formed.rises h e

  -- the visible atoms have the variables from 1 on
  pub visible_variables : IsWellFormed theory → (a : ℕ) → a < visible_count theory → variable_in theory a ≡ a + 1
  visible_variables formed = variable_of-visible (variables theory) (visible_count theory) formed.rises formed.visible

  -- the truths of the atoms of a structure, by their numbers
  abbrev numbers_in : Structure → ℕ → Bool
  numbers_in m k = truth_there m (slice_get (all_atoms universe) k)

  -- the truths of the atoms' variables in a structure
  abbrev variables_in : Structure → ℕ → Bool
  variables_in m i = numbers_in m (get_or (variables theory) (i - 1) 0)

  -- the truths of all variables in a structure
  abbrev pub whole_of : Structure → ℕ → Bool
  whole_of m = extended (variable_in theory) first_name named_trees (variables_in m)

  -- ---- from a truth of the variables to a structure

  -- the truths of the atoms make the theory's trees true
  pub ground_model : (w : ℕ → Bool) → AllHold w (clauses_of theory) → IsGroundModel theory (truths_of w)
  ground_model w h = let model = ((one_extension.meets w).0 h).1 in record { sentences = model.sentences; definitions = model.definitions }

  module _ (valid : IsValidTheory theory) where
    -- the structure that a truth of the variables gives is a minimal model
    pub minimal_read : All (SupportsTuples universe) theory.groups → (w : ℕ → Bool) → AllHold w (clauses_of theory) → IsMinimalModel theory (structure_read theory (truths_of w))
    minimal_read tuples w h =
        let law = reads_models theory valid tuples (truths_of w) in
        (minimal_iff_completed theory (structure_read theory (truths_of w)) valid).1 (law.1 (ground_model w h))

  module _ (valid : IsValidTheory theory) (places : AreNumbered universe) where
    -- what the theory is grounded to is well formed
    pub formed : IsWellFormed theory
    formed = well_formed theory valid places

    -- the visible truth of the structure that a truth of the variables gives is the visible part
    pub visible_read : (w : ℕ → Bool) → visible_truth universe (structure_read theory (truths_of w)) ≡ visible_part (visible_count theory) w
    visible_read w = visible_truth_is theory valid places (structure_read theory (truths_of w)) (variable_in theory) w (read_truths theory valid (truths_of w)) (visible_variables formed)

    -- ---- from a structure to a truth of the variables

    module _ (m : Structure) where
      -- an atom is true by each number that it has where it is in the structure
      abbrev Right : GroundAtom → Type 0
      Right atom = (k : ℕ) → number_of universe atom.predicate atom.args ≡ Some k → numbers_in m k ≡ m atom.predicate atom.args

      -- each numbered atom is true by its number where it is in the structure
      numbers_right : (p k : ℕ) (vs : List ℤ) → p < length theory.signature.predicates → number_of universe p vs ≡ Some k → numbers_in m k ≡ m p vs
      numbers_right p k vs known h = each_numbered theory Right (λ i d l. by_place i (get_or (all_atoms universe) i d) (slice_get-get_or (all_atoms universe) i d l)) p k vs known h k h
        where
          by_place : (i : ℕ) (atom : GroundAtom) → slice_get (all_atoms universe) i ≡ Some atom → Right atom
          by_place i atom e j g =
              let number = places i atom e in
              let same : i ≡ j = cc in
              ap (numbers_in m) (sym same) ∙ ap (truth_there m) e

      -- the truth of all variables has the structure's truths
      pub whole_truths : HasTruths theory m (truths_of (whole_of m))
      whole_truths p k vs known e =
          let there = has_variable theory p k vs known e in
          let variable = variable_at formed k there.0 0 there.1 (other_default (variables theory) there.0 0 k there.1 ∙ there.2) in
          let kept = one_extension.keeps (variables_in m) (variable_in theory k) (low k) in
          let place : variable_in theory k - 1 ≡ there.0 = omega (arith, variable) in
          let atom : get_or (variables theory) (variable_in theory k - 1) 0 ≡ k = ap (λ i. get_or (variables theory) i 0) place ∙ (other_default (variables theory) there.0 0 k there.1 ∙ there.2) in
          kept ∙ (ap (numbers_in m) atom ∙ numbers_right p k vs known (numbered_is theory p k vs e))

      -- it meets the list where the structure is a minimal model
      pub whole_meets : All (SupportsTuples universe) theory.groups → IsMinimalModel theory m → AllHold (whole_of m) (clauses_of theory)
      whole_meets tuples minimal =
          let completed = (minimal_iff_completed theory m valid).0 minimal in
          let model = ((gives_models theory valid tuples m (truths_of (whole_of m)) completed.structure whole_truths).0 completed).1 in
          let own = one_extension.only (whole_of m) (whole_of m) (λ i h. refl) (one_extension.extends (variables_in m)) in
          (one_extension.meets (whole_of m)).1 (own, record { sentences = model.sentences; definitions = model.definitions })

      -- its visible part is the structure's visible truth
      pub whole_visible : visible_part (visible_count theory) (whole_of m) ≡ visible_truth universe m
      whole_visible = sym (visible_truth_is theory valid places m (variable_in theory) (whole_of m) whole_truths (visible_variables formed))
