-- Filled truths keep the trees of a valid theory exactly where the visible truth is that of a minimal model.
use Rattle.std.proofs.Common.{◌≡◌, ℕ, ◌<◌, ◌≤◌, ◌&&◌, ◌↔◌, Bool, true, false, List, length, get_or, All, Contains, nat_lt, if◌then◌else◌, refl, sym, ◌∙◌, subst, inl, inr, arith}
use Rattle.std.specs.Bool.{beq}
use Rattle.std.specs.Prelude.{IsTrue}
use Rattle.std.specs.List.{list_all}
use Rattle.std.proofs.lemmas.Bool.{cases_lt}
use Rattle.std.proofs.lemmas.Bool.Decides.{nat_tests}
use Rattle.std.proofs.lemmas.List.{get_or-map, length-map}
use Rattle.std.proofs.lemmas.List.Sums.{AllPass-from_list_all, list_all-from_AllPass}
use Rattle.ec_logic.specs.Universe.{Universe, universe_of}
use Rattle.ec_logic.specs.Theory.{Theory}
use Rattle.ec_logic.specs.Listing.{IsTruth}
use Rattle.ec_logic.specs.ValidTheory.{IsValidTheory}
use Rattle.ec_logic.proofs.Extents.{arguments_length}
use Rattle.ec_logic.proofs.FewAtoms.{six_predicates}
use Rattle.ec_logic.proofs.Tests.{and_parts}
use Rattle.ec_atom.proofs.AtomLaws.{all_numbered}
use Rattle.ec_supported.proofs.GroupTuples.{groups_support_tuples}
use Rattle.ec_folding.specs.Tree.{Tree, never, true_in}
use Rattle.ec_folding.specs.Definition.{Definition, Holds}
use Rattle.ec_prop.specs.Prop.{truth_of}
use Rattle.ec_grounding.specs.Grounded.{sentence_trees, definitions, IsGroundModel}
use Rattle.ec_grounding.specs.WellFormed.{AreNumbered, HasVariable, visible_count, defined_atoms, IsWellFormed}
use Rattle.ec_grounding.proofs.GroundForm.{well_formed}
use Rattle.ec_audit.specs.Fillable.{AreFillable, IsFilled, is_kept, are_kept}
use Rattle.ec_cnf.proofs.NamedTrees.{true_alike}
use Rattle.ec_audit.proofs.EffectScopes.{visible_scopes, atoms_rise}
use Rattle.ec_audit.proofs.TreeTruths.{truth_from, numbers_in, ground_from, visible_in}

both_true : (a b : Bool) → a ≡ true → b ≡ true → (a && b) ≡ true
both_true a b e g = rw (e, g) refl

equal_from : (a b : Bool) → beq a b ≡ true → a ≡ b
equal_from true true e = refl
equal_from true false e = cc
equal_from false true e = cc
equal_from false false e = refl

equal_same : (a b : Bool) → a ≡ b → beq a b ≡ true
equal_same true true e = refl
equal_same true false e = cc
equal_same false true e = cc
equal_same false false e = refl

-- what a test of a definition says
kept_holds : (visible : ℕ) (v : ℕ → Bool) (d : Definition) → IsFilled visible v d → is_kept visible v d ≡ true → Holds v d
kept_holds visible v d filled kept = by_test (nat_lt d.atom visible) refl kept
  where
    by_test : (b : Bool) → nat_lt d.atom visible ≡ b → (if b then beq (v d.atom) (true_in v d.scope) else true) ≡ true → Holds v d
    by_test true t k = equal_from (v d.atom) (true_in v d.scope) k
    by_test false t k = filled (grind (arith, nat_tests, t))

holds_kept : (visible : ℕ) (v : ℕ → Bool) (d : Definition) → Holds v d → is_kept visible v d ≡ true
holds_kept visible v d holds = by_test (nat_lt d.atom visible)
  where
    by_test : (b : Bool) → (if b then beq (v d.atom) (true_in v d.scope) else true) ≡ true
    by_test true = equal_same (v d.atom) (true_in v d.scope) holds
    by_test false = refl

module _ (theory : Theory) (valid : IsValidTheory theory) where
  abbrev universe : Universe
  universe = universe_of theory.signature

  places : AreNumbered universe
  places = all_numbered universe (omega (arith, six_predicates theory.signature valid.signature, arguments_length theory.signature.predicates))

  formed : IsWellFormed theory
  formed = well_formed theory valid places

  -- a definition's atom has a variable
  defined : (k : ℕ) (d : Definition) → k < length (definitions theory) → HasVariable theory (get_or (definitions theory) k d).atom
  defined k d l =
      let atom_of = λ (x : Definition). x.atom in
      let there = formed.defined k d.atom (omega (arith, l, length-map (definitions theory) atom_of)) in
      subst (HasVariable theory) (get_or-map atom_of (definitions theory) k d d.atom l) there

  pub fillable : AreFillable (visible_count theory) (definitions theory)
  fillable = record { rises = atoms_rise theory valid places; decided = visible_scopes theory valid places }

  -- ---- what filled truths say

  module _ (truth : List Bool) (v : ℕ → Bool) (size : length truth ≡ visible_count theory) (same : (a : ℕ) → a < visible_count theory → v a ≡ truth_of truth a) (filled : All (IsFilled (visible_count theory) v) (definitions theory)) where
    model_from : are_kept (visible_count theory) v (sentence_trees theory) (definitions theory) ≡ true → IsGroundModel theory v
    model_from kept =
        let parts = and_parts (list_all (true_in v) (sentence_trees theory)) (list_all (is_kept (visible_count theory) v) (definitions theory)) kept in
        let each = AllPass-from_list_all (is_kept (visible_count theory) v) (definitions theory) parts.1 in
        record {
          sentences = AllPass-from_list_all (true_in v) (sentence_trees theory) parts.0;
          definitions = λ k d l. kept_holds (visible_count theory) v (get_or (definitions theory) k d) (filled k d l) (each k d l);
        }

    -- a ground model with the same visible truth has the same truth at each atom that has a variable
    module _ (w : ℕ → Bool) (model : IsGroundModel theory w) (seen : (a : ℕ) → a < visible_count theory → w a ≡ truth_of truth a) where
      visible_same : (a : ℕ) → a < visible_count theory → v a ≡ w a
      visible_same a l = same a l ∙ sym (seen a l)

      other_same : (a : ℕ) → visible_count theory ≤ a → HasVariable theory a → v a ≡ w a
      other_same a far there =
          let variable = formed.others_defined there.0 a there.1 in
          let there' : Contains (defined_atoms theory) a = subst (Contains (defined_atoms theory)) there.2 (variable (subst (λ b. visible_count theory ≤ b) (sym there.2) far)) in
          let k = there'.0 in
          let none : Definition = record { atom = a; scope = never } in
          let atom_of = λ (x : Definition). x.atom in
          let l : k < length (definitions theory) = omega (arith, there'.1, length-map (definitions theory) atom_of) in
          let d = get_or (definitions theory) k none in
          let is : d.atom ≡ a = sym (get_or-map atom_of (definitions theory) k none a l) ∙ there'.2 in
          let far' : visible_count theory ≤ d.atom = omega (arith, far, is) in
          let by_v : v d.atom ≡ true_in v d.scope = filled k none l far' in
          let by_w : w d.atom ≡ true_in w d.scope = model.definitions k none l in
          let decided = fillable.decided k none l far' v w visible_same in
          subst (λ b. v b ≡ w b) is (by_v ∙ decided ∙ sym by_w)

      variables_same : (a : ℕ) → HasVariable theory a → v a ≡ w a
      variables_same a there = elim (cases_lt a (visible_count theory)) [ inl l ↦ visible_same a l | inr far ↦ other_same a far there ]

      kept_from : are_kept (visible_count theory) v (sentence_trees theory) (definitions theory) ≡ true
      kept_from =
          let sentences = list_all-from_AllPass (true_in v) (sentence_trees theory)
          (λ k d l. true_alike (HasVariable theory) v w variables_same (get_or (sentence_trees theory) k d) (formed.sentence_atoms k d l) ∙ model.sentences k d l) in
          let own = list_all-from_AllPass (is_kept (visible_count theory) v) (definitions theory)
          (λ k d l. (
          let x = get_or (definitions theory) k d in
          holds_kept (visible_count theory) v x
          (variables_same x.atom (defined k d l) ∙ (model.definitions k d l ∙ sym (true_alike (HasVariable theory) v w variables_same x.scope (formed.scope_atoms k d l)))))) in
          both_true (list_all (true_in v) (sentence_trees theory)) (list_all (is_kept (visible_count theory) v) (definitions theory)) sentences own

    pub kept_exactly : IsTrue (are_kept (visible_count theory) v (sentence_trees theory) (definitions theory)) ↔ IsTruth theory truth
    kept_exactly = (
      λ kept. truth_from theory valid places v truth size same (groups_support_tuples theory valid) (model_from kept),
      λ there. kept_from (numbers_in theory valid places there.0) (ground_from theory valid places there.0 (groups_support_tuples theory valid) there.1) (visible_in theory valid places there.0 truth there.2),
    )

  -- ---- the same, of what the theory was grounded to

  fillable_of : (visible : ℕ) (ds : List Definition) → visible ≡ visible_count theory → ds ≡ definitions theory → AreFillable visible ds
  fillable_of visible ds same is = subst (AreFillable visible) (sym is) (subst (λ n. AreFillable n (definitions theory)) (sym same) fillable)

  -- so many visible atoms, these sentences and these definitions are judged exactly
  abbrev IsExact : List Bool → (ℕ → Bool) → ℕ → List Tree → List Definition → Type 0
  IsExact truth v visible ss ds = length truth ≡ visible → ((a : ℕ) → a < visible → v a ≡ truth_of truth a) → All (IsFilled visible v) ds → IsTrue (are_kept visible v ss ds) ↔ IsTruth theory truth

  pub exact_of : (truth : List Bool) (v : ℕ → Bool) (visible : ℕ) (ss : List Tree) (ds : List Definition) → visible ≡ visible_count theory → ss ≡ sentence_trees theory → ds ≡ definitions theory
      → length truth ≡ visible → ((a : ℕ) → a < visible → v a ≡ truth_of truth a) → (AreFillable visible ds → All (IsFilled visible v) ds) → IsTrue (are_kept visible v ss ds) ↔ IsTruth theory truth
  exact_of truth v visible ss ds same is are size seen filled =
      let here : IsExact truth v (visible_count theory) (sentence_trees theory) (definitions theory) = λ size' seen' filled'. kept_exactly truth v size' seen' filled' in
      let with_ds = subst (IsExact truth v (visible_count theory) (sentence_trees theory)) (sym are) here in
      let with_ss = subst (λ ts. IsExact truth v (visible_count theory) ts ds) (sym is) with_ds in
      let exact = subst (λ n. IsExact truth v n ss ds) (sym same) with_ss in
      exact size seen (filled (fillable_of visible ds same are))
