-- The completed models of a valid theory are the models of what it is grounded to.
use Rattle.std.proofs.Common.{◌≡◌, ℕ, ◌+◌, ◌<◌, ◌==◌, Bool, true, false, not, ◌&&◌, List, [], ◌∷◌, ◌++◌, length, map, ℤ, All, Option, Some, None, option_map, refl, ap, sym, subst, ◌∙◌, arith}
use Rattle.std.specs.List.{list_all, list_any}
use Rattle.std.proofs.lemmas.List.Elements.{All-nil, All-cons, All-head, All-tail}
use Rattle.std.proofs.lemmas.List.Folds.{list_all-append}
use Rattle.ec_logic.specs.Tree.{Formula}
use Rattle.ec_logic.specs.Universe.{Universe, universe_of, row_of, tuple_rank}
use Rattle.ec_logic.specs.Truth.{Structure, IsStructure, truth}
use Rattle.ec_logic.specs.Atom.{GroundAtom, all_atoms, number_of, atoms_before, predicates_in_order}
use Rattle.ec_logic.specs.Axiom.{dec_axioms, release_axioms}
use Rattle.ec_logic.specs.Theory.{Group, Theory, is_in_group}
use Rattle.ec_logic.specs.ClauseTree.{any_predicate, only_has, is_supported}
use Rattle.ec_logic.specs.Completed.{IsCompletedModel}
use Rattle.ec_logic.specs.ValidTheory.{IsValidTheory, IsValidGroup}
use Rattle.ec_logic.proofs.Tests.{and_parts, not_true, test_cases}
use Rattle.ec_logic.proofs.Extents.{arguments_length}
use Rattle.ec_logic.proofs.MarkedBits.{numbered as has_number}
use Rattle.ec_folding.specs.Tree.{Tree, true_in}
use Rattle.ec_folding.specs.Definition.{Holds}
use Rattle.ec_grounding.specs.Folded.{Leaf, fixed, numbered, Reading, leaf_truth, folded}
use Rattle.ec_grounding.specs.Scope.{scope_of}
use Rattle.ec_grounding.specs.Grounded.{leaf_of, read_by_number, is_effect, group_with, scope_in, effect_scope, reading_of, asserted, atom_scope, definition_of, IsGroundModel}
use Rattle.ec_grounding.specs.Models.{HasTruths, HasConstants, SupportsTuples, GivesModels}
use Rattle.ec_grounding.proofs.TruthWhere.{true_in-folded_where, true_in-scope_where, both_tests, both_sentences}
use Rattle.ec_grounding.proofs.KnownPredicates.{is_known, known_below}
use Rattle.ec_grounding.proofs.KnownTheory.{asserted_known, group_known, grouped_below}
use Rattle.ec_grounding.proofs.SameReading.{same_scope}
use Rattle.ec_grounding.proofs.AtomsListed.{all_joined, all_parted, each_atom}
use Rattle.ec_grounding.proofs.Groups.{found_group, found_completed, effect_group, completed_each}
use Rattle.ec_grounding.proofs.Readings.{settled_cases, plain_cases, reading-effect, reading-other, scope-effect, scope-other, group_of_scope, group_of_atom, scope_there}

module _ (theory : Theory) (valid : IsValidTheory theory) where
  abbrev universe : Universe
  universe = universe_of theory.signature

  -- the tree of an effect atom is the same under all readings that agree on the other predicates
  pub effect_same : (reading : Reading) → ((q : ℕ) (us : List ℤ) → is_effect q ≡ false → read_by_number universe q us ≡ reading q us) → (p : ℕ) (vs : List ℤ) (group : Group) → is_effect p ≡ true → group_with theory.groups p ≡ Some group
      → scope_of universe (read_by_number universe) group.sentences p vs ≡ scope_of universe reading group.sentences p vs
  effect_same reading same p vs group e found =
      let both = found_group p group (IsValidGroup theory.signature) theory.groups valid.groups found in
      let is = effect_group p group theory.groups valid.effects_first e found in
      same_scope (λ q. not (is_in_group group q)) universe (read_by_number universe) reading
      (λ q us h. same q us (sym (ap (list_any (λ r. r == q)) is) ∙ not_true (is_in_group group q) h)) p vs (is_in_group group) group.sentences both.0.clause_form

  module _ (m : Structure) (v : ℕ → Bool) (structure : IsStructure universe m) (truths : HasTruths theory m v) where
    outside : (p : ℕ) (vs : List ℤ) → number_of universe p vs ≡ None → m p vs ≡ false
    outside p vs e = test_cases (m p vs ≡ false) (m p vs)
        (λ t. let s = structure p vs t in let n = has_number universe p vs s.1.0 s.1.1 in absurd cc)
        (λ t. t)

    plain_truth : (p : ℕ) (vs : List ℤ) → is_known theory.signature p ≡ true → is_effect p ≡ false → leaf_truth v (read_by_number universe p vs) ≡ m p vs
    plain_truth p vs known e = by_number (number_of universe p vs) refl
      where
        by_number : (o : Option ℕ) → number_of universe p vs ≡ o → leaf_truth v (leaf_of o) ≡ m p vs
        by_number None h = sym (outside p vs h)
        by_number (Some k) h = truths p k vs (known_below theory.signature p known) (reading-other theory p vs e ∙ ap leaf_of h)

    effect_truth : (p : ℕ) (vs : List ℤ) (group : Group) → is_effect p ≡ true → group_with theory.groups p ≡ Some group
        → true_in v (scope_of universe (read_by_number universe) group.sentences p vs) ≡ is_supported universe m group.sentences p vs
    effect_truth p vs group e found =
        let both = found_group p group (IsValidGroup theory.signature) theory.groups valid.groups found in
        let is = effect_group p group theory.groups valid.effects_first e found in
        let free : ℕ → Bool = λ q. not (is_in_group group q) in
        true_in-scope_where universe m (read_by_number universe) v (both_tests free (is_known theory.signature))
        (λ q us h. let parts = and_parts (free q) (is_known theory.signature q) h in plain_truth q us parts.1 (sym (ap (list_any (λ r. r == q)) is) ∙ not_true (is_in_group group q) parts.0))
        (is_in_group group) group.sentences p vs
        (both_sentences free (is_known theory.signature) (is_in_group group) any_predicate group.sentences both.0.clause_form (group_known theory valid group both.0))

    -- ---- a completed model has the constants

    pub constants_right : IsCompletedModel theory m → HasConstants theory m
    constants_right completed p vs b e = test_cases (m p vs ≡ b) (is_effect p) effect other
      where
        none : number_of universe p vs ≡ None → b ≡ false → m p vs ≡ b
        none h is = outside p vs h ∙ sym is

        effect : is_effect p ≡ true → m p vs ≡ b
        effect t = settled_cases (m p vs ≡ b) v (number_of universe p vs) (effect_scope theory p vs) b none
            (λ tree is value. group_of_scope theory p vs (m p vs ≡ b) (read_by_number universe) tree is
            (λ group found same.
            let both = found_group p group (IsValidGroup theory.signature) theory.groups valid.groups found in
            let complete = found_completed p group universe m theory.groups completed.groups found in
            complete p vs both.1 ∙ (sym (effect_truth p vs group t found) ∙ (ap (true_in v) same ∙ value))))
            (sym (reading-effect theory p vs t) ∙ e)

        other : is_effect p ≡ false → m p vs ≡ b
        other t = plain_cases (m p vs ≡ b) (number_of universe p vs) b none (sym (reading-other theory p vs t) ∙ e)

    module _ (constants : HasConstants theory m) where
      reads : (p : ℕ) (vs : List ℤ) → is_known theory.signature p ≡ true → leaf_truth v (reading_of theory p vs) ≡ m p vs
      reads p vs known = by_leaf (reading_of theory p vs) refl
        where
          by_leaf : (leaf : Leaf) → reading_of theory p vs ≡ leaf → leaf_truth v leaf ≡ m p vs
          by_leaf (fixed b) e = sym (constants p vs b e)
          by_leaf (numbered k) e = truths p k vs (known_below theory.signature p known) e

      scope_truth : (p : ℕ) (vs : List ℤ) (group : Group) (tree : Tree) → group_with theory.groups p ≡ Some group → atom_scope theory p vs ≡ Some tree → true_in v tree ≡ is_supported universe m group.sentences p vs
      scope_truth p vs group tree found e = test_cases (true_in v tree ≡ is_supported universe m group.sentences p vs) (is_effect p)
          (λ t.
          let there : Some (scope_of universe (read_by_number universe) group.sentences p vs) ≡ Some tree = sym (scope-effect theory p vs t ∙ ap (scope_in universe (read_by_number universe) p vs) found) ∙ e in
          let same : scope_of universe (read_by_number universe) group.sentences p vs ≡ tree = cc in
          ap (true_in v) (sym same) ∙ effect_truth p vs group t found)
          (λ t.
          let there : Some (scope_of universe (reading_of theory) group.sentences p vs) ≡ Some tree = sym (scope-other theory p vs t ∙ ap (scope_in universe (reading_of theory) p vs) found) ∙ e in
          let same : scope_of universe (reading_of theory) group.sentences p vs ≡ tree = cc in
          ap (true_in v) (sym same)
          ∙ true_in-scope_where universe m (reading_of theory) v (is_known theory.signature) reads any_predicate group.sentences p vs (group_known theory valid group (found_group p group (IsValidGroup theory.signature) theory.groups valid.groups found).0))

      abbrev True : Tree → Type 0
      True t = true_in v t ≡ true

      abbrev tree_of : Formula → Tree
      tree_of f = folded universe (reading_of theory) [] true f

      abbrev Known : Formula → Type 0
      Known f = only_has (is_known theory.signature) f ≡ true

      tree_truth : (f : Formula) → Known f → true_in v (tree_of f) ≡ truth universe m [] f
      tree_truth f known = true_in-folded_where universe m (reading_of theory) v (is_known theory.signature) reads [] true f known

      trees_true : (fs : List Formula) → All Known fs → list_all (truth universe m []) fs ≡ true → All True (map tree_of fs)
      trees_true [] known h = All-nil True
      trees_true (f ∷ fs) known h =
          let both = and_parts (truth universe m [] f) (list_all (truth universe m []) fs) h in
          All-cons True (tree_of f) (map tree_of fs) (tree_truth f (All-head Known f fs known) ∙ both.0) (trees_true fs (All-tail Known f fs known) both.1)

      formulas_true : (fs : List Formula) → All Known fs → All True (map tree_of fs) → list_all (truth universe m []) fs ≡ true
      formulas_true [] known h = refl
      formulas_true (f ∷ fs) known h =
          let first : truth universe m [] f ≡ true = sym (tree_truth f (All-head Known f fs known)) ∙ All-head True (tree_of f) (map tree_of fs) h in
          rw (first, formulas_true fs (All-tail Known f fs known) (All-tail True (tree_of f) (map tree_of fs) h)) refl

      -- ---- a completed model is a model of the trees

      both_true : (a b : Bool) → a ≡ true → b ≡ true → (a && b) ≡ true
      both_true a b e g = rw (e, g) refl

      all_asserted : IsCompletedModel theory m → list_all (truth universe m []) (asserted theory) ≡ true
      all_asserted completed =
          let test = truth universe m [] in
          let front : list_all test (theory.remaining ++ dec_axioms) ≡ true = list_all-append test theory.remaining dec_axioms ∙ both_true (list_all test theory.remaining) (list_all test dec_axioms) completed.remaining completed.axioms in
          list_all-append test (theory.remaining ++ dec_axioms) (release_axioms theory.signature) ∙ both_true (list_all test (theory.remaining ++ dec_axioms)) (list_all test (release_axioms theory.signature)) front completed.release

      defined : IsCompletedModel theory m → (p : ℕ) (vs : List ℤ) → All (Holds v) (definition_of (reading_of theory p vs) (atom_scope theory p vs))
      defined completed p vs = by_parts (reading_of theory p vs) refl (atom_scope theory p vs) refl
        where
          holds : (k : ℕ) (tree : Tree) → reading_of theory p vs ≡ numbered k → atom_scope theory p vs ≡ Some tree → v k ≡ true_in v tree
          holds k tree e h = group_of_atom theory p vs (v k ≡ true_in v tree) tree h
              (λ group found.
              let both = found_group p group (IsValidGroup theory.signature) theory.groups valid.groups found in
              let complete = found_completed p group universe m theory.groups completed.groups found in
              truths p k vs (grouped_below theory valid p group found) e ∙ (complete p vs both.1 ∙ sym (scope_truth p vs group tree found h)))

          by_parts : (leaf : Leaf) → reading_of theory p vs ≡ leaf → (o : Option Tree) → atom_scope theory p vs ≡ o → All (Holds v) (definition_of leaf o)
          by_parts (fixed b) e o h = All-nil (Holds v)
          by_parts (numbered k) e None h = All-nil (Holds v)
          by_parts (numbered k) e (Some tree) h = All-cons (Holds v) (record { atom = k; scope = tree }) [] (holds k tree e h) (All-nil (Holds v))

      ground_model : IsCompletedModel theory m → IsGroundModel theory v
      ground_model completed = record {
        sentences = trees_true (asserted theory) (asserted_known theory valid) (all_asserted completed);
        definitions = all_joined (Holds v) (λ (atom : GroundAtom). definition_of (reading_of theory atom.predicate atom.args) (atom_scope theory atom.predicate atom.args)) (λ atom. defined completed atom.predicate atom.args) (all_atoms universe);
      }

      -- ---- a model of the trees is a completed model

      module _ (tuples : All (SupportsTuples universe) theory.groups) (model : IsGroundModel theory v) where
        rank_there : (C : Type 0) (p : ℕ) (vs : List ℤ) (k : ℕ) → number_of universe p vs ≡ Some k → ((j : ℕ) → tuple_rank universe (row_of universe.predicates p) vs ≡ Some j → C) → C
        rank_there C p vs k h go = by_rank (tuple_rank universe (row_of universe.predicates p) vs) refl h
          where
            by_rank : (o : Option ℕ) → tuple_rank universe (row_of universe.predicates p) vs ≡ o → option_map (λ j. atoms_before universe (predicates_in_order universe) p + j) o ≡ Some k → C
            by_rank None e g = absurd cc
            by_rank (Some j) e g = go j e

        completed_at : (p : ℕ) (group : Group) → group_with theory.groups p ≡ Some group → (vs : List ℤ) → m p vs ≡ is_supported universe m group.sentences p vs
        completed_at p group found vs = by_number (number_of universe p vs) refl
          where
            unsupported : number_of universe p vs ≡ None → is_supported universe m group.sentences p vs ≡ false
            unsupported h = test_cases (is_supported universe m group.sentences p vs ≡ false) (is_supported universe m group.sentences p vs)
                (λ t.
                let both = found_group p group (SupportsTuples universe) theory.groups tuples found in
                let s = both.0 m p vs t in
                let n = has_number universe p vs s.1.0 s.1.1 in
                absurd cc)
                (λ t. t)

            predicate_known : p < length universe.predicates
            predicate_known = let below = grouped_below theory valid p group found in omega (arith, below, arguments_length theory.signature.predicates)

            as_literal : (k j : ℕ) → number_of universe p vs ≡ Some k → reading_of theory p vs ≡ numbered j → m p vs ≡ is_supported universe m group.sentences p vs
            as_literal k j h e = rank_there (m p vs ≡ is_supported universe m group.sentences p vs) p vs k h
                (λ i rank. scope_there theory p vs (m p vs ≡ is_supported universe m group.sentences p vs) group found
                (λ tree there.
                let A : GroundAtom → Type 0 = λ atom. All (Holds v) (definition_of (reading_of theory atom.predicate atom.args) (atom_scope theory atom.predicate atom.args)) in
                let each = all_parted (Holds v) (λ (atom : GroundAtom). definition_of (reading_of theory atom.predicate atom.args) (atom_scope theory atom.predicate atom.args)) (all_atoms universe) model.definitions in
                let here : All (Holds v) (definition_of (reading_of theory p vs) (atom_scope theory p vs)) = each_atom universe A each p vs i predicate_known rank in
                let B : Leaf → Type 0 = λ leaf. All (Holds v) (definition_of leaf (atom_scope theory p vs)) in
                let D : Option Tree → Type 0 = λ o. All (Holds v) (definition_of (numbered j) o) in
                let one = subst D there (subst B e here) in
                let holds : v j ≡ true_in v tree = All-head (Holds v) (record { atom = j; scope = tree }) [] one in
                sym (truths p j vs (grouped_below theory valid p group found) e) ∙ (holds ∙ scope_truth p vs group tree found there)))

            as_constant : (k : ℕ) (b : Bool) → number_of universe p vs ≡ Some k → reading_of theory p vs ≡ fixed b → m p vs ≡ is_supported universe m group.sentences p vs
            as_constant k b h e = test_cases (m p vs ≡ is_supported universe m group.sentences p vs) (is_effect p)
                (λ t. settled_cases (m p vs ≡ is_supported universe m group.sentences p vs) v (number_of universe p vs) (effect_scope theory p vs) b (λ none is. absurd cc)
                (λ tree is value. constants p vs b e ∙ (sym value ∙ scope_truth p vs group tree found (scope-effect theory p vs t ∙ is)))
                (sym (reading-effect theory p vs t) ∙ e))
                (λ t. plain_cases (m p vs ≡ is_supported universe m group.sentences p vs) (number_of universe p vs) b (λ none is. absurd cc) (sym (reading-other theory p vs t) ∙ e))

            by_leaf : (k : ℕ) → number_of universe p vs ≡ Some k → (leaf : Leaf) → reading_of theory p vs ≡ leaf → m p vs ≡ is_supported universe m group.sentences p vs
            by_leaf k h (fixed b) e = as_constant k b h e
            by_leaf k h (numbered j) e = as_literal k j h e

            by_number : (o : Option ℕ) → number_of universe p vs ≡ o → m p vs ≡ is_supported universe m group.sentences p vs
            by_number None h = outside p vs h ∙ sym (unsupported h)
            by_number (Some k) h = by_leaf k h (reading_of theory p vs) refl

        completed_model : IsCompletedModel theory m
        completed_model =
            let test = truth universe m [] in
            let all = formulas_true (asserted theory) (asserted_known theory valid) model.sentences in
            let parts = and_parts (list_all test (theory.remaining ++ dec_axioms)) (list_all test (release_axioms theory.signature)) (sym (list_all-append test (theory.remaining ++ dec_axioms) (release_axioms theory.signature)) ∙ all) in
            let front = and_parts (list_all test theory.remaining) (list_all test dec_axioms) (sym (list_all-append test theory.remaining dec_axioms) ∙ parts.0) in
            record {
              structure = structure;
              remaining = front.0;
              axioms = front.1;
              release = parts.1;
              groups = completed_each universe m theory.groups valid.disjoint completed_at;
            }

  pub gives_models : All (SupportsTuples universe) theory.groups → GivesModels theory
  gives_models tuples m v structure truths = (
    λ completed. let constants = constants_right m v structure truths completed in (constants, ground_model m v structure truths constants completed),
    λ both. completed_model m v structure truths both.0 tuples both.1,
  )
