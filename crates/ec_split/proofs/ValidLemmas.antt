-- What is split is a valid theory.
use Rattle.std.proofs.Common.{◌≡◌, ◌∙◌, ◌<◌, ◌≤◌, ◌+◌, ◌^◌, ◌&&◌, ℕ, suc, Bool, true, not, List, [], ◌∷◌, length, map, filter, All, Option, None, Some, option_map, slice_get, refl, sym, ap, subst, arith}
use mathlib.Core.Path.{fun_ext}
use Rattle.std.specs.Option.{option_and_then}
use Rattle.std.specs.List.{AllPairs, list_all}
use Rattle.std.proofs.lemmas.Bool.{eqb-true}
use Rattle.std.proofs.lemmas.List.{length-map}
use Rattle.std.proofs.lemmas.List.Elements.{All-map, All-filter, All-cons, All-nil}
use Rattle.std.proofs.lemmas.List.Kept.{AllPairs-cons}
use Rattle.ec_logic.specs.Tree.{Formula}
use Rattle.ec_logic.specs.Signature.{Signature}
use Rattle.ec_logic.specs.Theory as logic
use Rattle.ec_logic.specs.Theory.{is_in_group}
use Rattle.ec_logic.specs.ClauseTree.{is_clause, only_has}
use Rattle.ec_logic.specs.Valid.{IsSignature, symbol_names}
use Rattle.ec_logic.specs.ValidTheory.{IsValidSentence, AreValidSentences, IsValidGroup, IsValidTheory, BeginsWithEffects, AreDisjoint}
use Rattle.ec_theory.specs.declared.sorted.Labelled.{Labelled}
use Rattle.ec_theory.specs.declared.theory.Sentence.{Sentence}
use Rattle.ec_theory.specs.declared.theory.Group.{Group}
use Rattle.ec_theory.specs.declared.theory.Theory.{Theory}
use Rattle.ec_theory.specs.Theories.{group_of, sentence_trees, theory_of}
use Rattle.ec_theory.specs.View.{formula_tree}
use Rattle.ec_split.specs.Groups.{Made, has_predicate, place, same_place}
use Rattle.ec_split.specs.Form.{clause_fault}
use Rattle.ec_split.specs.Parts.{GroupParts, group_parts}
use Rattle.ec_split.specs.Split.{home_of, is_in, form_refusal, sentence_refusal, first_refusal, group_name, sentences_at, filled_from}
use Rattle.ec_split.proofs.PlaceLemmas.{by_test, place_none_first, place_none_later}
use Rattle.ec_split.proofs.FormLemmas.{both_none, fine}
use Rattle.ec_split.proofs.SoundLemmas.{IsApart, AreKnown, BeginsSo, IsSound, is_in_is}

abbrev tree_of : Labelled → Formula
tree_of one = formula_tree one.sentence.formula

-- the group that parts stand for
abbrev pub group_with : GroupParts → logic.Group
group_with parts = record { predicates = parts.predicates; sentences = sentence_trees parts.sentences }

-- ---- sentences

pub sentences_valid : (signature : Signature) (all : List Made) (k : Option ℕ) (labelled : List Labelled) → All (λ one. IsValidSentence signature (tree_of one)) labelled → AreValidSentences signature (sentence_trees (sentences_at all k labelled))
sentences_valid signature all k labelled h =
    let test = λ (one : Labelled). same_place (home_of all one) k in
    let V = IsValidSentence signature in
    let S : Sentence → Type 0 = λ s. V (formula_tree s.formula) in
    let kept = All-filter test (λ one. V (tree_of one)) labelled h in
    All-map V (λ (s : Sentence). formula_tree s.formula) (sentences_at all k labelled) (All-map S (λ (one : Labelled). one.sentence) (filter test labelled) kept)

filter_length : {A : Type 0} (test : A → Bool) (xs : List A) → length (filter test xs) ≤ length xs
filter_length test [] = omega arith
filter_length test (x ∷ xs) = by_test (length (filter test (x ∷ xs)) ≤ length (x ∷ xs)) (test x) (λ e. rw e (omega (arith, filter_length test xs))) (λ e. rw e (omega (arith, filter_length test xs)))

pub sentences_length : (all : List Made) (k : Option ℕ) (labelled : List Labelled) → length (sentence_trees (sentences_at all k labelled)) ≤ length labelled
sentences_length all k labelled =
    let test = λ (one : Labelled). same_place (home_of all one) k in
    omega (arith, length-map (sentences_at all k labelled) (λ (s : Sentence). formula_tree s.formula), length-map (filter test labelled) (λ (one : Labelled). one.sentence), filter_length test labelled)

-- ---- clause form

same_some : (o : Option ℕ) (k : ℕ) → same_place o (Some k) ≡ true → o ≡ Some k
same_some None k h = cc
same_some (Some j) k h = ap Some (eqb-true j k h)

unmapped : {A B : Type 0} (f : A → B) (o : Option A) → option_map f o ≡ None → o ≡ None
unmapped f None h = refl
unmapped f (Some a) h = cc

no_fault : (names : List (List ℕ)) (all : List Made) (one : Labelled) (k : ℕ) → home_of all one ≡ Some k → sentence_refusal names all one ≡ None → clause_fault (is_in all k) (tree_of one) ≡ None
no_fault names all one k e h =
    unmapped (form_refusal names one) (clause_fault (is_in all k) (tree_of one))
    (ap (λ o. option_and_then (λ (j : ℕ). option_map (form_refusal names one) (clause_fault (is_in all j) (tree_of one))) o) (sym e) ∙ h)

and_both : (a b : Bool) → a ≡ true → b ≡ true → (a && b) ≡ true
and_both a b e f = rw (e, f) refl

module _ (names : List (List ℕ)) (all : List Made) (k : ℕ) (group : Made) (apart : IsApart all) (at : slice_get all k ≡ Some group) where
  tests_same : is_in all k ≡ (λ p. has_predicate p group)
  tests_same = fun_ext (λ p. is_in_is p all k group apart at)

  each_clause : (labelled : List Labelled) → first_refusal names all labelled ≡ None → list_all (is_clause (λ p. has_predicate p group) (only_has (λ p. not (has_predicate p group)))) (sentence_trees (sentences_at all (Some k) labelled)) ≡ true
  each_clause [] h = refl
  each_clause (one ∷ labelled) h =
      let parts = both_none (sentence_refusal names all one) (first_refusal names all labelled) h in
      let T : (ℕ → Bool) → Type 0 = λ test. is_clause test (only_has (λ p. not (test p))) (tree_of one) ≡ true in
      let rest = each_clause labelled parts.1 in
      by_test (list_all (is_clause (λ p. has_predicate p group) (only_has (λ p. not (has_predicate p group)))) (sentence_trees (sentences_at all (Some k) (one ∷ labelled))) ≡ true) (same_place (home_of all one) (Some k))
      (λ e.
      let clause = subst T tests_same (fine (is_in all k) (tree_of one) (no_fault names all one k (same_some (home_of all one) k e) parts.0)) in
      rw e (and_both _ _ clause rest))
      (λ e. rw e rest)

-- ---- groups

module _ (signature : Signature) (names : List (List ℕ)) (all : List Made) (labelled : List Labelled) (valid : All (λ one. IsValidSentence signature (tree_of one)) labelled) (apart : IsApart all) (fits : first_refusal names all labelled ≡ None) where
  groups_valid : (k : ℕ) (groups : List Made) → ((i : ℕ) (group : Made) → slice_get groups i ≡ Some group → slice_get all (k + i) ≡ Some group) → AreKnown (length signature.predicates) groups → All (IsValidGroup signature) (map group_with (filled_from names all labelled k groups))
  groups_valid k [] at known = All-nil (IsValidGroup signature)
  groups_valid k (group ∷ groups) at known =
      let here : slice_get all k ≡ Some group = let e : k + 0 ≡ k = omega arith in ap (slice_get all) (sym e) ∙ at 0 group refl in
      let first : IsValidGroup signature (group_with (record { name = group_name names group.maker; predicates = group.predicates; sentences = sentences_at all (Some k) labelled })) = record {
        predicates = known.0;
        sentences = sentences_valid signature all (Some k) labelled valid;
        clause_form = each_clause names all k group apart here labelled fits;
      } in
      let rest = groups_valid (suc k) groups (λ i g e. let f : suc k + i ≡ k + suc i = omega arith in ap (slice_get all) f ∙ at (suc i) g e) known.1 in
      All-cons (IsValidGroup signature) _ _ first rest

module _ (names : List (List ℕ)) (all : List Made) (labelled : List Labelled) where
  disjoint_from : (group : Made) (sentences : List Formula) (k : ℕ) (groups : List Made) → ((p : ℕ) → has_predicate p group ≡ true → place (has_predicate p) groups ≡ None) → All (AreDisjoint (record { predicates = group.predicates; sentences = sentences })) (map group_with (filled_from names all labelled k groups))
  disjoint_from group sentences k [] h = All-nil (AreDisjoint (record { predicates = group.predicates; sentences = sentences }))
  disjoint_from group sentences k (g ∷ groups) h =
      All-cons (AreDisjoint (record { predicates = group.predicates; sentences = sentences })) _ _ (λ p e. place_none_first (has_predicate p) g groups (h p e))
      (disjoint_from group sentences (suc k) groups (λ p e. place_none_later (has_predicate p) g groups (h p e)))

  all_disjoint : (k : ℕ) (groups : List Made) → IsApart groups → AllPairs AreDisjoint (map group_with (filled_from names all labelled k groups))
  all_disjoint k [] a = λ i j d l m. absurd (omega (arith, m))
  all_disjoint k (group ∷ groups) a = AllPairs-cons AreDisjoint _ _ (disjoint_from group (sentence_trees (sentences_at all (Some k) labelled)) (suc k) groups a.0) (all_disjoint (suc k) groups a.1)

  begins_with : (k : ℕ) (groups : List Made) → BeginsSo groups → BeginsWithEffects (map group_with (filled_from names all labelled k groups))
  begins_with k [] b = b
  begins_with k (group ∷ groups) b = b.1

  filled_length : (k : ℕ) (groups : List Made) → length (map group_with (filled_from names all labelled k groups)) ≡ length groups
  filled_length k [] = refl
  filled_length k (group ∷ groups) = ap suc (filled_length (suc k) groups)

-- ---- the theory

with_parts : (groups : List Group) → map group_of groups ≡ map group_with (map group_parts groups)
with_parts [] = refl
with_parts (group ∷ groups) = ap (λ gs. group_of group ∷ gs) (with_parts groups)

pub split_valid : (theory : Theory) (all : List Made) (labelled : List Labelled) → IsSignature theory.signature → All (λ one. IsValidSentence theory.signature (tree_of one)) labelled → length labelled < 2 ^ 31 → length all < 2 ^ 32 → IsSound (length theory.signature.predicates) all → first_refusal (symbol_names theory.signature.predicates) all labelled ≡ None → theory.remaining.items ≡ sentences_at all None labelled → map group_parts theory.groups.items ≡ filled_from (symbol_names theory.signature.predicates) all labelled 0 all → IsValidTheory (theory_of theory)
split_valid theory all labelled signature valid few many sound fits remaining groups =
    let names = symbol_names theory.signature.predicates in
    let same = with_parts theory.groups.items ∙ ap (map group_with) groups in
    let R : List Sentence → Type 0 = λ ss. AreValidSentences theory.signature (sentence_trees ss) in
    let G : List logic.Group → Type 0 = λ gs. All (IsValidGroup theory.signature) gs in
    record {
      signature = signature;
      remaining = subst R (sym remaining) (sentences_valid theory.signature all None labelled valid);
      groups = subst G (sym same) (groups_valid theory.signature names all labelled valid sound.apart fits 0 all (λ i g e. let f : 0 + i ≡ i = omega arith in ap (slice_get all) f ∙ e) sound.known);
      effects_first = subst BeginsWithEffects (sym same) (begins_with names all labelled 0 all sound.begins);
      disjoint = subst (AllPairs AreDisjoint) (sym same) (all_disjoint names all labelled 0 all sound.apart);
      few_remaining = omega (arith, few, ap (λ ss. length (sentence_trees ss)) remaining, sentences_length all None labelled);
      few_groups = omega (arith, many, ap length same, filled_length names all labelled 0 all);
    }
