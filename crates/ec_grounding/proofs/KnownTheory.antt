-- The predicates of a valid theory's sentences and axioms are the signature's.
use Rattle.std.proofs.Common.{◌≡◌, ℕ, ◌==◌, ◌<◌, true, List, [], ◌∷◌, ◌++◌, length, All, Some, subst}
use Rattle.std.specs.List.{list_all, list_any}
use Rattle.std.proofs.lemmas.List.Elements.{All-head, All-tail, All-append, All-weaker}
use Rattle.ec_logic.specs.Tree.{Formula}
use Rattle.ec_logic.specs.Axiom.{dec_axioms, release_axioms}
use Rattle.ec_logic.specs.Theory.{Group, Theory, is_in_group}
use Rattle.ec_logic.specs.Sorting.{IsWellSorted}
use Rattle.ec_logic.specs.ClauseTree.{any_predicate, is_free_of, only_has, is_clause}
use Rattle.ec_logic.specs.ValidTheory.{IsValidTheory, IsValidGroup, IsValidSentence, IsSentence}
use Rattle.ec_logic.proofs.Tests.{same_number, or_cases}
use Rattle.ec_logic.proofs.AxiomSentences.{dec_sentences, release_sentences}
use Rattle.ec_grounding.specs.Grounded.{group_with, asserted}
use Rattle.ec_grounding.proofs.Groups.{found_group}
use Rattle.ec_grounding.proofs.KnownPredicates.{is_known, known_predicates, known_sentences}

-- a predicate of a list has what each of it has
of_list : (P : ℕ → Type 0) (ps : List ℕ) (p : ℕ) → All P ps → list_any (λ q. q == p) ps ≡ true → P p
of_list P [] p h e = absurd cc
of_list P (q ∷ qs) p h e = or_cases (P p) (q == p) (list_any (λ r. r == p) qs) (λ t. subst P (same_number q p t) (All-head P q qs h)) (λ t. of_list P qs p (All-tail P q qs h) t) e

module _ (theory : Theory) (valid : IsValidTheory theory) where
  valid_sorted : (fs : List Formula) → All (IsValidSentence theory.signature) fs → All (IsWellSorted theory.signature []) fs
  valid_sorted fs h = All-weaker (IsValidSentence theory.signature) (IsWellSorted theory.signature []) (λ f s. s.sentence.well_sorted) fs h

  sentence_sorted : (fs : List Formula) → All (IsSentence theory.signature) fs → All (IsWellSorted theory.signature []) fs
  sentence_sorted fs h = All-weaker (IsSentence theory.signature) (IsWellSorted theory.signature []) (λ f s. s.well_sorted) fs h

  asserted_sorted : All (IsWellSorted theory.signature []) (asserted theory)
  asserted_sorted =
      All-append (IsWellSorted theory.signature []) (theory.remaining ++ dec_axioms) (release_axioms theory.signature)
      (All-append (IsWellSorted theory.signature []) theory.remaining dec_axioms (valid_sorted theory.remaining valid.remaining) (sentence_sorted dec_axioms (dec_sentences theory.signature valid.signature)))
      (sentence_sorted (release_axioms theory.signature) (release_sentences theory.signature valid.signature))

  pub asserted_known : All (λ f. only_has (is_known theory.signature) f ≡ true) (asserted theory)
  asserted_known = All-weaker (IsWellSorted theory.signature []) (λ f. only_has (is_known theory.signature) f ≡ true) (known_predicates theory.signature []) (asserted theory) asserted_sorted

  pub group_known : (group : Group) → IsValidGroup theory.signature group → list_all (is_clause any_predicate (only_has (is_known theory.signature))) group.sentences ≡ true
  group_known group h = known_sentences theory.signature (is_in_group group) (is_free_of group) group.sentences (valid_sorted group.sentences h.sentences) h.clause_form

  -- a predicate of a group
  pub grouped_below : (p : ℕ) (group : Group) → group_with theory.groups p ≡ Some group → p < length theory.signature.predicates
  grouped_below p group found =
      let both = found_group p group (IsValidGroup theory.signature) theory.groups valid.groups found in
      of_list (λ q. q < length theory.signature.predicates) group.predicates p both.0.predicates both.1
