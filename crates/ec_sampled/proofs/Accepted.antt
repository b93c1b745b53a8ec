-- The book of a sample is accepted: its declarations and sentences have no fault, its groups no other fault, and it is within all limits.
use Rattle.std.proofs.Common.{◌≡◌, ◌≤◌, ℕ, zero, suc, ◌+◌, pos, codes, List, [], ◌∷◌, length, map, Option, Some, None, Result, Ok, Err, Contains, refl, sym, ap, subst, ◌∙◌, arith}
use Rattle.std.specs.Option.{option_and_then, option_or}
use Rattle.std.specs.Prelude.{option_map}
use Rattle.ec_accept.proofs.One.{accepted_one}
use Rattle.ec_accept.specs.Accepted.{HasFiles, IsAccepted, said, fits, IsSaid, sorted, split}
use Rattle.ec_load.specs.Book.{IsBook}
use Rattle.ec_logic.specs.Signature.{event_sort, time_sort, holds_at, happens, initiates}
use Rattle.ec_logic.specs.Theory as logic
use Rattle.ec_logic.specs.Tree as tree
use Rattle.ec_logic.specs.Valid.{symbol_names}
use Rattle.ec_logic.specs.ValidTheory.{effect_predicates}
use Rattle.ec_sort.specs.Answers.{IsSorted}
use Rattle.ec_sort.specs.Books.{labelled_tree}
use Rattle.ec_split.specs.Form.{clause_fault}
use Rattle.ec_split.specs.Groups.{Made, effect_group}
use Rattle.ec_split.specs.Parts.{Parts, parts_of}
use Rattle.ec_split.specs.Split.{first_refusal, form_refusal, home, home_of, is_in, sentence_refusal, sentences_at, split_of, unless}
use Rattle.ec_syntax.specs.declared.book.Refusal.{Refusal}
use Rattle.ec_theory.specs.declared.sorted.Labelled.{Labelled}
use Rattle.ec_theory.specs.declared.sorted.Sorted.{Sorted}
use Rattle.ec_theory.specs.declared.theory.Group.{Group}
use Rattle.ec_theory.specs.declared.theory.Sentence.{Sentence}
use Rattle.ec_theory.specs.declared.theory.Theory.{Theory}
use Rattle.ec_theory.specs.Theories.{sentence_trees, theory_of}
use Rattle.ec_sampled.specs.Book.{sample_file, sample_book}
use Rattle.ec_sampled.specs.Theory.{step_sort, sample_signature, sample_theory, effect, start, once, order, single, end, remaining}
use Rattle.ec_sampled.proofs.Dealt.{picked, sentences_picked}
use Rattle.ec_sampled.proofs.Faults.{sample_faultless}
use Rattle.ec_sampled.proofs.Size.{sample_has_few, sample_is_light}
use Rattle.ec_sampled.proofs.Declared.{same_signature, same_sentences, none_wanted, said_at, sample_sentences}
use Rattle.ec_sampled.proofs.Values.{HasFormula, vec_of, variable, int, event, fluent, sum, one, two, three, atom, equal, negation, both, implies, for_all}

-- ---- values for the sentences

has_effect : HasFormula effect
has_effect = for_all step_sort (for_all time_sort (atom initiates (three (event 0 (one (variable 1))) (fluent 0 (one (variable 1))) (variable 0))))

has_start : HasFormula start
has_start = for_all step_sort (negation (atom holds_at (two (fluent 0 (one (variable 0))) (int (pos 0)))))

has_once : HasFormula once
has_once = for_all step_sort (for_all time_sort (implies (atom happens (two (event 0 (one (variable 1))) (variable 0))) (negation (atom holds_at (two (fluent 0 (one (variable 1))) (variable 0))))))

has_order : HasFormula order
has_order = for_all step_sort (for_all time_sort (implies (atom happens (two (event 0 (one (sum (variable 1) (int (pos 1))))) (variable 0))) (atom holds_at (two (fluent 0 (one (variable 1))) (variable 0)))))

has_single : HasFormula single
has_single =
    for_all event_sort (for_all event_sort (for_all time_sort
    (implies (both (atom happens (two (variable 2) (variable 0))) (atom happens (two (variable 1) (variable 0)))) (equal (variable 2) (variable 1)))))

has_end : (n : ℕ) → HasFormula (end n)
has_end n = for_all step_sort (atom holds_at (two (fluent 0 (one (variable 0))) (int (pos (n + 1)))))

-- a sentence on a line of the sample
abbrev labelled_at : ℕ → {f : tree.Formula} → HasFormula f → Labelled
labelled_at line f = record { label = None; sentence = record { file = sample_file; line = line; formula = f.formula } }

tree_at : (line : ℕ) {f : tree.Formula} (has : HasFormula f) → labelled_tree (labelled_at line has) ≡ said_at line f
tree_at line has = ap (said_at line) has.is

next : {A : Type 0} {a b : A} {xs ys : List A} → a ≡ b → xs ≡ ys → a ∷ xs ≡ b ∷ ys
next {a = a} {ys = ys} e es = ap (λ zs. a ∷ zs) es ∙ ap (λ c. c ∷ ys) e

-- ---- the book is sorted

abbrev sentences : ℕ → List Labelled
sentences n =
    labelled_at 6 has_effect ∷ labelled_at 7 has_start ∷ labelled_at 8 has_once ∷ labelled_at 9 has_order ∷ labelled_at 10 has_single ∷ labelled_at 11 (has_end n) ∷ []

abbrev found : ℕ → Sorted
found n = record { signature = sample_signature n; labelled = vec_of (sentences n) (omega arith); wanted = vec_of [] (omega arith) }

trees_of_sentences : (n : ℕ) → map labelled_tree (sentences n) ≡ sample_sentences n
trees_of_sentences n = next (tree_at 6 has_effect) (next (tree_at 7 has_start) (next (tree_at 8 has_once) (next (tree_at 9 has_order) (next (tree_at 10 has_single) (next (tree_at 11 (has_end n)) refl)))))

is_sorted : (n : ℕ) → 1 ≤ n → n ≤ 40 → IsSorted (sample_book n) (found n)
is_sorted n low high = record {
  faultless = sample_faultless n low high;
  signature = sym (same_signature n);
  labelled = trees_of_sentences n ∙ sym (same_sentences n);
  wanted = sym (none_wanted n);
}

-- ---- its sentences are split

abbrev groups : List Made
groups = effect_group ∷ []

abbrev names : List (List ℕ)
names = symbol_names (sample_signature 0).predicates

home_at : (line : ℕ) {f : tree.Formula} (has : HasFormula f) → home_of groups (labelled_at line has) ≡ home groups None f
home_at line has = ap (home groups None) has.is

homes : (n : ℕ) → map (home_of groups) (sentences n) ≡ Some 0 ∷ None ∷ None ∷ None ∷ None ∷ None ∷ []
homes n = next (home_at 6 has_effect) (next (home_at 7 has_start) (next (home_at 8 has_once) (next (home_at 9 has_order) (next (home_at 10 has_single) (next (home_at 11 (has_end n)) refl)))))

abbrev refusal_of : Labelled → tree.Formula → Option Refusal
refusal_of labelled f = option_and_then (λ k. option_map (form_refusal names labelled) (clause_fault (is_in groups k) f)) (home groups None f)

refusal_at : (line : ℕ) {f : tree.Formula} (has : HasFormula f) → sentence_refusal names groups (labelled_at line has) ≡ refusal_of (labelled_at line has) f
refusal_at line has = ap (refusal_of (labelled_at line has)) has.is

neither : {a b : Option Refusal} → a ≡ None → b ≡ None → option_or a b ≡ None
neither {b = b} e f = ap (λ o. option_or o b) e ∙ f

none_refused : (n : ℕ) → first_refusal names groups (sentences n) ≡ None
none_refused n =
    neither (refusal_at 6 has_effect) (neither (refusal_at 7 has_start) (neither (refusal_at 8 has_once) (neither (refusal_at 9 has_order) (neither (refusal_at 10 has_single) (neither (refusal_at 11 (has_end n)) refl)))))

-- ---- its theory

abbrev sentence_at : ℕ → {f : tree.Formula} → HasFormula f → Sentence
sentence_at line f = (labelled_at line f).sentence

abbrev others : ℕ → List Sentence
others n = sentence_at 7 has_start ∷ sentence_at 8 has_once ∷ sentence_at 9 has_order ∷ sentence_at 10 has_single ∷ sentence_at 11 (has_end n) ∷ []

abbrev effects : Group
effects = record { name = codes "effect"; predicates = vec_of effect_predicates (omega arith); sentences = vec_of (sentence_at 6 has_effect ∷ []) (omega arith) }

abbrev whole : ℕ → Theory
whole n = record { signature = sample_signature n; remaining = vec_of (others n) (omega arith); groups = vec_of (effects ∷ []) (omega arith) }

remaining_picked : (n : ℕ) → sentences_at groups None (sentences n) ≡ others n
remaining_picked n = sentences_picked groups None (sentences n) ∙ ap (λ places. picked None places (sentences n)) (homes n)

effects_picked : (n : ℕ) → sentences_at groups (Some 0) (sentences n) ≡ sentence_at 6 has_effect ∷ []
effects_picked n = sentences_picked groups (Some 0) (sentences n) ∙ ap (λ places. picked (Some 0) places (sentences n)) (homes n)

abbrev parts_with : ℕ → List Sentence → List Sentence → Parts
parts_with n remaining effects = record { signature = sample_signature n; remaining = remaining; groups = record { name = codes "effect"; predicates = effect_predicates; sentences = effects } ∷ [] }

is_split : (n : ℕ) → split_of (found n).signature (found n).labelled.items (found n).wanted.items ≡ Ok (parts_of (whole n))
is_split n =
    ap (λ o. unless o (parts_with n (sentences_at groups None (sentences n)) (sentences_at groups (Some 0) (sentences n)))) (none_refused n)
    ∙ (ap (λ ss. Ok (parts_with n ss (sentences_at groups (Some 0) (sentences n)))) (remaining_picked n) ∙ ap (λ ss. Ok (parts_with n (others n) ss)) (effects_picked n))

abbrev theory_with : ℕ → List tree.Formula → List tree.Formula → logic.Theory
theory_with n remaining effects = record { signature = sample_signature n; remaining = remaining; groups = record { predicates = effect_predicates; sentences = effects } ∷ [] }

other_trees : (n : ℕ) → sentence_trees (others n) ≡ remaining n
other_trees n = next has_start.is (next has_once.is (next has_order.is (next has_single.is (next (has_end n).is refl))))

is_theory : (n : ℕ) → theory_of (whole n) ≡ sample_theory n
is_theory n = ap (λ fs. theory_with n fs (sentence_trees (sentence_at 6 has_effect ∷ []))) (other_trees n) ∙ ap (λ f. theory_with n (remaining n) (f ∷ [])) has_effect.is

is_said : (n : ℕ) → 1 ≤ n → n ≤ 40 → IsSaid (sample_book n) (Ok (sample_theory n))
is_said n low high = subst (λ t. IsSaid (sample_book n) (Ok t)) (is_theory n) (sorted (found n) (is_sorted n low high) (split (whole n) (is_split n)))

-- ---- it is accepted

-- the log of a sample is none of its files
pub sample_log_apart : Contains (sample_file ∷ []) (codes "sample.log") → ⊥
sample_log_apart (zero, l, e) = let lengths : 8 ≡ 10 = ap length e in absurd (omega (arith, lengths))
sample_log_apart (suc k, l, e) = absurd (omega (arith, l))

module _ (held : List ℕ → Option (List ℕ)) (n : ℕ) (low : 1 ≤ n) (high : n ≤ 40) (is : IsBook held sample_file (Ok (sample_book n))) where
  pub sample_is_accepted : IsAccepted held sample_file (Ok (sample_theory n))
  sample_is_accepted = said (sample_book n) (sample_theory n) is (is_said n low high) (fits (sample_has_few n low high) (sample_is_light n low high))

  -- and comes to nothing else
  pub sample_answer : {answer : Result logic.Theory Refusal} → IsAccepted held sample_file answer → answer ≡ Ok (sample_theory n)
  sample_answer other = accepted_one held sample_file other sample_is_accepted

  pub sample_unrefused : {refusal : Refusal} → IsAccepted held sample_file (Err refusal) → ⊥
  sample_unrefused other = let same = sample_answer other in cc

  pub sample_files : HasFiles held sample_file (sample_file ∷ [])
  sample_files = record { book = sample_book n; is = is; are = refl }
