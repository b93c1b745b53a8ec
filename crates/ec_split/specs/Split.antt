-- The theory of sentences and completion statements, or why there is none.
use Rattle.std.specs.Prelude.{ℕ, suc, ◌==◌, Bool, if◌then◌else◌, codes, List, [], ◌∷◌, map, filter, Option, None, Some, option_map, unwrap_or, slice_get, Result, Ok, Err}
use Rattle.std.specs.Option.{option_or, option_and_then}
use Rattle.ec_logic.specs.Tree.{Formula}
use Rattle.ec_logic.specs.Signature.{Signature}
use Rattle.ec_logic.specs.Valid.{symbol_names}
use Rattle.ec_logic.specs.ClauseTree.{is_clause, any_body}
use Rattle.ec_syntax.specs.declared.book.Refusal.{Refusal}
use Rattle.ec_theory.specs.declared.sorted.Labelled.{Labelled}
use Rattle.ec_theory.specs.declared.sorted.Wanted.{Wanted}
use Rattle.ec_theory.specs.declared.theory.Sentence.{Sentence}
use Rattle.ec_theory.specs.View.{formula_tree}
use Rattle.ec_split.specs.Groups.{Maker, effects, label, alone, Made, is_made_by, has_predicate, place, same_place, is_effect, groups_of, and_then}
use Rattle.ec_split.specs.Form.{Fault, no_clause, misplaced, clause_fault, first_head}
use Rattle.ec_split.specs.Parts.{GroupParts, Parts}

-- ---- the group of a sentence

-- the predicate of all heads of a clause tree
abbrev pub only_head : Formula → Option ℕ
only_head f = option_and_then (λ p. if is_clause (λ q. q == p) any_body f then Some p else None) (first_head f)

-- what makes the group of a clause tree without a label, by its heads: the effects, or the predicate that is alone
abbrev pub maker_by_heads : Formula → Option Maker
maker_by_heads f = if is_clause is_effect any_body f then Some effects else option_map alone (only_head f)

abbrev pub place_made_by : List Made → Maker → Option ℕ
place_made_by groups maker = place (is_made_by maker) groups

abbrev pub home_by_heads : List Made → Formula → Option ℕ
home_by_heads groups f = option_and_then (place_made_by groups) (maker_by_heads f)

abbrev pub home_by_label : List Made → Option (List ℕ) → Option ℕ
home_by_label groups None = None
home_by_label groups (Some name) = place_made_by groups (label name)

-- the place of a sentence's group: that of its label, where a completion names it, or else the one that its heads tell
abbrev pub home : List Made → Option (List ℕ) → Formula → Option ℕ
home groups name f = option_or (home_by_label groups name) (home_by_heads groups f)

abbrev pub home_of : List Made → Labelled → Option ℕ
home_of groups labelled = home groups labelled.label (formula_tree labelled.sentence.formula)

-- ---- its clause form

-- a predicate's name, where the names of all predicates are these
abbrev pub name_of : List (List ℕ) → ℕ → List ℕ
name_of names p = unwrap_or (slice_get names p) []

-- the label, or the predicate that isn't where it may be
abbrev pub fault_name : List (List ℕ) → Option (List ℕ) → Fault → List ℕ
fault_name names name no_clause = unwrap_or name []
fault_name names name (misplaced p) = name_of names p

-- 16: the sentence isn't a clause tree of the group
abbrev pub form_refusal : List (List ℕ) → Labelled → Fault → Refusal
form_refusal names labelled fault = record {
  code = 16;
  file = labelled.sentence.file;
  line = labelled.sentence.line;
  name = fault_name names labelled.label fault;
}

-- whether the group that has a predicate stands at a place
abbrev pub is_in : List Made → ℕ → ℕ → Bool
is_in groups k p = same_place (place (has_predicate p) groups) (Some k)

abbrev pub sentence_refusal : List (List ℕ) → List Made → Labelled → Option Refusal
sentence_refusal names groups labelled =
    option_and_then (λ k. option_map (form_refusal names labelled) (clause_fault (is_in groups k) (formula_tree labelled.sentence.formula))) (home_of groups labelled)

abbrev pub first_refusal : List (List ℕ) → List Made → List Labelled → Option Refusal
first_refusal names groups [] = None
first_refusal names groups (labelled ∷ rest) = option_or (sentence_refusal names groups labelled) (first_refusal names groups rest)

-- ---- the theory

-- the sentences of the group at a place, or of none, in book order
abbrev pub sentences_at : List Made → Option ℕ → List Labelled → List Sentence
sentences_at groups k labelled = map (λ (one : Labelled). one.sentence) (filter (λ one. same_place (home_of groups one) k) labelled)

abbrev pub group_name : List (List ℕ) → Maker → List ℕ
group_name names effects = codes "effect"
group_name names (label name) = name
group_name names (alone p) = name_of names p

-- the groups from a place on, with their sentences
abbrev pub filled_from : List (List ℕ) → List Made → List Labelled → ℕ → List Made → List GroupParts
filled_from names groups labelled k [] = []
filled_from names groups labelled k (group ∷ rest) =
    record { name = group_name names group.maker; predicates = group.predicates; sentences = sentences_at groups (Some k) labelled }
    ∷ filled_from names groups labelled (suc k) rest

abbrev pub parts_with : Signature → List Made → List Labelled → Parts
parts_with signature groups labelled = record {
  signature = signature;
  remaining = sentences_at groups None labelled;
  groups = filled_from (symbol_names signature.predicates) groups labelled 0 groups;
}

abbrev pub unless : {A E : Type 0} → Option E → A → Result A E
unless None a = Ok a
unless (Some e) a = Err e

-- the theory, or the first fault: of the completion statements in book order, then of the sentences in book order
abbrev pub split_of : Signature → List Labelled → List Wanted → Result Parts Refusal
split_of signature labelled wanted =
    let names = symbol_names signature.predicates in
    and_then (groups_of names wanted) (λ groups. unless (first_refusal names groups labelled) (parts_with signature groups labelled))
