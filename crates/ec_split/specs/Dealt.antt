-- Sentences that are dealt out to the groups one after another.
use Rattle.std.specs.Prelude.{ℕ, zero, suc, ◌≡◌, ◌==◌, Bool, List, [], ◌∷◌, ◌++◌, map, Option, None, Some, Result, Ok, Err}
use Rattle.ec_theory.specs.declared.sorted.Labelled.{Labelled}
use Rattle.ec_theory.specs.declared.theory.Sentence.{Sentence}
use Rattle.ec_split.specs.declared.fault.SplitFault.{SplitFault}
use Rattle.ec_split.specs.declared.fault.SplitFault.TheVariants.{Refused, Memory}
use Rattle.ec_split.specs.declared.form.FormFault.{FormFault}
use Rattle.ec_split.specs.declared.form.FormFault.TheVariants.{NoClause, Misplaced}
use Rattle.ec_split.specs.declared.heads.Heads.{Heads}
use Rattle.ec_split.specs.declared.heads.Heads.TheVariants.{Effects, Only}
use Rattle.ec_split.specs.declared.shares.Shares.{Shares}
use Rattle.ec_split.specs.Groups.{Made, is_effect}
use Rattle.ec_split.specs.Form.{Fault, no_clause, misplaced}
use Rattle.ec_split.specs.Parts.{GroupParts, group_parts}
use Rattle.ec_split.specs.Split.{home_of, sentence_refusal, first_refusal, group_name, sentences_at, filled_from}

abbrev pub fault_of : FormFault → Fault
fault_of NoClause = no_clause
fault_of (Misplaced p) = misplaced p

-- which predicates these heads may have
abbrev pub is_head : Heads → ℕ → Bool
is_head Effects p = is_effect p
is_head (Only q) p = p == q

-- a group that has no sentence yet
abbrev pub empty_parts : List (List ℕ) → Made → GroupParts
empty_parts names group = record { name = group_name names group.maker; predicates = group.predicates; sentences = [] }

-- the sentences of no group, once one with this place is dealt
abbrev pub dealt_remaining : Option ℕ → Sentence → List Sentence → List Sentence
dealt_remaining None sentence sentences = sentences ++ sentence ∷ []
dealt_remaining (Some k) sentence sentences = sentences

abbrev pub dealt_at : ℕ → Sentence → List GroupParts → List GroupParts
dealt_at k sentence [] = []
dealt_at zero sentence (group ∷ groups) = record { name = group.name; predicates = group.predicates; sentences = group.sentences ++ sentence ∷ [] } ∷ groups
dealt_at (suc k) sentence (group ∷ groups) = group ∷ dealt_at k sentence groups

-- the groups once a sentence with this place is dealt
abbrev pub dealt : Option ℕ → Sentence → List GroupParts → List GroupParts
dealt None sentence groups = groups
dealt (Some k) sentence groups = dealt_at k sentence groups

abbrev pub parts_in : Shares → List GroupParts
parts_in shares = map group_parts shares.groups.items

-- The shares after a sentence, by the answer.
abbrev pub IsDealt : List (List ℕ) → List Made → Labelled → Shares → Shares → Result Unit SplitFault → Type 0
IsDealt names groups labelled old new (Ok done) =
    (sentence_refusal names groups labelled ≡ None)
    × (new.remaining.items ≡ dealt_remaining (home_of groups labelled) labelled.sentence old.remaining.items)
    × (parts_in new ≡ dealt (home_of groups labelled) labelled.sentence (parts_in old))
IsDealt names groups labelled old new (Err (Refused refusal)) = sentence_refusal names groups labelled ≡ Some refusal
IsDealt names groups labelled old new (Err Memory) = Unit {0}

-- The shares of all sentences, by the answer.
abbrev pub AreDealt : List (List ℕ) → List Made → List Labelled → Result Shares SplitFault → Type 0
AreDealt names groups labelled (Ok shares) =
    (first_refusal names groups labelled ≡ None) × (shares.remaining.items ≡ sentences_at groups None labelled) × (parts_in shares ≡ filled_from names groups labelled 0 groups)
AreDealt names groups labelled (Err (Refused refusal)) = first_refusal names groups labelled ≡ Some refusal
AreDealt names groups labelled (Err Memory) = Unit {0}
