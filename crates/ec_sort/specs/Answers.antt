-- What `check` answers.
use Rattle.std.specs.Prelude.{ℕ, ◌≡◌, ◌<◌, ◌^◌, List, ◌++◌, length, map, Option, Some, None, Result, Ok, Err, All}
use Rattle.ec_logic.specs.ValidTheory.{IsValidSentence}
use Rattle.ec_names.specs.Names.{Names, names_of}
use Rattle.ec_declare.specs.Signatures.{signature_of}
use Rattle.ec_syntax.specs.declared.book.Refusal.{Refusal}
use Rattle.ec_syntax.specs.Written as w
use Rattle.ec_theory.specs.View.{formula_tree}
use Rattle.ec_theory.specs.declared.sorted.Labelled.{Labelled}
use Rattle.ec_theory.specs.declared.sorted.Sorted.{Sorted}
use Rattle.ec_sort.specs.declared.fault.SortFault.{SortFault}
use Rattle.ec_sort.specs.declared.fault.SortFault.TheVariants.{Refused, Memory}
use Rattle.ec_sort.specs.declared.checking.Outcome.{Outcome}
use Rattle.ec_sort.specs.declared.checking.Outcome.TheVariants as outcome
use Rattle.ec_sort.specs.declared.gathering.Gathered.{Gathered}
use Rattle.ec_sort.specs.declared.gathering.Gathering.{Gathering}
use Rattle.ec_sort.specs.declared.gathering.Gathering.TheVariants as gathering
use Rattle.ec_sort.specs.Books.{content_refusal, first_refusal, labelled_tree, sentences_in, sentences_of, wanted_in, wanted_of}

abbrev pub book_names : w.Book → Names
book_names book = names_of book.statements

abbrev pub book_refusal : w.Book → Option Refusal
book_refusal book = first_refusal (book_names book) book.files book.statements

-- A book without a fault has this signature, these sentences and these completion statements.
pub record IsSorted (book : w.Book) (sorted : Sorted) : Type 0 where
  pub faultless : book_refusal book ≡ None
  pub signature : sorted.signature ≡ signature_of (book_names book)
  pub labelled : map labelled_tree sorted.labelled.items ≡ sentences_of (book_names book) book.files book.statements
  pub wanted : sorted.wanted.items ≡ wanted_of book.files book.statements

-- Sentences are valid, and there aren't too many sentences and completion statements to be split into groups.
pub record CanBeSplit (sorted : Sorted) : Type 0 where
  pub sentences : All (λ (one : Labelled). IsValidSentence sorted.signature (formula_tree one.sentence.formula)) sorted.labelled.items
  pub few_sentences : length sorted.labelled.items < 2 ^ 31
  pub few_statements : length sorted.wanted.items < 2 ^ 31

-- Refused is the first fault.
abbrev pub IsChecked : w.Book → Result Sorted SortFault → Type 0
IsChecked book (Ok sorted) = IsSorted book sorted
IsChecked book (Err (Refused refusal)) = book_refusal book ≡ Some refusal
IsChecked book (Err Memory) = Unit {0}

-- ---- on the way

abbrev pub sentences : Gathered → List Labelled
sentences gathered = gathered.labelled.items

-- A statement is taken, or refused.
abbrev pub IsTaken : Names → List ℕ → ℕ → w.Content → Gathered → Gathered → Option Refusal → Type 0
IsTaken names file line content old new None =
    (content_refusal names file line content ≡ None)
    × (map labelled_tree new.labelled.items ≡ map labelled_tree old.labelled.items ++ sentences_in names file line content)
    × (new.wanted.items ≡ old.wanted.items ++ wanted_in file line content)
IsTaken names file line content old new (Some refusal) = content_refusal names file line content ≡ Some refusal

-- All statements are taken, or the first that is refused.
abbrev pub IsGathered : Names → List (List ℕ) → List w.Placed → Gathering → Type 0
IsGathered names files statements (gathering.Whole gathered) =
    (first_refusal names files statements ≡ None)
    × (map labelled_tree gathered.labelled.items ≡ sentences_of names files statements)
    × (gathered.wanted.items ≡ wanted_of files statements)
IsGathered names files statements (gathering.Refused refusal) = first_refusal names files statements ≡ Some refusal

-- The signature of the names, beside these sentences and completion statements.
pub record IsPutTogether (names : Names) (gathered : Gathered) (sorted : Sorted) : Type 0 where
  pub signature : sorted.signature ≡ signature_of names
  pub labelled : sorted.labelled ≡ gathered.labelled
  pub wanted : sorted.wanted ≡ gathered.wanted

-- A book is sorted, or refused for its first fault.
abbrev pub IsOutcome : w.Book → Outcome → Type 0
IsOutcome book (outcome.Sorted sorted) = IsSorted book sorted × CanBeSplit sorted
IsOutcome book (outcome.Refused refusal) = book_refusal book ≡ Some refusal
