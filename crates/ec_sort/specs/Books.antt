-- The first refusal of a book, and the sentences and completion statements of one that has none.
use Rattle.std.specs.Prelude.{ℕ, ◌≡◌, ◌<◌, ◌^◌, true, List, [], ◌∷◌, ◌++◌, length, Option, None, option_map, slice_get, unwrap_or, All}
use Rattle.std.specs.Option.{option_or}
use Rattle.std.specs.List.{list_all}
use Rattle.ec_logic.specs.Tree as tree
use Rattle.ec_names.specs.Names.{Names, joined, symbols_in}
use Rattle.ec_names.specs.Counted.{things}
use Rattle.ec_declare.specs.declared.fault.Fault.{Fault as Declared}
use Rattle.ec_declare.specs.Codes as declared_code
use Rattle.ec_declare.specs.Faults.{declaration_fault}
use Rattle.ec_declare.specs.Sound.{has_upper_name}
use Rattle.ec_syntax.specs.declared.book.Refusal.{Refusal}
use Rattle.ec_syntax.specs.Written as w
use Rattle.ec_theory.specs.View.{formula_tree}
use Rattle.ec_theory.specs.declared.sorted.Labelled.{Labelled}
use Rattle.ec_theory.specs.declared.sorted.Wanted.{Wanted}
use Rattle.ec_walk.specs.declared.fault.Fault.{Fault as Walked}
use Rattle.ec_walk.specs.Codes as walked_code
use Rattle.ec_walk.specs.Sentences.{sentence_fault, sentence_tree}

-- ---- refusals

-- the name of a statement's file
abbrev pub file_of : List (List ℕ) → w.Placed → List ℕ
file_of files placed = unwrap_or (slice_get files placed.file) []

abbrev pub refusal_at : List ℕ → ℕ → ℕ → List ℕ → Refusal
refusal_at file line code name = record { code = code; file = file; line = line; name = name }

abbrev pub declaration_refusal : List ℕ → ℕ → Declared → Refusal
declaration_refusal file line fault = refusal_at file line (declared_code.number_of fault.code) fault.name

abbrev pub sentence_refusal : List ℕ → ℕ → Walked → Refusal
sentence_refusal file line fault = refusal_at file line (walked_code.number_of fault.code) fault.name

-- the first fault of a statement that is a sentence
abbrev pub walked_fault : Names → w.Content → Option Walked
walked_fault names (w.sorts items) = None
walked_fault names (w.reified sort) = None
walked_fault names (w.constants sort constants) = None
walked_fault names (w.events shapes) = None
walked_fault names (w.fluents shapes) = None
walked_fault names (w.predicates shapes) = None
walked_fault names (w.noninertial symbols) = None
walked_fault names (w.range sort low high) = None
walked_fault names (w.load text) = None
walked_fault names (w.choice name on) = None
walked_fault names w.ignored = None
walked_fault names (w.completion label predicate) = None
walked_fault names (w.left_out word) = None
walked_fault names (w.sentence label f) = sentence_fault names f

-- why a statement is refused: a declaration has no fault of a sentence, nor a sentence one of a declaration
abbrev pub content_refusal : Names → List ℕ → ℕ → w.Content → Option Refusal
content_refusal names file line content =
    option_or (option_map (declaration_refusal file line) (declaration_fault names content)) (option_map (sentence_refusal file line) (walked_fault names content))

abbrev pub statement_refusal : Names → List (List ℕ) → w.Placed → Option Refusal
statement_refusal names files placed = content_refusal names (file_of files placed) placed.statement.line placed.statement.content

-- the first one in book order
abbrev pub first_refusal : Names → List (List ℕ) → List w.Placed → Option Refusal
first_refusal names files [] = None
first_refusal names files (placed ∷ statements) = option_or (statement_refusal names files placed) (first_refusal names files statements)

-- ---- the parts of a book

-- a sentence with its label, its place and its formula
pub record LabelledTree : Type 0 where
  pub label : Option (List ℕ)
  pub file : List ℕ
  pub line : ℕ
  pub formula : tree.Formula

abbrev pub labelled_tree : Labelled → LabelledTree
labelled_tree one = record { label = one.label; file = one.sentence.file; line = one.sentence.line; formula = formula_tree one.sentence.formula }

abbrev pub sentences_in : Names → List ℕ → ℕ → w.Content → List LabelledTree
sentences_in names file line (w.sorts items) = []
sentences_in names file line (w.reified sort) = []
sentences_in names file line (w.constants sort constants) = []
sentences_in names file line (w.events shapes) = []
sentences_in names file line (w.fluents shapes) = []
sentences_in names file line (w.predicates shapes) = []
sentences_in names file line (w.noninertial symbols) = []
sentences_in names file line (w.range sort low high) = []
sentences_in names file line (w.load text) = []
sentences_in names file line (w.choice name on) = []
sentences_in names file line w.ignored = []
sentences_in names file line (w.completion label predicate) = []
sentences_in names file line (w.left_out word) = []
sentences_in names file line (w.sentence label f) = record { label = label; file = file; line = line; formula = sentence_tree names f } ∷ []

abbrev pub wanted_in : List ℕ → ℕ → w.Content → List Wanted
wanted_in file line (w.sorts items) = []
wanted_in file line (w.reified sort) = []
wanted_in file line (w.constants sort constants) = []
wanted_in file line (w.events shapes) = []
wanted_in file line (w.fluents shapes) = []
wanted_in file line (w.predicates shapes) = []
wanted_in file line (w.noninertial symbols) = []
wanted_in file line (w.range sort low high) = []
wanted_in file line (w.load text) = []
wanted_in file line (w.choice name on) = []
wanted_in file line w.ignored = []
wanted_in file line (w.completion label predicate) = record { file = file; line = line; label = label; predicate = predicate } ∷ []
wanted_in file line (w.left_out word) = []
wanted_in file line (w.sentence label f) = []

-- the sentences of a book, in book order
abbrev pub sentences_of : Names → List (List ℕ) → List w.Placed → List LabelledTree
sentences_of names files [] = []
sentences_of names files (placed ∷ statements) =
    sentences_in names (file_of files placed) placed.statement.line placed.statement.content ++ sentences_of names files statements

-- the completion statements of a book, in book order
abbrev pub wanted_of : List (List ℕ) → List w.Placed → List Wanted
wanted_of files [] = []
wanted_of files (placed ∷ statements) = wanted_in (file_of files placed) placed.statement.line placed.statement.content ++ wanted_of files statements

-- ---- the books that can be checked

-- The statement is placed in one of so many files.
abbrev pub IsPlacedIn : ℕ → w.Placed → Type 0
IsPlacedIn files placed = placed.file < files

-- Each statement is in a file of the book, the constants, events, fluents and predicates have upper-case names, and there isn't too much.
pub record IsCheckable (book : w.Book) : Type 0 where
  pub placed : All (IsPlacedIn (length book.files)) book.statements
  pub upper : list_all has_upper_name (joined symbols_in book.statements) ≡ true
  pub few : things book.statements < 2 ^ 30
