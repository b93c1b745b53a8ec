-- What holds of each book, whatever the files tell.
use Rattle.std.specs.Prelude.{◌≡◌, ℕ, ◌+◌, ◌*◌, ◌≤◌, ◌<◌, ◌^◌, true, List, [], ◌∷◌, length, map, None, All}
use Rattle.ec_lex.specs.declared.token.Kind.TheVariants.{Upper}
use Rattle.ec_lex.specs.Bytes.{is_token}
use Rattle.ec_syntax.specs.Written.{Shape, Content, Statement, Placed, Book}
use Rattle.ec_syntax.specs.Written as w
use Rattle.ec_load.specs.Book.{load_of}

abbrev pub shape_name : Shape → List ℕ
shape_name s = s.name

-- the constants, events, fluents and predicates that a statement declares
abbrev pub declared_names : Content → List (List ℕ)
declared_names (w.sorts items) = []
declared_names (w.reified sort) = []
declared_names (w.constants sort names) = names
declared_names (w.events shapes) = map shape_name shapes
declared_names (w.fluents shapes) = map shape_name shapes
declared_names (w.predicates shapes) = map shape_name shapes
declared_names (w.noninertial names) = []
declared_names (w.range sort low high) = []
declared_names (w.load file) = []
declared_names (w.choice name on) = []
declared_names w.ignored = []
declared_names (w.completion label predicate) = []
declared_names (w.left_out word) = []
declared_names (w.sentence label tree) = []

-- an upper-case letter, and then letters, digits and `_`
abbrev pub IsUpperWord : List ℕ → Type 0
IsUpperWord name = is_token Upper name ≡ true

-- Each constant, event, fluent and predicate that the statement declares has a name.
abbrev pub AreNamed : Statement → Type 0
AreNamed s = All IsUpperWord (declared_names s.content)

-- The statement is no load, its names are names, and it is placed in one of so many files.
pub record IsPlaced (files : ℕ) (p : Placed) : Type 0 where
  pub file : p.file < files
  pub own : load_of p.statement.content ≡ None
  pub named : AreNamed p.statement

-- names of shapes and their argument sorts
abbrev pub shapes_count : List Shape → ℕ
shapes_count [] = 0
shapes_count (s ∷ shapes) = 1 + length s.sorts + shapes_count shapes

-- how many names a statement declares, sorts among them, with their argument sorts
abbrev pub names_count : Content → ℕ
names_count (w.sorts items) = length items
names_count (w.reified sort) = 0
names_count (w.constants sort names) = length names
names_count (w.events shapes) = shapes_count shapes
names_count (w.fluents shapes) = shapes_count shapes
names_count (w.predicates shapes) = shapes_count shapes
names_count (w.noninertial names) = 0
names_count (w.range sort low high) = 0
names_count (w.load file) = 0
names_count (w.choice name on) = 0
names_count w.ignored = 0
names_count (w.completion label predicate) = 0
names_count (w.left_out word) = 0
names_count (w.sentence label tree) = 0

-- statements, the names that they declare and the argument sorts of these names
abbrev pub counted : List Statement → ℕ
counted [] = 0
counted (s ∷ ss) = 1 + names_count s.content + counted ss

abbrev pub placed_statement : Placed → Statement
placed_statement p = p.statement

abbrev pub counted_placed : List Placed → ℕ
counted_placed ps = counted (map placed_statement ps)

-- A book has a file, no load, names that are names, and not too much.
pub record IsSound (book : Book) : Type 0 where
  pub has_file : 0 < length book.files
  pub few_files : length book.files ≤ 64
  pub placed : All (IsPlaced (length book.files)) book.statements
  pub few : counted_placed book.statements ≤ 2 ^ 28

-- what holds of the files and the statements at each step
pub record IsGathered (book : Book) : Type 0 where
  pub few_files : length book.files ≤ 64
  pub placed : All (IsPlaced (length book.files)) book.statements

-- What was added counts for no more than this, and 2^20 for each file that was read.
abbrev pub IsWithin : ℕ → Book → Book → Type 0
IsWithin extra old new = counted_placed new.statements + 1048576 * length old.files ≤ counted_placed old.statements + extra + 1048576 * length new.files
