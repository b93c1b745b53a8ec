-- The book of a root, or the first fault of its files.
use Rattle.std.specs.Prelude.{◌≡◌, ℕ, ◌≤◌, ◌<◌, Bool, true, false, ◌||◌, codes, List, [], ◌∷◌, ◌++◌, length, nat_eq, Result, Ok, Err, Option, Some, None}
use Rattle.std.specs.List.{list_any}
use Rattle.std.specs.Str.{bytes_eq}
use Rattle.std.specs.Cmp.Lexicographic.{pointwise}
use Rattle.ec_syntax.specs.declared.book.Refusal.{Refusal}
use Rattle.ec_syntax.specs.Written.{Content, Statement, Placed, Book}
use Rattle.ec_syntax.specs.Written as w
use Rattle.ec_load.specs.Refusals.{Place, refused, in_file}
use Rattle.ec_load.specs.Opening.{Opens}

-- the file that a statement loads, if it is a load
abbrev pub load_of : Content → Option (List ℕ)
load_of (w.sorts items) = None
load_of (w.reified sort) = None
load_of (w.constants sort names) = None
load_of (w.events shapes) = None
load_of (w.fluents shapes) = None
load_of (w.predicates shapes) = None
load_of (w.noninertial names) = None
load_of (w.range sort low high) = None
load_of (w.load file) = Some file
load_of (w.choice name on) = None
load_of w.ignored = None
load_of (w.completion label predicate) = None
load_of (w.left_out word) = None
load_of (w.sentence label tree) = None

-- the files that no load reads: what they say is built in
abbrev pub is_built_in : List ℕ → Bool
is_built_in file = bytes_eq file (codes "foundations/Root.e") || bytes_eq file (codes "foundations/EC.e") || bytes_eq file (codes "foundations/DEC.e")

-- A load of this file has no effect, where these were read.
abbrev pub is_passed : List (List ℕ) → List ℕ → Bool
is_passed files file = is_built_in file || list_any (pointwise nat_eq file) files

-- the files that are read then, in the order in which they were read, and the statements that were come to; or the first fault
abbrev pub Found : Type 0
Found = Result Book Refusal

-- statements before those that follow; a fault stays
abbrev pub put : List Placed → Found → Found
put before (Ok book) = Ok (record { files = book.files; statements = before ++ book.statements })
put before (Err e) = Err e

abbrev pub placed_at : ℕ → Statement → Placed
placed_at at s = record { file = at; statement = s }

mutual
  -- Where these files were read, a file that is asked for at a place comes to these statements, its own and in the place of each load
  -- those of what it loads. Its own faults stand before those of what it loads.
  pub data Loads (held : List ℕ → Option (List ℕ)) : List (List ℕ) → Place → List ℕ → Found → Type 0 where
    many : {files : List (List ℕ)} {place : Place} {file : List ℕ} → 64 ≤ length files → Loads held files place file (Err (refused 4 place file))
    faulty : {files : List (List ℕ)} {place : Place} {file : List ℕ} {e : Refusal} → length files < 64 → Opens place file (held file) (Err e) → Loads held files place file (Err e)
    opened : {files : List (List ℕ)} {place : Place} {file : List ℕ} {r : Found} (ss : List Statement) → length files < 64 → Opens place file (held file) (Ok ss)
        → ComeTo held (files ++ file ∷ []) (length files) file ss r → Loads held files place file r

  -- The same of the statements of the file of this number and name.
  pub data ComeTo (held : List ℕ → Option (List ℕ)) : List (List ℕ) → ℕ → List ℕ → List Statement → Found → Type 0 where
    none : {files : List (List ℕ)} {at : ℕ} {file : List ℕ} → ComeTo held files at file [] (Ok (record { files = files; statements = [] }))
    own : {files : List (List ℕ)} {at : ℕ} {file : List ℕ} {s : Statement} {ss : List Statement} {r : Found} → load_of s.content ≡ None → ComeTo held files at file ss r
        → ComeTo held files at file (s ∷ ss) (put (placed_at at s ∷ []) r)
    passed : {files : List (List ℕ)} {at : ℕ} {file : List ℕ} {s : Statement} {ss : List Statement} {r : Found} (other : List ℕ) → load_of s.content ≡ Some other → is_passed files other ≡ true
        → ComeTo held files at file ss r → ComeTo held files at file (s ∷ ss) r
    loaded : {files : List (List ℕ)} {at : ℕ} {file : List ℕ} {s : Statement} {ss : List Statement} {r : Found} (other : List ℕ) (book : Book) → load_of s.content ≡ Some other → is_passed files other ≡ false
        → Loads held files (in_file file s.line) other (Ok book) → ComeTo held book.files at file ss r → ComeTo held files at file (s ∷ ss) (put book.statements r)
    fault : {files : List (List ℕ)} {at : ℕ} {file : List ℕ} {s : Statement} {ss : List Statement} {e : Refusal} (other : List ℕ) → load_of s.content ≡ Some other → is_passed files other ≡ false
        → Loads held files (in_file file s.line) other (Err e) → ComeTo held files at file (s ∷ ss) (Err e)

-- The root has this book, or this first fault.
abbrev pub IsBook : (List ℕ → Option (List ℕ)) → List ℕ → Found → Type 0
IsBook held root r = Loads held [] (in_file root 0) root r
