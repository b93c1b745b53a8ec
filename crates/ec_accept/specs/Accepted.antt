-- The theory of a root file, or its first refusal.
use Rattle.std.specs.Prelude.{ℕ, ◌≡◌, ◌≤◌, ◌<◌, codes, List, length, Option, Some, Result, Ok, Err}
use Rattle.ec_logic.specs.Atom.{visible_atoms}
use Rattle.ec_logic.specs.Theory.{Theory}
use Rattle.ec_logic.specs.Universe.{universe_of}
use Rattle.ec_syntax.specs.declared.book.Refusal.{Refusal}
use Rattle.ec_syntax.specs.Written.{Book}
use Rattle.ec_load.specs.Book.{IsBook}
use Rattle.ec_load.specs.Refusals.{refused, in_file}
use Rattle.ec_sort.specs.Answers.{IsSorted, book_refusal}
use Rattle.ec_split.specs.Parts.{Parts, parts_of}
use Rattle.ec_split.specs.Split.{split_of}
use Rattle.ec_theory.specs.Theories.{theory_of}
use Rattle.ec_theory.specs.declared.sorted.Sorted.{Sorted}
use Rattle.ec_theory.specs.declared.theory.Theory as code
use Rattle.ec_weight.specs.Weight.{weight_of}

-- how many visible atoms a theory has
abbrev pub visible_count : Theory → ℕ
visible_count theory = length (visible_atoms (universe_of theory.signature))

-- The theory that the sentences and completion statements of a book are split into, or why there is none.
pub data IsSplitInto (sorted : Sorted) : Result Theory Refusal → Type 0 where
  unsplit : {refusal : Refusal} → split_of sorted.signature sorted.labelled.items sorted.wanted.items ≡ Err refusal → IsSplitInto sorted (Err refusal)
  split : (theory : code.Theory) → split_of sorted.signature sorted.labelled.items sorted.wanted.items ≡ Ok (parts_of theory) → IsSplitInto sorted (Ok (theory_of theory))

-- The theory that a book says, or its first refusal: a fault of a declaration or a sentence stands before one of the groups.
pub data IsSaid (book : Book) : Result Theory Refusal → Type 0 where
  unsorted : {refusal : Refusal} → book_refusal book ≡ Some refusal → IsSaid book (Err refusal)
  sorted : (found : Sorted) {answer : Result Theory Refusal} → IsSorted book found → IsSplitInto found answer → IsSaid book answer

-- A theory that isn't too large, or why it is: too many visible atoms stand before too great a weight.
pub data IsMeasured (root : List ℕ) (theory : Theory) : Result Theory Refusal → Type 0 where
  many_atoms : 262144 < visible_count theory → IsMeasured root theory (Err (refused 20 (in_file root 0) (codes "atoms")))
  heavy : visible_count theory ≤ 262144 → 4000000 < weight_of theory → IsMeasured root theory (Err (refused 19 (in_file root 0) (codes "weight")))
  fits : visible_count theory ≤ 262144 → weight_of theory ≤ 4000000 → IsMeasured root theory (Ok theory)

-- What a root file comes to, by what the names hold: a fault of the load stands before all of the book, and too large a theory stands last.
pub data IsAccepted (held : List ℕ → Option (List ℕ)) (root : List ℕ) : Result Theory Refusal → Type 0 where
  unread : {refusal : Refusal} → IsBook held root (Err refusal) → IsAccepted held root (Err refusal)
  unsaid : {refusal : Refusal} (book : Book) → IsBook held root (Ok book) → IsSaid book (Err refusal) → IsAccepted held root (Err refusal)
  said : {answer : Result Theory Refusal} (book : Book) (theory : Theory) → IsBook held root (Ok book) → IsSaid book (Ok theory) → IsMeasured root theory answer → IsAccepted held root answer

-- The files of a root's book are these, in the order in which they are read.
pub record HasFiles (held : List ℕ → Option (List ℕ)) (root : List ℕ) (files : List (List ℕ)) : Type 0 where
  pub book : Book
  pub is : IsBook held root (Ok book)
  pub are : book.files ≡ files

-- A book's theory has these parts: its sentences with their places, and its groups with their names.
pub record SaysParts (book : Book) (parts : Parts) : Type 0 where
  pub found : Sorted
  pub sorted : IsSorted book found
  pub split : split_of found.signature found.labelled.items found.wanted.items ≡ Ok parts

-- The theory of a root's book has these parts.
pub record HasParts (held : List ℕ → Option (List ℕ)) (root : List ℕ) (parts : Parts) : Type 0 where
  pub book : Book
  pub is : IsBook held root (Ok book)
  pub says : SaysParts book parts
