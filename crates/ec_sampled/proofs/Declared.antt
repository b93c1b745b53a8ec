-- What the sample's book says, computed.
use Rattle.std.proofs.Common.{◌≡◌, ℕ, List, [], ◌∷◌, None, refl}
use Rattle.ec_declare.specs.Signatures.{signature_of}
use Rattle.ec_logic.specs.Tree.{Formula}
use Rattle.ec_sort.specs.Answers.{book_names}
use Rattle.ec_sort.specs.Books.{LabelledTree, sentences_of, wanted_of}
use Rattle.ec_sampled.specs.Book.{sample_file, sample_book}
use Rattle.ec_sampled.specs.Theory.{sample_signature, effect, start, once, order, single, end}

pub same_signature : (n : ℕ) → signature_of (book_names (sample_book n)) ≡ sample_signature n
same_signature n = refl

abbrev pub said_at : ℕ → Formula → LabelledTree
said_at line f = record { label = None; file = sample_file; line = line; formula = f }

abbrev pub sample_sentences : ℕ → List LabelledTree
sample_sentences n = said_at 6 effect ∷ said_at 7 start ∷ said_at 8 once ∷ said_at 9 order ∷ said_at 10 single ∷ said_at 11 (end n) ∷ []

pub same_sentences : (n : ℕ) → sentences_of (book_names (sample_book n)) (sample_book n).files (sample_book n).statements ≡ sample_sentences n
same_sentences n = refl

pub none_wanted : (n : ℕ) → wanted_of (sample_book n).files (sample_book n).statements ≡ []
none_wanted n = refl
