-- A book that isn't refused has a signature, and its sentences are valid.
use Rattle.std.proofs.Common.{◌≡◌, ℕ, ◌≤◌, List, [], ◌∷◌, ◌++◌, map, length, Option, Some, None, option_map, refl, sym, ap, subst, All, arith, length-append}
use Rattle.std.specs.Option.{option_or}
use Rattle.std.specs.List.{AllByRecursion}
use Rattle.std.proofs.lemmas.List.{length-map}
use Rattle.std.proofs.lemmas.List.Elements.{All-from_recursion}
use Rattle.ec_logic.specs.Signature.{Signature}
use Rattle.ec_logic.specs.Valid.{IsSignature}
use Rattle.ec_logic.specs.ValidTheory.{IsValidSentence}
use Rattle.ec_names.specs.Names.{Names, names_of, placed_content}
use Rattle.ec_names.specs.Counted.{things}
use Rattle.ec_declare.specs.Faults.{declaration_fault, first_fault}
use Rattle.ec_declare.specs.Signatures.{signature_of}
use Rattle.ec_declare.specs.Sound.{IsFaultless}
use Rattle.ec_declare.proofs.Validity.{lawful}
use Rattle.ec_syntax.specs.Written as w
use Rattle.ec_theory.specs.declared.sorted.Labelled.{Labelled}
use Rattle.ec_theory.specs.declared.sorted.Sorted.{Sorted}
use Rattle.ec_theory.specs.View.{formula_tree}
use Rattle.ec_valid.proofs.Sentences.{faultless_sentence}
use Rattle.ec_valid.proofs.Tying.{faultless_ties}
use Rattle.ec_walk.specs.Sentences.{sentence_fault, sentence_tree}
use Rattle.ec_sort.specs.Books.{IsCheckable, LabelledTree, declaration_refusal, sentence_refusal, walked_fault, file_of, first_refusal, labelled_tree, sentences_in, sentences_of, statement_refusal, wanted_in, wanted_of}
use Rattle.ec_sort.specs.Answers.{CanBeSplit}

-- of two there is none where neither is one
first_none : {X : Type 0} (a b : Option X) → option_or a b ≡ None → a ≡ None
first_none None b h = refl
first_none (Some x) b h = cc

later_none : {X : Type 0} (a b : Option X) → option_or a b ≡ None → b ≡ None
later_none None b h = h
later_none (Some x) b h = cc

mapped_none : {X Y : Type 0} (f : X → Y) (o : Option X) → option_map f o ≡ None → o ≡ None
mapped_none f None h = refl
mapped_none f (Some x) h = cc

both_none : {X : Type 0} (a b : Option X) → a ≡ None → b ≡ None → option_or a b ≡ None
both_none a b e h = rw (e, h) refl

-- no declaration of a book that isn't refused has a fault
declarations : (names : Names) (files : List (List ℕ)) (ps : List w.Placed) → first_refusal names files ps ≡ None → first_fault (λ placed. declaration_fault names (placed_content placed)) ps ≡ None
declarations names files [] h = refl
declarations names files (p ∷ ps) h =
    let here = first_none (statement_refusal names files p) (first_refusal names files ps) h in
    let mapped = first_none (option_map (declaration_refusal (file_of files p) p.statement.line) (declaration_fault names p.statement.content)) _ here in
    both_none (declaration_fault names p.statement.content) _ (mapped_none (declaration_refusal (file_of files p) p.statement.line) (declaration_fault names p.statement.content) mapped)
    (declarations names files ps (later_none (statement_refusal names files p) (first_refusal names files ps) h))

pub faultless : (book : w.Book) → IsCheckable book → first_refusal (names_of book.statements) book.files book.statements ≡ None → IsFaultless book.statements
faultless book can h = record { upper = can.upper; few = can.few; faultless = declarations (names_of book.statements) book.files book.statements h }

pub signature_lawful : (book : w.Book) → IsCheckable book → first_refusal (names_of book.statements) book.files book.statements ≡ None → IsSignature (signature_of (names_of book.statements))
signature_lawful book can h = lawful book.statements (faultless book can h)

-- ---- sentences

abbrev pub HasValid : Signature → LabelledTree → Type 0
HasValid signature one = IsValidSentence signature one.formula

all_append : {X : Type 0} (P : X → Type 0) (xs ys : List X) → AllByRecursion P xs → AllByRecursion P ys → AllByRecursion P (xs ++ ys)
all_append P [] ys a b = b
all_append P (x ∷ xs) ys a b = (a.0, all_append P xs ys a.1 b)

one_valid : (names : Names) (signature : Signature) (valid : (f : w.Formula) → sentence_fault names f ≡ None → IsValidSentence signature (sentence_tree names f))
    → (file : List ℕ) (line : ℕ) (content : w.Content) → walked_fault names content ≡ None → AllByRecursion (HasValid signature) (sentences_in names file line content)
one_valid names signature valid file line (w.sorts items) h = tt
one_valid names signature valid file line (w.reified sort) h = tt
one_valid names signature valid file line (w.constants sort constants) h = tt
one_valid names signature valid file line (w.events shapes) h = tt
one_valid names signature valid file line (w.fluents shapes) h = tt
one_valid names signature valid file line (w.predicates shapes) h = tt
one_valid names signature valid file line (w.noninertial symbols) h = tt
one_valid names signature valid file line (w.range sort low high) h = tt
one_valid names signature valid file line (w.load text) h = tt
one_valid names signature valid file line (w.choice name on) h = tt
one_valid names signature valid file line w.ignored h = tt
one_valid names signature valid file line (w.completion label predicate) h = tt
one_valid names signature valid file line (w.left_out word) h = tt
one_valid names signature valid file line (w.sentence label f) h = (valid f h, tt)

all_valid : (names : Names) (signature : Signature) (valid : (f : w.Formula) → sentence_fault names f ≡ None → IsValidSentence signature (sentence_tree names f))
    → (files : List (List ℕ)) (ps : List w.Placed) → first_refusal names files ps ≡ None → AllByRecursion (HasValid signature) (sentences_of names files ps)
all_valid names signature valid files [] h = tt
all_valid names signature valid files (p ∷ ps) h =
    let here = first_none (statement_refusal names files p) (first_refusal names files ps) h in
    let mapped = later_none (option_map (declaration_refusal (file_of files p) p.statement.line) (declaration_fault names p.statement.content)) _ here in
    let none = mapped_none (sentence_refusal (file_of files p) p.statement.line) (walked_fault names p.statement.content) mapped in
    all_append (HasValid signature) _ _ (one_valid names signature valid (file_of files p) p.statement.line p.statement.content none)
    (all_valid names signature valid files ps (later_none (statement_refusal names files p) (first_refusal names files ps) h))

-- ---- few

one_sentence : (names : Names) (file : List ℕ) (line : ℕ) (content : w.Content) → length (sentences_in names file line content) ≤ 1
one_sentence names file line (w.sorts items) = omega arith
one_sentence names file line (w.reified sort) = omega arith
one_sentence names file line (w.constants sort constants) = omega arith
one_sentence names file line (w.events shapes) = omega arith
one_sentence names file line (w.fluents shapes) = omega arith
one_sentence names file line (w.predicates shapes) = omega arith
one_sentence names file line (w.noninertial symbols) = omega arith
one_sentence names file line (w.range sort low high) = omega arith
one_sentence names file line (w.load text) = omega arith
one_sentence names file line (w.choice name on) = omega arith
one_sentence names file line w.ignored = omega arith
one_sentence names file line (w.completion label predicate) = omega arith
one_sentence names file line (w.left_out word) = omega arith
one_sentence names file line (w.sentence label f) = omega arith

one_wanted : (file : List ℕ) (line : ℕ) (content : w.Content) → length (wanted_in file line content) ≤ 1
one_wanted file line (w.sorts items) = omega arith
one_wanted file line (w.reified sort) = omega arith
one_wanted file line (w.constants sort constants) = omega arith
one_wanted file line (w.events shapes) = omega arith
one_wanted file line (w.fluents shapes) = omega arith
one_wanted file line (w.predicates shapes) = omega arith
one_wanted file line (w.noninertial symbols) = omega arith
one_wanted file line (w.range sort low high) = omega arith
one_wanted file line (w.load text) = omega arith
one_wanted file line (w.choice name on) = omega arith
one_wanted file line w.ignored = omega arith
one_wanted file line (w.completion label predicate) = omega arith
one_wanted file line (w.left_out word) = omega arith
one_wanted file line (w.sentence label f) = omega arith

few_sentences : (names : Names) (files : List (List ℕ)) (ps : List w.Placed) → length (sentences_of names files ps) ≤ things ps
few_sentences names files [] = omega arith
few_sentences names files (p ∷ ps) =
    let here = one_sentence names (file_of files p) p.statement.line p.statement.content in
    let rest = few_sentences names files ps in
    rw (length-append (sentences_in names (file_of files p) p.statement.line p.statement.content) (sentences_of names files ps)) (omega arith)

few_wanted : (files : List (List ℕ)) (ps : List w.Placed) → length (wanted_of files ps) ≤ things ps
few_wanted files [] = omega arith
few_wanted files (p ∷ ps) =
    let here = one_wanted (file_of files p) p.statement.line p.statement.content in
    let rest = few_wanted files ps in
    rw (length-append (wanted_in (file_of files p) p.statement.line p.statement.content) (wanted_of files ps)) (omega arith)

-- ---- a sorted book can be split

unmapped : (signature : Signature) (xs : List Labelled) → AllByRecursion (HasValid signature) (map labelled_tree xs) → AllByRecursion (λ (one : Labelled). IsValidSentence signature (formula_tree one.sentence.formula)) xs
unmapped signature [] a = tt
unmapped signature (x ∷ xs) a = (a.0, unmapped signature xs a.1)

pub can_be_split : (book : w.Book) (sorted : Sorted) → IsCheckable book → first_refusal (names_of book.statements) book.files book.statements ≡ None
    → sorted.signature ≡ signature_of (names_of book.statements)
    → map labelled_tree sorted.labelled.items ≡ sentences_of (names_of book.statements) book.files book.statements
    → sorted.wanted.items ≡ wanted_of book.files book.statements → CanBeSplit sorted
can_be_split book sorted can none signature labelled wanted =
    let names = names_of book.statements in
    let free = faultless book can none in
    let valid = λ (f : w.Formula) (h : sentence_fault names f ≡ None). faultless_sentence names (signature_of names) (faultless_ties book.statements free) f h in
    let all = all_valid names (signature_of names) valid book.files book.statements none in
    let P : List LabelledTree → Type 0 = AllByRecursion (HasValid (signature_of names)) in
    let mine = unmapped (signature_of names) sorted.labelled.items (subst P (sym labelled) all) in
    let Q : Signature → Type 0 = λ s. All (λ (one : Labelled). IsValidSentence s (formula_tree one.sentence.formula)) sorted.labelled.items in
    record {
      sentences = subst Q (sym signature) (All-from_recursion (λ (one : Labelled). IsValidSentence (signature_of names) (formula_tree one.sentence.formula)) sorted.labelled.items mine);
      few_sentences = omega (arith, few_sentences names book.files book.statements, ap length labelled, length-map sorted.labelled.items labelled_tree, can.few);
      few_statements = omega (arith, few_wanted book.files book.statements, ap length wanted, can.few);
    }
