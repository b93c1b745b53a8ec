-- A root has one answer and one list of files at most: a book is split by its labels, its places and its trees alone.
use Rattle.std.proofs.Common.{◌≡◌, ℕ, suc, Bool, true, false, List, [], ◌∷◌, map, filter, Option, None, Some, option_map, Result, Ok, Err, refl, ap, sym, ◌∙◌, subst, arith}
use Rattle.std.specs.Option.{option_and_then, option_or}
use Rattle.ec_declare.specs.Signatures.{signature_of}
use Rattle.ec_load.specs.Book.{IsBook}
use Rattle.ec_load.proofs.One.{loads_one}
use Rattle.ec_logic.specs.Signature.{Signature}
use Rattle.ec_logic.specs.Theory as logic
use Rattle.ec_logic.specs.Tree.{Formula}
use Rattle.ec_logic.specs.Valid.{symbol_names}
use Rattle.ec_sort.specs.Answers.{book_names, book_refusal}
use Rattle.ec_sort.specs.Books.{LabelledTree, labelled_tree, sentences_of, wanted_of}
use Rattle.ec_split.specs.Form.{Fault, clause_fault}
use Rattle.ec_split.specs.Groups.{Made, and_then, groups_of, same_place}
use Rattle.ec_split.specs.Parts.{GroupParts, Parts, group_parts, parts_of}
use Rattle.ec_split.specs.Split.{fault_name, filled_from, first_refusal, home, home_of, is_in, parts_with, sentence_refusal, sentences_at, split_of, unless}
use Rattle.ec_syntax.specs.declared.book.Refusal.{Refusal}
use Rattle.ec_syntax.specs.Written as w
use Rattle.ec_theory.specs.declared.sorted.Labelled.{Labelled}
use Rattle.ec_theory.specs.declared.sorted.Sorted.{Sorted}
use Rattle.ec_theory.specs.declared.sorted.Wanted.{Wanted}
use Rattle.ec_theory.specs.declared.theory.Group.{Group}
use Rattle.ec_theory.specs.declared.theory.Theory.{Theory}
use Rattle.ec_theory.specs.Theories.{group_of, sentence_trees, theory_of}
use Rattle.ec_accept.specs.Accepted.{HasFiles, IsAccepted, said, unread, unsaid, IsMeasured, fits, heavy, many_atoms, IsSaid, sorted, unsorted, IsSplitInto, split, unsplit, visible_count}
use Rattle.ec_weight.specs.Weight.{weight_of}

-- ---- sentences as labelled trees

abbrev home_in : List Made → LabelledTree → Option ℕ
home_in groups tree = home groups tree.label tree.formula

abbrev form_in : List (List ℕ) → LabelledTree → Fault → Refusal
form_in names tree fault = record { code = 16; file = tree.file; line = tree.line; name = fault_name names tree.label fault }

abbrev refusal_in : List (List ℕ) → List Made → LabelledTree → Option Refusal
refusal_in names groups tree = option_and_then (λ k. option_map (form_in names tree) (clause_fault (is_in groups k) tree.formula)) (home_in groups tree)

abbrev first_in : List (List ℕ) → List Made → List LabelledTree → Option Refusal
first_in names groups [] = None
first_in names groups (tree ∷ trees) = option_or (refusal_in names groups tree) (first_in names groups trees)

first_seen : (names : List (List ℕ)) (groups : List Made) (labelled : List Labelled) → first_refusal names groups labelled ≡ first_in names groups (map labelled_tree labelled)
first_seen names groups [] = refl
first_seen names groups (one ∷ labelled) = ap (option_or (sentence_refusal names groups one)) (first_seen names groups labelled)

abbrev tree_in : LabelledTree → Formula
tree_in tree = tree.formula

abbrev trees_at : List Made → Option ℕ → List LabelledTree → List Formula
trees_at groups k trees = map tree_in (filter (λ (tree : LabelledTree). same_place (home_in groups tree) k) trees)

by_test : (P : Type 0) (b : Bool) → (b ≡ true → P) → (b ≡ false → P) → P
by_test P true f g = f refl
by_test P false f g = g refl

trees_seen : (groups : List Made) (k : Option ℕ) (labelled : List Labelled) → sentence_trees (sentences_at groups k labelled) ≡ trees_at groups k (map labelled_tree labelled)
trees_seen groups k [] = refl
trees_seen groups k (one ∷ labelled) =
    let rest = trees_seen groups k labelled in
    by_test (sentence_trees (sentences_at groups k (one ∷ labelled)) ≡ trees_at groups k (map labelled_tree (one ∷ labelled))) (same_place (home_of groups one) k)
    (λ e. rw e (ap (λ fs. tree_in (labelled_tree one) ∷ fs) rest)) (λ e. rw e rest)

-- ---- groups

abbrev group_with : GroupParts → logic.Group
group_with parts = record { predicates = parts.predicates; sentences = sentence_trees parts.sentences }

abbrev groups_in : List Made → List LabelledTree → ℕ → List Made → List logic.Group
groups_in all trees k [] = []
groups_in all trees k (group ∷ groups) = record { predicates = group.predicates; sentences = trees_at all (Some k) trees } ∷ groups_in all trees (suc k) groups

groups_seen : (names : List (List ℕ)) (all : List Made) (labelled : List Labelled) (k : ℕ) (groups : List Made) → map group_with (filled_from names all labelled k groups) ≡ groups_in all (map labelled_tree labelled) k groups
groups_seen names all labelled k [] = refl
groups_seen names all labelled k (group ∷ groups) =
    let rest = groups_seen names all labelled (suc k) groups in
    let Q : List Formula → logic.Group = λ fs. record { predicates = group.predicates; sentences = fs } in
    ap (λ fs. Q fs ∷ map group_with (filled_from names all labelled (suc k) groups)) (trees_seen all (Some k) labelled)
    ∙ ap (λ gs. Q (trees_at all (Some k) (map labelled_tree labelled)) ∷ gs) rest

groups_with_parts : (groups : List Group) → map group_of groups ≡ map group_with (map group_parts groups)
groups_with_parts [] = refl
groups_with_parts (group ∷ groups) = ap (λ gs. group_of group ∷ gs) (groups_with_parts groups)

-- ---- the theory

abbrev theory_with : Signature → List Formula → List logic.Group → logic.Theory
theory_with signature remaining groups = record { signature = signature; remaining = remaining; groups = groups }

abbrev theory_in : Parts → logic.Theory
theory_in parts = theory_with parts.signature (sentence_trees parts.remaining) (map group_with parts.groups)

theory_seen : (theory : Theory) → theory_of theory ≡ theory_in (parts_of theory)
theory_seen theory = ap (theory_with theory.signature (sentence_trees theory.remaining.items)) (groups_with_parts theory.groups.items)

abbrev seen : Result Parts Refusal → Result logic.Theory Refusal
seen (Ok parts) = Ok (theory_in parts)
seen (Err refusal) = Err refusal

abbrev split_with : List (List ℕ) → Signature → List LabelledTree → List Made → Result logic.Theory Refusal
split_with names signature trees groups = unless (first_in names groups trees) (theory_with signature (trees_at groups None trees) (groups_in groups trees 0 groups))

-- the theory of labelled trees, or why there is none
abbrev split_in : Signature → List LabelledTree → List Wanted → Result logic.Theory Refusal
split_in signature trees wanted = and_then (groups_of (symbol_names signature.predicates) wanted) (split_with (symbol_names signature.predicates) signature trees)

seen_unless : (o : Option Refusal) (parts : Parts) → seen (unless o parts) ≡ unless o (theory_in parts)
seen_unless None parts = refl
seen_unless (Some refusal) parts = refl

with_seen : (signature : Signature) (labelled : List Labelled) (groups : List Made)
    → seen (unless (first_refusal (symbol_names signature.predicates) groups labelled) (parts_with signature groups labelled)) ≡ split_with (symbol_names signature.predicates) signature (map labelled_tree labelled) groups
with_seen signature labelled groups =
    let names = symbol_names signature.predicates in
    let trees = map labelled_tree labelled in
    let parts = parts_with signature groups labelled in
    let theory : theory_in parts ≡ theory_with signature (trees_at groups None trees) (groups_in groups trees 0 groups) =
    ap (λ fs. theory_with signature fs (map group_with (filled_from names groups labelled 0 groups))) (trees_seen groups None labelled)
    ∙ ap (theory_with signature (trees_at groups None trees)) (groups_seen names groups labelled 0 groups) in
    seen_unless (first_refusal names groups labelled) parts
    ∙ ap (λ o. unless o (theory_in parts)) (first_seen names groups labelled)
    ∙ ap (unless (first_in names groups trees)) theory

then_seen : (signature : Signature) (labelled : List Labelled) (made : Result (List Made) Refusal)
    → seen (and_then made (λ groups. unless (first_refusal (symbol_names signature.predicates) groups labelled) (parts_with signature groups labelled)))
    ≡ and_then made (split_with (symbol_names signature.predicates) signature (map labelled_tree labelled))
then_seen signature labelled (Ok groups) = with_seen signature labelled groups
then_seen signature labelled (Err refusal) = refl

split_seen : (signature : Signature) (labelled : List Labelled) (wanted : List Wanted) → seen (split_of signature labelled wanted) ≡ split_in signature (map labelled_tree labelled) wanted
split_seen signature labelled wanted = then_seen signature labelled (groups_of (symbol_names signature.predicates) wanted)

split_is : {found : Sorted} {answer : Result logic.Theory Refusal} → IsSplitInto found answer → split_in found.signature (map labelled_tree found.labelled.items) found.wanted.items ≡ answer
split_is {found} (unsplit e) = sym (split_seen found.signature found.labelled.items found.wanted.items) ∙ ap seen e
split_is {found} (split theory e) = sym (split_seen found.signature found.labelled.items found.wanted.items) ∙ (ap seen e ∙ ap Ok (sym (theory_seen theory)))

-- ---- a book

abbrev said_after : Option Refusal → Result logic.Theory Refusal → Result logic.Theory Refusal
said_after None answer = answer
said_after (Some refusal) answer = Err refusal

-- the theory of a book, or its first refusal
abbrev said_in : w.Book → Result logic.Theory Refusal
said_in book =
    said_after (book_refusal book) (split_in (signature_of (book_names book)) (sentences_of (book_names book) book.files book.statements) (wanted_of book.files book.statements))

same_split : {s t : Signature} {xs ys : List LabelledTree} {vs ws : List Wanted} {answer : Result logic.Theory Refusal} → s ≡ t → xs ≡ ys → vs ≡ ws → split_in s xs vs ≡ answer → split_in t ys ws ≡ answer
same_split {s} {t} {xs} {ys} {vs} {ws} {answer} signature trees wanted e =
    subst (λ us. split_in t ys us ≡ answer) wanted (subst (λ zs. split_in t zs vs ≡ answer) trees (subst (λ (r : Signature). split_in r xs vs ≡ answer) signature e))

said_is : {book : w.Book} {answer : Result logic.Theory Refusal} → IsSaid book answer → said_in book ≡ answer
said_is {book} (unsorted e) = ap (λ o. said_after o (split_in (signature_of (book_names book)) (sentences_of (book_names book) book.files book.statements) (wanted_of book.files book.statements))) e
said_is {book} (sorted found h s) =
    ap (λ o. said_after o (split_in (signature_of (book_names book)) (sentences_of (book_names book) book.files book.statements) (wanted_of book.files book.statements))) h.faultless
    ∙ same_split h.signature h.labelled h.wanted (split_is s)

said_one : {b c : w.Book} {x y : Result logic.Theory Refusal} → b ≡ c → IsSaid b x → IsSaid c y → x ≡ y
said_one same d e = sym (said_is d) ∙ (ap said_in same ∙ said_is e)

-- ---- a root

module _ (held : List ℕ → Option (List ℕ)) (root : List ℕ) where
  same_book : {b c : w.Book} → IsBook held root (Ok b) → IsBook held root (Ok c) → b ≡ c
  same_book d e = let same = loads_one d e in cc

  pub files_one : {files others : List (List ℕ)} → HasFiles held root files → HasFiles held root others → files ≡ others
  files_one d e = sym d.are ∙ (ap (λ (b : w.Book). b.files) (same_book d.is e.is) ∙ e.are)

  measured_one : {t u : logic.Theory} {x y : Result logic.Theory Refusal} → t ≡ u → IsMeasured root t x → IsMeasured root u y → x ≡ y
  measured_one same (many_atoms l) (many_atoms m) = refl
  measured_one same (many_atoms l) (heavy m w) = absurd (omega (arith, ap visible_count same, l, m))
  measured_one same (many_atoms l) (fits m w) = absurd (omega (arith, ap visible_count same, l, m))
  measured_one same (heavy l v) (many_atoms m) = absurd (omega (arith, ap visible_count same, l, m))
  measured_one same (heavy l v) (heavy m w) = refl
  measured_one same (heavy l v) (fits m w) = absurd (omega (arith, ap weight_of same, v, w))
  measured_one same (fits l v) (many_atoms m) = absurd (omega (arith, ap visible_count same, l, m))
  measured_one same (fits l v) (heavy m w) = absurd (omega (arith, ap weight_of same, v, w))
  measured_one same (fits l v) (fits m w) = ap Ok same

  pub accepted_one : {x y : Result logic.Theory Refusal} → IsAccepted held root x → IsAccepted held root y → x ≡ y
  accepted_one (unread d) (unread e) = let same = loads_one d e in cc
  accepted_one (unread d) (unsaid c e s) = absurd (let same = loads_one d e in cc)
  accepted_one (unread d) (said c u e s m) = absurd (let same = loads_one d e in cc)
  accepted_one (unsaid b d r) (unread e) = absurd (let same = loads_one d e in cc)
  accepted_one (unsaid b d r) (unsaid c e s) = said_one (same_book d e) r s
  accepted_one (unsaid b d r) (said c u e s m) = absurd (let same = said_one (same_book d e) r s in cc)
  accepted_one (said b t d r l) (unread e) = absurd (let same = loads_one d e in cc)
  accepted_one (said b t d r l) (unsaid c e s) = absurd (let same = said_one (same_book d e) r s in cc)
  accepted_one (said b t d r l) (said c u e s m) = measured_one (let same = said_one (same_book d e) r s in cc) l m
