use Rattle.std.proofs.Common.{◌≡◌, List, Vec, Global, map, sym, ap, ◌∙◌, subst}
use Rattle.ec_logic.specs.Valid.{IsSignature}
use Rattle.ec_names.specs.Names.{Names, names_of}
use Rattle.ec_declare.specs.Signatures.{signature_of}
use Rattle.ec_syntax.specs.View.{book_of, placed_of}
use Rattle.ec_syntax.specs.declared.book.Placed.{Placed}
use Rattle.ec_theory.specs.declared.sorted.Labelled.{Labelled}
use Rattle.ec_theory.specs.declared.sorted.Wanted.{Wanted}
use Rattle.ec_sort.specs.Books.{labelled_tree, sentences_of, wanted_of}
use Rattle.ec_sort.specs.Answers.{IsGathered}
use Rattle.ec_sort.specs.declared.gathering.Gathering.TheVariants.{Whole}
use Rattle.ec_sort.proofs.LawLemmas.{signature_lawful, can_be_split}
use Rattle.ec_sort.proofs.checking.checked.Goals as goal

pub sorted-requires : goal.sorted-requires
sorted-requires c =
    let book = book_of c.args.book.now in
    let same : c.in_ok-names.names ≡ names_of book.statements = c.in_ok-names.ensures ∙ ap (λ (ps : List Placed). names_of (map placed_of ps)) c.deref.ensures.value in
    let gathered = subst (IsGathered c.in_ok-names.names book.files book.statements) c.in-Whole.is c.in_ok-gathered.ensures in
    let P : Names → Type 0 = λ names. IsGathered names book.files book.statements (Whole c.in-Whole.gathered) in
    let mine = subst P same gathered in
    let Q : Names → Type 0 = λ names. IsSignature (signature_of names) in
    subst Q (sym same) (signature_lawful book c.requires mine.0)

pub returns-in-Whole : goal.returns-in-Whole
returns-in-Whole c =
    let book = book_of c.args.book.now in
    let same : c.in_ok-names.names ≡ names_of book.statements = c.in_ok-names.ensures ∙ ap (λ (ps : List Placed). names_of (map placed_of ps)) c.deref.ensures.value in
    let gathered = subst (IsGathered c.in_ok-names.names book.files book.statements) c.in-Whole.is c.in_ok-gathered.ensures in
    let P : Names → Type 0 = λ names. IsGathered names book.files book.statements (Whole c.in-Whole.gathered) in
    let mine = subst P same gathered in
    let sorted = c.in_ok-sorted-in-Whole.field-0 in
    let together = c.in_ok-sorted-in-Whole.ensures in
    let signature : sorted.signature ≡ signature_of (names_of book.statements) = together.signature ∙ ap signature_of same in
    let labelled : map labelled_tree sorted.labelled.items ≡ sentences_of (names_of book.statements) book.files book.statements =
    ap (λ (v : Vec Labelled Global). map labelled_tree v.items) together.labelled ∙ mine.1 in
    let wanted : sorted.wanted.items ≡ wanted_of book.files book.statements = ap (λ (v : Vec Wanted Global). v.items) together.wanted ∙ mine.2 in
    (record { faultless = mine.0; signature = signature; labelled = labelled; wanted = wanted }, can_be_split book sorted c.requires mine.0 signature labelled wanted)
