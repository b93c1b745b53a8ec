-- What a book is refused for has another code than an absent file.
use Rattle.std.proofs.Common.{◌≡◌, ◌≢◌, ℕ, List, [], ◌∷◌, Option, None, Some, option_map, Result, Ok, Err, ap, subst, arith}
use Rattle.std.specs.Option.{ok_or, option_and_then, option_or}
use Rattle.ec_declare.specs.Codes as declared_code
use Rattle.ec_declare.specs.declared.fault.Code.{Code as DeclaredCode}
use Rattle.ec_declare.specs.declared.fault.Code.TheVariants as d
use Rattle.ec_declare.specs.declared.fault.Fault.{Fault as Declared}
use Rattle.ec_declare.specs.Faults.{declaration_fault}
use Rattle.ec_logic.specs.Signature.{Signature}
use Rattle.ec_logic.specs.Valid.{symbol_names}
use Rattle.ec_names.specs.Names.{Names}
use Rattle.ec_sort.specs.Answers.{book_names, book_refusal}
use Rattle.ec_sort.specs.Books.{declaration_refusal, file_of, sentence_refusal, statement_refusal, walked_fault}
use Rattle.ec_sort.specs.Books as sort
use Rattle.ec_split.specs.Form.{Fault, clause_fault}
use Rattle.ec_split.specs.Groups.{Made, and_then, effect_group, groups_after, groups_from, groups_of, groups_with, maker_for, predicate_called, settled, wanted_refusal}
use Rattle.ec_split.specs.Split as split
use Rattle.ec_split.specs.Split.{form_refusal, home_of, is_in, parts_with, split_of, unless}
use Rattle.ec_syntax.specs.declared.book.Refusal.{Refusal}
use Rattle.ec_syntax.specs.Written as w
use Rattle.ec_theory.specs.declared.sorted.Labelled.{Labelled}
use Rattle.ec_theory.specs.declared.sorted.Wanted.{Wanted}
use Rattle.ec_theory.specs.View.{formula_tree}
use Rattle.ec_walk.specs.Codes as walked_code
use Rattle.ec_walk.specs.declared.fault.Code.{Code as WalkedCode}
use Rattle.ec_walk.specs.declared.fault.Code.TheVariants as k
use Rattle.ec_walk.specs.declared.fault.Fault.{Fault as Walked}

abbrev pub IsOther : Refusal → Type 0
IsOther refusal = refusal.code ≢ 1

-- ---- options and results

of_mapped : {X : Type 0} (f : X → Refusal) → ((x : X) → IsOther (f x)) → (o : Option X) (r : Refusal) → option_map f o ≡ Some r → IsOther r
of_mapped f other None r e = absurd (cc)
of_mapped f other (Some x) r e = let same : f x ≡ r = cc in subst IsOther same (other x)

of_either : (a b : Option Refusal) → ((r : Refusal) → a ≡ Some r → IsOther r) → ((r : Refusal) → b ≡ Some r → IsOther r) → (r : Refusal) → option_or a b ≡ Some r → IsOther r
of_either None b f g r e = g r e
of_either (Some x) b f g r e = f r e

of_unless : {A : Type 0} (o : Option Refusal) (a : A) → ((r : Refusal) → o ≡ Some r → IsOther r) → (r : Refusal) → unless o a ≡ Err r → IsOther r
of_unless None a f r e = absurd (cc)
of_unless (Some x) a f r e = f r (let same : x ≡ r = cc in ap Some same)

of_then : {A B : Type 0} (found : Result A Refusal) (after : A → Result B Refusal) → ((r : Refusal) → found ≡ Err r → IsOther r) → ((a : A) (r : Refusal) → after a ≡ Err r → IsOther r)
    → (r : Refusal) → and_then found after ≡ Err r → IsOther r
of_then (Ok a) after f g r e = g a r e
of_then (Err x) after f g r e = f r (let same : x ≡ r = cc in ap Err same)

-- ---- declarations and sentences

declared_other : (code : DeclaredCode) → declared_code.number_of code ≢ 1
declared_other d.UnknownSort e = omega (arith, e)
declared_other d.OtherMeaning e = omega (arith, e)
declared_other d.NoRange e = omega (arith, e)
declared_other d.UnknownName e = omega (arith, e)
declared_other d.Misfit e = omega (arith, e)
declared_other d.LeftOut e = omega (arith, e)

walked_other : (code : WalkedCode) → walked_code.number_of code ≢ 1
walked_other k.UnknownSort e = omega (arith, e)
walked_other k.NoRange e = omega (arith, e)
walked_other k.UnknownName e = omega (arith, e)
walked_other k.ArgumentCount e = omega (arith, e)
walked_other k.Misfit e = omega (arith, e)
walked_other k.OutOfRange e = omega (arith, e)
walked_other k.Arithmetic e = omega (arith, e)
walked_other k.Binders e = omega (arith, e)

statement_other : (names : Names) (files : List (List ℕ)) (p : w.Placed) (r : Refusal) → statement_refusal names files p ≡ Some r → IsOther r
statement_other names files p r e =
    let file = file_of files p in
    let line = p.statement.line in
    let content = p.statement.content in
    of_either (option_map (declaration_refusal file line) (declaration_fault names content)) (option_map (sentence_refusal file line) (walked_fault names content))
    (of_mapped (declaration_refusal file line) (λ (fault : Declared). declared_other fault.code) (declaration_fault names content))
    (of_mapped (sentence_refusal file line) (λ (fault : Walked). walked_other fault.code) (walked_fault names content)) r e

first_other : (names : Names) (files : List (List ℕ)) (ps : List w.Placed) (r : Refusal) → sort.first_refusal names files ps ≡ Some r → IsOther r
first_other names files [] r e = absurd (cc)
first_other names files (p ∷ ps) r e = of_either (statement_refusal names files p) (sort.first_refusal names files ps) (statement_other names files p) (first_other names files ps) r e

pub book_other : (book : w.Book) (r : Refusal) → book_refusal book ≡ Some r → IsOther r
book_other book r e = first_other (book_names book) book.files book.statements r e

-- ---- groups

settled_other : (found : Option (List Made)) (wanted : Wanted) (r : Refusal) → ok_or found (wanted_refusal 17 wanted) ≡ Err r → IsOther r
settled_other (Some groups) wanted r e = absurd (cc)
settled_other None wanted r e = let same : wanted_refusal 17 wanted ≡ r = cc in subst IsOther same (λ one. omega (arith, one))

wanted_other : (groups : List Made) (wanted : Wanted) (called : Option ℕ) (r : Refusal) → groups_with groups wanted called ≡ Err r → IsOther r
wanted_other groups wanted None r e = let same : wanted_refusal 18 wanted ≡ r = cc in subst IsOther same (λ one. omega (arith, one))
wanted_other groups wanted (Some p) r e = settled_other (settled (maker_for wanted.label p) p groups) wanted r e

groups_other : (names : List (List ℕ)) (groups : List Made) (all : List Wanted) (r : Refusal) → groups_from names groups all ≡ Err r → IsOther r
groups_other names groups [] r e = absurd (cc)
groups_other names groups (wanted ∷ rest) r e =
    of_then (groups_after names groups wanted) (λ more. groups_from names more rest) (wanted_other groups wanted (predicate_called names wanted.predicate)) (λ more. groups_other names more rest) r e

form_other : (names : List (List ℕ)) (one : Labelled) (faults : ℕ → Option Fault) (home : Option ℕ) (r : Refusal) → option_and_then (λ k. option_map (form_refusal names one) (faults k)) home ≡ Some r → IsOther r
form_other names one faults None r e = absurd (cc)
form_other names one faults (Some k) r e = of_mapped (form_refusal names one) (λ fault sixteen. omega (arith, sixteen)) (faults k) r e

forms_other : (names : List (List ℕ)) (groups : List Made) (labelled : List Labelled) (r : Refusal) → split.first_refusal names groups labelled ≡ Some r → IsOther r
forms_other names groups [] r e = absurd (cc)
forms_other names groups (one ∷ rest) r e =
    of_either (split.sentence_refusal names groups one) (split.first_refusal names groups rest)
    (form_other names one (λ k. clause_fault (is_in groups k) (formula_tree one.sentence.formula)) (home_of groups one)) (forms_other names groups rest) r e

pub split_other : (signature : Signature) (labelled : List Labelled) (wanted : List Wanted) (r : Refusal) → split_of signature labelled wanted ≡ Err r → IsOther r
split_other signature labelled wanted r e =
    let names = symbol_names signature.predicates in
    of_then (groups_of names wanted) (λ groups. unless (split.first_refusal names groups labelled) (parts_with signature groups labelled)) (groups_other names (effect_group ∷ []) wanted)
    (λ groups. of_unless (split.first_refusal names groups labelled) (parts_with signature groups labelled) (forms_other names groups labelled)) r e
