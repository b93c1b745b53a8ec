-- Binders and variables one by one, and the release axioms fluent by fluent.
use Rattle.std.proofs.Common.{◌≡◌, ℕ, zero, suc, ◌+◌, ◌-◌, ◌<◌, Bool, true, false, List, [], ◌∷◌, ◌++◌, length, take, drop, get_or, Option, Some, None, slice_get, option_map, refl, sym, ap, ◌∙◌, arith, append_assoc}
use Rattle.std.proofs.lemmas.List.{drop_more, append-nil}
use Rattle.std.proofs.lemmas.Option.{slice_get_within, get_or_from_slice_get}
use Rattle.ec_logic.specs.Tree.{Term, variable, int, fluent, no_terms, term, Formula, atom, negation, for_all}
use Rattle.ec_logic.specs.TreeList.{terms_of}
use Rattle.ec_logic.specs.Signature.{Signature, SymbolRow, time_sort, released_at}
use Rattle.ec_logic.specs.Axiom.{variables_from, for_each, first_time, release_axiom, release_axioms_from, release_axioms}

-- ---- a binder for each sort, from the last to the first

for_each_last : (ss : List ℕ) (s : ℕ) (f : Formula) → for_each (ss ++ s ∷ []) f ≡ for_each ss (for_all s f)
for_each_last [] s f = refl
for_each_last (r ∷ ss) s f = ap (for_all r) (for_each_last ss s f)

take_last : (xs : List ℕ) (k : ℕ) → k < length xs → take (suc k) xs ≡ take k xs ++ get_or xs k 0 ∷ []
take_last [] k h = absurd (omega (arith, h))
take_last (x ∷ xs) zero h = refl
take_last (x ∷ xs) (suc k) h = ap (λ ys. x ∷ ys) (take_last xs k (omega (arith, h)))

pub binders_none : (ss : List ℕ) (f : Formula) → for_each (take (length ss - 0) ss) f ≡ for_each ss f
binders_none ss f = let n : length ss - 0 ≡ length ss = omega arith in rw (n, whole ss) refl
  where
    whole : (xs : List ℕ) → take (length xs) xs ≡ xs
    whole [] = refl
    whole (x ∷ xs) = ap (λ ys. x ∷ ys) (whole xs)

pub binders_more : (ss : List ℕ) (i s : ℕ) (f g total : Formula) → i < length ss → s ≡ get_or ss (length ss - 1 - i) 0 → g ≡ for_all s f → for_each (take (length ss - i) ss) f ≡ total → for_each (take (length ss - (i + 1)) ss) g ≡ total
binders_more ss i s f g total h at e is =
    let k : length ss - i ≡ suc (length ss - 1 - i) = omega arith in
    let j : length ss - (i + 1) ≡ length ss - 1 - i = omega arith in
    let last = take_last ss (length ss - 1 - i) (omega (arith, h)) in
    let before : for_each (take (length ss - 1 - i) ss) (for_all s f) ≡ total = sym (for_each_last (take (length ss - 1 - i) ss) s f) ∙ (ap (λ x. for_each (take (length ss - 1 - i) ss ++ x ∷ []) f) at ∙ (ap (λ xs. for_each xs f) (sym last) ∙ (ap (λ n. for_each (take n ss) f) (sym k) ∙ is))) in
    rw (j, e) before

pub binders_all : (ss : List ℕ) (i : ℕ) (f total : Formula) → length ss ≡ i → for_each (take (length ss - i) ss) f ≡ total → f ≡ total
binders_all ss i f total e is = let n : length ss - i ≡ 0 = omega arith in let none : for_each (take 0 ss) f ≡ total = rw n at is in none

-- ---- the variables of so many binders as a list

abbrev pub variable_list : ℕ → ℕ → List Term
variable_list innermost zero = []
variable_list innermost (suc count) = variable (innermost + count) ∷ variable_list innermost count

variables_listed : (innermost count : ℕ) → terms_of (variable_list innermost count) ≡ variables_from innermost count
variables_listed innermost zero = refl
variables_listed innermost (suc count) = ap (term (variable (innermost + count))) (variables_listed innermost count)

pub variables_none : (innermost count : ℕ) → [] ++ variable_list innermost (count - 0) ≡ variable_list innermost count
variables_none innermost count = ap (variable_list innermost) (omega arith)

pub variables_more : (innermost count i : ℕ) (before : List Term) (t : Term) → i < count → t ≡ variable (innermost + (count - 1 - i)) → before ++ variable_list innermost (count - i) ≡ variable_list innermost count → (before ++ t ∷ []) ++ variable_list innermost (count - (i + 1)) ≡ variable_list innermost count
variables_more innermost count i before t h e is =
    let k : count - i ≡ suc (count - 1 - i) = omega arith in
    let j : count - (i + 1) ≡ count - 1 - i = omega arith in
    rw (j, e) (append_assoc before (variable (innermost + (count - 1 - i)) ∷ []) (variable_list innermost (count - 1 - i)) ∙ (ap (λ n. before ++ variable_list innermost n) (sym k) ∙ is))

pub variables_all : (innermost count i : ℕ) (all : List Term) → count ≡ i → all ++ variable_list innermost (count - i) ≡ variable_list innermost count → terms_of all ≡ variables_from innermost count
variables_all innermost count i all e is =
    let n : count - i ≡ 0 = omega arith in
    let none : all ++ variable_list innermost 0 ≡ variable_list innermost count = rw n at is in
    ap terms_of (sym (append-nil all) ∙ none) ∙ variables_listed innermost count

-- ---- the axiom of one fluent

module _ (signature : Signature) (number : ℕ) where
  abbrev pub axiom_of : SymbolRow → List Formula
  axiom_of row = release_axiom signature number row row.noninertial signature.manual_release

  -- what is said of the row of a fluent by its sorts and its kind
  by_row : (sorts : List ℕ) (noninertial : Bool) → option_map (λ (row : SymbolRow). row.sorts) (slice_get signature.fluents number) ≡ Some sorts → option_map (λ (row : SymbolRow). row.noninertial) (slice_get signature.fluents number) ≡ Some noninertial → (fs : List Formula)
      → ((row : SymbolRow) → row.sorts ≡ sorts → row.noninertial ≡ noninertial → axiom_of row ≡ fs) → option_map axiom_of (slice_get signature.fluents number) ≡ Some fs
  by_row sorts noninertial h g fs go = cases (slice_get signature.fluents number) h g
    where
      cases : (o : Option SymbolRow) → option_map (λ (row : SymbolRow). row.sorts) o ≡ Some sorts → option_map (λ (row : SymbolRow). row.noninertial) o ≡ Some noninertial → option_map axiom_of o ≡ Some fs
      cases None h g = cc
      cases (Some row) h g = let s : row.sorts ≡ sorts = cc in let n : row.noninertial ≡ noninertial = cc in ap Some (go row s n)

  pub axiom_always : (sorts : List ℕ) (f : Formula) → option_map (λ (row : SymbolRow). row.sorts) (slice_get signature.fluents number) ≡ Some sorts → option_map (λ (row : SymbolRow). row.noninertial) (slice_get signature.fluents number) ≡ Some true
      → f ≡ for_each sorts (for_all time_sort (atom released_at (term (fluent number (variables_from 1 (length sorts))) (term (variable 0) no_terms)))) → option_map axiom_of (slice_get signature.fluents number) ≡ Some (f ∷ [])
  axiom_always sorts f h g e = by_row sorts true h g (f ∷ []) (λ row s n. rw (n, s, e) refl)

  pub axiom_open : (sorts : List ℕ) → option_map (λ (row : SymbolRow). row.sorts) (slice_get signature.fluents number) ≡ Some sorts → option_map (λ (row : SymbolRow). row.noninertial) (slice_get signature.fluents number) ≡ Some false
      → signature.manual_release ≡ true → option_map axiom_of (slice_get signature.fluents number) ≡ Some []
  axiom_open sorts h g m = by_row sorts false h g [] (λ row s n. rw (n, m) refl)

  pub axiom_first : (sorts : List ℕ) (f : Formula) → option_map (λ (row : SymbolRow). row.sorts) (slice_get signature.fluents number) ≡ Some sorts → option_map (λ (row : SymbolRow). row.noninertial) (slice_get signature.fluents number) ≡ Some false
      → signature.manual_release ≡ false → f ≡ for_each sorts (negation (atom released_at (term (fluent number (variables_from 0 (length sorts))) (term (int (first_time signature)) no_terms)))) → option_map axiom_of (slice_get signature.fluents number) ≡ Some (f ∷ [])
  axiom_first sorts f h g m e = by_row sorts false h g (f ∷ []) (λ row s n. rw (n, m, s, e) refl)

  -- the axioms of the fluents from one on
  from_one_on : (fs : List Formula) → option_map axiom_of (slice_get signature.fluents number) ≡ Some fs → release_axioms_from signature number (drop number signature.fluents) ≡ fs ++ release_axioms_from signature (number + 1) (drop (number + 1) signature.fluents)
  from_one_on fs h = cases (slice_get signature.fluents number) refl h
    where
      next : number + 1 ≡ suc number
      next = omega arith

      cases : (o : Option SymbolRow) → slice_get signature.fluents number ≡ o → option_map axiom_of o ≡ Some fs → release_axioms_from signature number (drop number signature.fluents) ≡ fs ++ release_axioms_from signature (number + 1) (drop (number + 1) signature.fluents)
      cases None e h = cc
      cases (Some row) e h =
          let is : axiom_of row ≡ fs = cc in
          let here : drop number signature.fluents ≡ row ∷ drop (number + 1) signature.fluents = drop_more signature.fluents number row (slice_get_within signature.fluents number row e) ∙ ap (λ r. r ∷ drop (number + 1) signature.fluents) (get_or_from_slice_get signature.fluents number row row e) in
          ap (release_axioms_from signature number) here ∙ (ap (λ xs. xs ++ release_axioms_from signature (suc number) (drop (number + 1) signature.fluents)) is ∙ ap (λ n. fs ++ release_axioms_from signature n (drop (number + 1) signature.fluents)) (sym next))

  pub axioms_more : (before after fs : List Formula) → option_map axiom_of (slice_get signature.fluents number) ≡ Some fs → after ≡ before ++ fs → before ++ release_axioms_from signature number (drop number signature.fluents) ≡ release_axioms signature → after ++ release_axioms_from signature (number + 1) (drop (number + 1) signature.fluents) ≡ release_axioms signature
  axioms_more before after fs h e is = rw e (append_assoc before fs (release_axioms_from signature (number + 1) (drop (number + 1) signature.fluents)) ∙ (ap (λ xs. before ++ xs) (sym (from_one_on fs h)) ∙ is))
