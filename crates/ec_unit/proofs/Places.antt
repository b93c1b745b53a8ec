-- the values of literals, and the places where they stand on a trail
use Rattle.std.proofs.Common.{◌≡◌, ◌≢◌, ℕ, zero, suc, ◌<◌, ◌≤◌, Bool, true, false, not, List, Option, Some, None, length, take, get_or, refl, sym, ap, ◌∙◌, subst, inl, inr, arith}
use Rattle.std.proofs.lemmas.Bool.{cases_lt, cases_eq}
use Rattle.std.proofs.lemmas.Bool.Decides.{Decides-int_eq}
use Rattle.std.proofs.lemmas.List.{take_all}
use Rattle.std.proofs.lemmas.Option.{slice_get-get_or}
use Rattle.std.specs.Prelude.{option_map, IfSome, slice_get}
use Rattle.std.proofs.Common.{int_eq}
use Rattle.ec_clause.specs.Literal.{Literal, opposite, signed, number_of}
use Rattle.ec_clause.specs.Truth.{Truth, agree, literal_value}
use Rattle.ec_trail.specs.declared.trail.Entry.{Entry}
use Rattle.ec_trail.specs.TrailList.{values_of, IsTrail}
use Rattle.ec_trail.proofs.TrailLemmas.{value_at}
use Rattle.ec_trail.proofs.Values.{same_literal, true_sign}
use Rattle.ec_unit.specs.Leaning.{IsTrueAt}

false_sign : (s : Bool) (o : Option Bool) → option_map (agree s) o ≡ Some false → o ≡ Some (not s)
false_sign s None h = cc
false_sign true (Some true) h = cc
false_sign true (Some false) h = refl
false_sign false (Some true) h = refl
false_sign false (Some false) h = cc

agree_same : (s : Bool) → agree s s ≡ true
agree_same true = refl
agree_same false = refl

agree_not : (s : Bool) → agree s (not s) ≡ false
agree_not true = refl
agree_not false = refl

-- two entries at different places have different variables
same_place : (n : ℕ) (es : List Entry) → IsTrail n es → (i j : ℕ) (d : Entry) → i < j → j < length es → (get_or es i d).lit.variable ≢ (get_or es j d).lit.variable
same_place n es h i j d lt lj = λ same.
    let none = h.fresh j d lj in
    let some = value_at n es h j i d lt (omega arith) in
    let clash : Some (get_or es i d).lit.positive ≡ None = sym some ∙ ap (λ v. get_or (values_of n (take j es)) v None) same ∙ none in
    cc

pub one_place : (n : ℕ) (es : List Entry) → IsTrail n es → (i j : ℕ) (d : Entry) → i < length es → j < length es → (get_or es i d).lit ≡ (get_or es j d).lit → i ≡ j
one_place n es h i j d li lj same =
    let variable = ap (λ (l : Literal). l.variable) same in
    elim (cases_eq i j) [
      | inl e ↦ e
      | inr ne ↦ absurd (elim (cases_lt i j) [
        | inl l ↦ same_place n es h i j d l lj variable
        | inr g ↦ same_place n es h j i d (omega arith) li (sym variable)
      ])
    ]

value_of_entry : (n : ℕ) (es : List Entry) (i : ℕ) (d : Entry) → IsTrail n es → i < length es → get_or (values_of n es) (get_or es i d).lit.variable None ≡ Some (get_or es i d).lit.positive
value_of_entry n es i d h lt =
    rw (take_all (length es) es (omega arith)) at (value_at n es h (length es) i d lt (omega arith))

pub true_from : (n : ℕ) (es : List Entry) (l : Literal) (i : ℕ) (d : Entry) → IsTrail n es → i < length es → (get_or es i d).lit ≡ l → literal_value (values_of n es) l ≡ Some true
true_from n es l i d h lt same =
    let value = value_of_entry n es i d h lt in
    subst (λ (k : Literal). option_map (agree k.positive) (get_or (values_of n es) k.variable None) ≡ Some true) same (ap (option_map (agree (get_or es i d).lit.positive)) value ∙ ap Some (agree_same (get_or es i d).lit.positive))

not_not : (s : Bool) → not (not s) ≡ s
not_not true = refl
not_not false = refl

pub opposite_twice : (l : Literal) → opposite (opposite l) ≡ l
opposite_twice l = same_literal (opposite (opposite l)) l refl (not_not l.positive)

pub false_from_true : (p : Truth) (l : Literal) → literal_value p (opposite l) ≡ Some true → literal_value p l ≡ Some false
false_from_true p l h = ap (option_map (agree l.positive)) (true_sign (not l.positive) (get_or p l.variable None) h) ∙ ap Some (agree_not l.positive)

agree_flip : (s : Bool) → agree (not s) (not s) ≡ true
agree_flip true = refl
agree_flip false = refl

pub true_from_false : (p : Truth) (l : Literal) → literal_value p l ≡ Some false → literal_value p (opposite l) ≡ Some true
true_from_false p l h = ap (option_map (agree (not l.positive))) (false_sign l.positive (get_or p l.variable None) h) ∙ ap Some (agree_flip l.positive)

-- the place of a literal
pub true_answer : (es : List Entry) (l : Literal) (o : Option ℕ) → IfSome o (λ i. i < length es) → IfSome o (λ i. IfSome (slice_get es i) (λ e. e.lit ≡ l)) → IfSome o (IsTrueAt es l)
true_answer es l None within there = tt
true_answer es l (Some i) within there = record { within = within; there = λ d. rw (slice_get-get_or es i d within) at there }

same_signed : (s t : Bool) (m n : ℕ) → 1 ≤ n → signed s m ≡ signed t n → (m ≡ n) × (s ≡ t)
same_signed true true m n low h = (cc, refl)
same_signed true false m zero low h = absurd (omega arith)
same_signed true false m (suc n) low h = cc
same_signed false true zero n low h = absurd (let z : zero ≡ n = cc in omega arith)
same_signed false true (suc m) n low h = cc
same_signed false false m zero low h = absurd (omega arith)
same_signed false false zero (suc n) low h = cc
same_signed false false (suc m) (suc n) low h = (let e : m ≡ n = cc in (ap suc e, refl))

-- literals are compared by their numbers
pub same_number : (k l : Literal) → 1 ≤ l.variable → int_eq (number_of k) (number_of l) ≡ true → k ≡ l
same_number k l low h =
    let e = same_signed k.positive l.positive k.variable l.variable low ((Decides-int_eq (number_of k) (number_of l)).0 h) in
    same_literal k l e.0 e.1
