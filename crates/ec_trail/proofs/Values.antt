-- the entries behind the values of a trail
use Rattle.std.proofs.Common.{◌≡◌, ℕ, suc, ◌+◌, ◌<◌, ◌≤◌, ◌⊎◌, Bool, true, false, List, [], ◌∷◌, Option, Some, None, length, take, get_or, replicate, refl, sym, ap, ◌∙◌, inl, inr, arith}
use Rattle.std.proofs.lemmas.Bool.{cases_lt, cases_eq}
use Rattle.std.proofs.lemmas.List.{get_or-set_same, get_or-set_other, get_or_default, set_past}
use Rattle.std.proofs.lemmas.Option.{slice_get-get_or}
use Rattle.std.specs.Prelude.{fold, option_map, IfSome, slice_get}
use Rattle.ec_clause.specs.Literal.{Literal}
use Rattle.ec_clause.specs.Truth.{Truth, agree, literal_value}
use Rattle.ec_clause.proofs.StepLemmas.{none_everywhere}
use Rattle.ec_trail.specs.declared.trail.Entry.{Entry}
use Rattle.ec_trail.specs.TrailList.{add_entry, values_of, IsKept}
use Rattle.ec_trail.proofs.BackTo.{some_entry}

pub same_literal : (k l : Literal) → k.variable ≡ l.variable → k.positive ≡ l.positive → k ≡ l
same_literal k l v s = ap (λ x. record { variable = x; positive = k.positive }) v ∙ ap (λ x. record { variable = l.variable; positive = x }) s

pub true_sign : (s : Bool) (o : Option Bool) → option_map (agree s) o ≡ Some true → o ≡ Some s
true_sign s None h = cc
true_sign true (Some true) h = refl
true_sign true (Some false) h = cc
true_sign false (Some true) h = cc
true_sign false (Some false) h = refl

-- a value of the trail is that of an entry
values_where : (es : List Entry) (p : Truth) (v : ℕ) (b : Bool) (d : Entry) → get_or (fold add_entry p es) v None ≡ Some b → (get_or p v None ≡ Some b) ⊎ ((i : ℕ) × (i < length es) × ((get_or es i d).lit.variable ≡ v) × ((get_or es i d).lit.positive ≡ b))
values_where [] p v b d h = inl h
values_where (e ∷ es) p v b d h =
    elim (values_where es (add_entry p e) v b d h) [
      | inl here ↦ elim (cases_eq v e.lit.variable) [
        | inl same ↦ elim (cases_lt e.lit.variable (length p)) [
          | inl lt ↦ (
              let at : Some e.lit.positive ≡ Some b = sym (get_or-set_same p e.lit.variable (Some e.lit.positive) None lt) ∙ (rw same at here) in
              let sign : e.lit.positive ≡ b = cc in
              inr (0, omega arith, sym same, sign))
          | inr ge ↦ inl (rw (set_past p e.lit.variable (Some e.lit.positive) ge) at here)
        ]
        | inr ne ↦ inl (sym (get_or-set_other p e.lit.variable v (Some e.lit.positive) None ne) ∙ here)
      ]
      | inr w ↦ inr (suc w.0, omega (arith, w.1), w.2, w.3)
    ]

pub value_where : (n : ℕ) (es : List Entry) (v : ℕ) (b : Bool) (d : Entry) → get_or (values_of n es) v None ≡ Some b → (i : ℕ) × (i < length es) × ((get_or es i d).lit.variable ≡ v) × ((get_or es i d).lit.positive ≡ b)
value_where n es v b d h =
    elim (values_where es (replicate (n + 1) None) v b d h) [
      | inl there ↦ absurd (let none = none_everywhere (n + 1) v in cc)
      | inr w ↦ w
    ]

-- a true literal stands on the trail
pub true_where : (n : ℕ) (es : List Entry) (l : Literal) (d : Entry) → literal_value (values_of n es) l ≡ Some true → (i : ℕ) × (i < length es) × ((get_or es i d).lit ≡ l)
true_where n es l d h =
    let w = value_where n es l.variable l.positive d (true_sign l.positive (get_or (values_of n es) l.variable None) h) in
    (w.0, w.1, same_literal (get_or es w.0 d).lit l w.2 w.3)

-- it stands at its variable's place
pub true_place : (n capacity : ℕ) (es : List Entry) (values : Truth) (places : List ℕ) (l : Literal) (place : ℕ) → IsKept n capacity es values places → l.variable ≤ n → place ≡ get_or places l.variable place → literal_value (values_of n es) l ≡ Some true → (place < length es) × IfSome (slice_get es place) (λ e. e.lit ≡ l)
true_place n capacity es values places l place h le at is =
    let w = true_where n es l some_entry is in
    let zero_at : place ≡ get_or places l.variable 0 = at ∙ get_or_default places l.variable place 0 (omega (arith, h.table)) in
    let here : place ≡ w.0 = zero_at ∙ ap (λ (k : Literal). get_or places k.variable 0) (sym w.2) ∙ h.at_place w.0 some_entry w.1 in
    let lt : place < length es = omega (arith, w.1) in
    (lt, rw (slice_get-get_or es place some_entry lt) (ap (λ i. (get_or es i some_entry).lit) here ∙ w.2))
