-- literals made false one by one
use Rattle.std.proofs.Common.{◌≡◌, ℕ, ◌+◌, ◌<◌, ◌≤◌, Bool, true, false, List, [], ◌∷◌, ◌++◌, Option, Some, None, length, take, get_or, replicate, refl, sym, ap, ◌∙◌, subst, inl, inr, arith}
use Rattle.std.proofs.lemmas.Bool.{true≢false}
use Rattle.std.proofs.lemmas.List.{take_more, length-take-le, get_or-take}
use Rattle.std.proofs.lemmas.List.Sums.{fold_push}
use Rattle.std.specs.Prelude.{is_some, option_map}
use Rattle.ec_clause.specs.Literal.{Literal, opposite}
use Rattle.ec_clause.specs.ClauseList.{IsClause}
use Rattle.ec_clause.specs.Truth.{Truth, literal_value, agree, with_true}
use Rattle.ec_clause.specs.Step.{set_false, all_false}
use Rattle.ec_clause.proofs.StepLemmas.{none_everywhere, false_where, IsClause_push}

-- the literals are a clause, and it is false
pub record AreFalse (variables : ℕ) (lits : List Literal) (p : Truth) : Type 0 where
  pub clause : IsClause variables lits
  pub truth : p ≡ all_false variables lits

is_none_from : {A : Type 0} (o : Option A) → is_some o ≡ false → o ≡ None
is_none_from None h = refl
is_none_from (Some x) h = cc

map_none : (f : Bool → Bool) (o : Option Bool) → option_map f o ≡ None → o ≡ None
map_none f None h = refl
map_none f (Some b) h = cc

-- a literal without a value has a variable without one
pub free_from : (p : Truth) (x : Literal) → is_some (literal_value p x) ≡ false → get_or p x.variable None ≡ None
free_from p x h = map_none (agree x.positive) (get_or p x.variable None) (is_none_from (literal_value p x) h)

-- one literal more
pub falses_more : (n : ℕ) (lits : List Literal) (i : ℕ) (p q : Truth) (x : Literal) → AreFalse n (take i lits) p → i < length lits → x ≡ get_or lits i x → 1 ≤ x.variable → x.variable ≤ n → is_some (literal_value p x) ≡ false → q ≡ with_true p (opposite x) → AreFalse n (take (i + 1) lits) q
falses_more n lits i p q x f lt is low high none grown =
    let more : take (i + 1) lits ≡ take i lits ++ x ∷ [] = take_more lits i x lt ∙ ap (λ y. take i lits ++ y ∷ []) (sym is) in
    let free : get_or (all_false n (take i lits)) x.variable None ≡ None = subst (λ (r : Truth). get_or r x.variable None ≡ None) f.truth (free_from p x none) in
    record {
      clause = rw more (IsClause_push n (take i lits) x f.clause low high free);
      truth = rw more (grown ∙ ap (λ r. set_false r x) f.truth ∙ sym (fold_push set_false (replicate (n + 1) None) (take i lits) x));
    }

-- a literal that has a value already is of the variable of one before it
pub no_clause : (n : ℕ) (lits : List Literal) (i : ℕ) (p : Truth) (x : Literal) → AreFalse n (take i lits) p → i < length lits → x ≡ get_or lits i x → is_some (literal_value p x) ≡ true → IsClause n lits → ⊥
no_clause n lits i p x f lt is some h =
    elim (false_where (take i lits) (replicate (n + 1) None) x.variable x) [
      | inl same ↦ (
          let none : get_or p x.variable None ≡ None = ap (λ q. get_or q x.variable None) f.truth ∙ same ∙ none_everywhere (n + 1) x.variable in
          true≢false (sym some ∙ ap (λ o. is_some (option_map (agree x.positive) o)) none))
      | inr w ↦ (
          let before : w.0 < i = omega (arith, w.1, length-take-le i lits (omega arith)) in
          h.apart w.0 i x before lt (ap (λ (y : Literal). y.variable) (sym (get_or-take i lits w.0 x before)) ∙ w.2 ∙ ap (λ (y : Literal). y.variable) is))
    ]
