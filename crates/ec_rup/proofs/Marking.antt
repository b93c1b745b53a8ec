-- values that come and go with their marks
use Rattle.std.proofs.Common.{◌≡◌, ℕ, ◌<◌, List, [], ◌∷◌, ◌++◌, Some, None, length, get_or, set, replicate, refl, sym, ◌∙◌, inl, inr, arith}
use Rattle.std.proofs.lemmas.Bool.{cases_eq}
use Rattle.std.proofs.lemmas.List.{get_or-set_same, get_or-set_other, length-set, length-replicate, ext_get_or}
use Rattle.std.proofs.lemmas.List.Elements.{All-push, All-pop, Contains-append_left, Contains-push, Contains-push_cases}
use Rattle.ec_clause.specs.Literal.{Literal}
use Rattle.ec_clause.specs.Truth.{Truth, with_true}
use Rattle.ec_clause.proofs.StepLemmas.{none_everywhere, nothing}
use Rattle.ec_rup.specs.Marked.{AreMarked}

-- no variable has a value, and none is marked
pub marked_none : (n : ℕ) → AreMarked (replicate n None) []
marked_none n = record { each = λ v. inl (none_everywhere n v); within = λ k d lt. absurd (omega arith) }

-- a mark before the value
pub marked_more : (p : Truth) (marked : List ℕ) (l : Literal) → AreMarked p marked → l.variable < length p → AreMarked (with_true p l) (marked ++ l.variable ∷ [])
marked_more p marked l h lt = record {
  each = λ v. elim (cases_eq v l.variable) [
    | inl same ↦ inr (rw same (Contains-push marked l.variable))
    | inr ne ↦ elim (h.each v) [
      | inl none ↦ inl (get_or-set_other p l.variable v (Some l.positive) None ne ∙ none)
      | inr there ↦ inr (Contains-append_left marked (l.variable ∷ []) v there)
    ]
  ];
  within = λ k d below. rw length-set (All-push (λ v. v < length p) marked l.variable h.within lt k d below);
}

-- the last mark's value is taken back
pub marked_back : (p : Truth) (marked : List ℕ) (v : ℕ) → AreMarked p (marked ++ v ∷ []) → AreMarked (set p v None) marked
marked_back p marked v h =
    let within = All-pop (λ u. u < length p) (marked ++ v ∷ []) marked (Some v) refl h.within in
    let there : v < length p = within.1 in
    record {
      each = λ w. elim (cases_eq w v) [
        | inl same ↦ inl (rw same (get_or-set_same p v nothing None there))
        | inr ne ↦ elim (h.each w) [
          | inl none ↦ inl (get_or-set_other p v w nothing None ne ∙ none)
          | inr marks ↦ elim (Contains-push_cases marked v w marks) [ inl before ↦ inr before | inr last ↦ absurd (ne (sym last)) ]
        ]
      ];
      within = λ k d lt. rw length-set (within.0 k d lt);
    }

-- where nothing is marked, no variable has a value
pub unmarked_none : (p : Truth) → AreMarked p [] → p ≡ replicate (length p) None
unmarked_none p h =
    ext_get_or nothing p (replicate (length p) nothing) (sym (length-replicate (length p) nothing)) (λ v lt. (
    let none : get_or p v nothing ≡ nothing = elim (h.each v) [ inl e ↦ e | inr there ↦ absurd (omega (arith, there.1)) ] in
    none ∙ sym (none_everywhere (length p) v)))
