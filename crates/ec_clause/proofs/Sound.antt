-- a step holds wherever the clauses before it do
use Rattle.std.proofs.Common.{◌≡◌, ℕ, ◌+◌, Bool, true, false, not, cond, List, [], ◌∷◌, Option, Some, None, length, get_or, replicate, refl, sym, ap, ◌∙◌, inl, inr}
use Rattle.std.proofs.lemmas.Bool.{cases_lt, cases_eq, cases_Bool, or_parts, or_from, or_cases, true≢false}
use Rattle.std.proofs.lemmas.List.{get_or-set_same, get_or-set_other, set_past}
use Rattle.std.specs.Prelude.{fold, option_map}
use Rattle.ec_clause.specs.Literal.{Literal, opposite}
use Rattle.ec_clause.specs.ClauseList.{ClauseList, clause_at}
use Rattle.ec_clause.specs.Truth.{Truth, agree, literal_value, with_true, is_false, unit_literal}
use Rattle.ec_clause.specs.Step.{Fault, is_known, set_false, all_false, unit_or, go_on, hints_fault, IsStep, holds, clause_holds, NamedHold}
use Rattle.ec_clause.proofs.TruthLemmas.{false_parts, unit_parts}
use Rattle.ec_clause.proofs.StepLemmas.{none_everywhere}
use Rattle.std.proofs.lemmas.List.Elements.{All-head, All-tail}

-- a truth of all variables goes on from one of some
pub record GoesOn (v : ℕ → Bool) (p : Truth) : Type 0 where
  pub each : (w : ℕ) (b : Bool) → get_or p w None ≡ Some b → v w ≡ b

pub map_some : (f : Bool → Bool) (o : Option Bool) (b : Bool) → option_map f o ≡ Some b → (x : Bool) × (o ≡ Some x) × (f x ≡ b)
map_some f None b h = cc
map_some f (Some x) b h = (x, refl, cc)

pub holds_as : (v : ℕ → Bool) (p : Truth) (l : Literal) (b : Bool) → GoesOn v p → literal_value p l ≡ Some b → holds v l ≡ b
holds_as v p l b g h =
    let m = map_some (agree l.positive) (get_or p l.variable None) b h in
    ap (agree l.positive) (g.each l.variable m.0 m.1) ∙ m.2

pub false_fails : (v : ℕ → Bool) (p : Truth) (c : List Literal) → GoesOn v p → is_false p c ≡ true → clause_holds v c ≡ false
false_fails v p [] g h = refl
false_fails v p (x ∷ xs) g h =
    let parts = false_parts (literal_value p x) (is_false p xs) h in
    or_from (holds v x) (clause_holds v xs) (holds_as v p x false g parts.0) (false_fails v p xs g parts.1)

-- the one literal left of a clause that holds
pub unit_holds : (v : ℕ → Bool) (p : Truth) (c : List Literal) (l : Literal) → GoesOn v p → unit_literal p c ≡ Some l → clause_holds v c ≡ true → holds v l ≡ true
unit_holds v p [] l g h t = cc
unit_holds v p (x ∷ xs) l g h t =
    elim (unit_parts (literal_value p x) x l (is_false p xs) (unit_literal p xs) h) [
      | inl w ↦ elim (or_cases (holds v x) (clause_holds v xs) t) [
        | inl here ↦ ap (holds v) (sym w.2) ∙ here
        | inr there ↦ absurd (true≢false (sym there ∙ false_fails v p xs g w.1))
      ]
      | inr w ↦ elim (or_cases (holds v x) (clause_holds v xs) t) [
        | inl here ↦ absurd (true≢false (sym here ∙ holds_as v p x false g w.0))
        | inr there ↦ unit_holds v p xs l g w.1 there
      ]
    ]

-- a literal holds exactly with its sign
agree_true : (s b : Bool) → agree s b ≡ true → b ≡ s
agree_true true b h = h
agree_true false true h = cc
agree_true false false h = refl

agree_opposite : (s b : Bool) → agree s b ≡ false → agree (not s) b ≡ true
agree_opposite true true h = cc
agree_opposite true false h = refl
agree_opposite false true h = refl
agree_opposite false false h = cc

pub goes_on_with : (v : ℕ → Bool) (p : Truth) (l : Literal) → GoesOn v p → holds v l ≡ true → GoesOn v (with_true p l)
goes_on_with v p l g h = record {
  each = λ w b e. elim (cases_lt l.variable (length p)) [
    | inl lt ↦ elim (cases_eq w l.variable) [
      | inl same ↦ (
          let at : Some l.positive ≡ Some b = sym (get_or-set_same p l.variable (Some l.positive) None lt) ∙ (rw same at e) in
          let sign : l.positive ≡ b = cc in
          ap v same ∙ agree_true l.positive (v l.variable) h ∙ sign)
      | inr ne ↦ g.each w b (sym (get_or-set_other p l.variable w (Some l.positive) None ne) ∙ e)
    ]
    | inr ge ↦ g.each w b (rw (set_past p l.variable (Some l.positive) ge) at e)
  ];
}

goes_on_false : (v : ℕ → Bool) (lits : List Literal) (p : Truth) → GoesOn v p → clause_holds v lits ≡ false → GoesOn v (fold set_false p lits)
goes_on_false v [] p g h = g
goes_on_false v (x ∷ xs) p g h =
    let parts = or_parts (holds v x) (clause_holds v xs) h in
    goes_on_false v xs (set_false p x) (goes_on_with v p (opposite x) g (agree_opposite x.positive (v x.variable) parts.0)) parts.1

-- the clause of a number holds
abbrev Named : (ℕ → Bool) → ClauseList → ℕ → Type 0
Named v c h = clause_holds v (clause_at c h) ≡ true

goes_on_none : (v : ℕ → Bool) (n : ℕ) → GoesOn v (replicate n None)
goes_on_none v n = record { each = λ w b e. (let none = none_everywhere n w in cc) }

cond_none : (b : Bool) (x : Option Fault) (f : Fault) → cond b x (Some f) ≡ None → (b ≡ true) × (x ≡ None)
cond_none true x f h = (refl, h)
cond_none false x f h = cc

cond_is_none : (b : Bool) (f : Fault) → cond b None (Some f) ≡ None → b ≡ true
cond_is_none true f h = refl
cond_is_none false f h = cc

go_on_none : (rest : Truth → Option Fault) (at : ℕ) (o : Option Literal) (p : Truth) → go_on rest at (unit_or o p) ≡ None → (l : Literal) × (o ≡ Some l) × (rest (with_true p l) ≡ None)
go_on_none rest at None p h = cc
go_on_none rest at (Some l) p h = (l, refl, h)

-- no truth of all variables that goes on from a partial one makes the clauses true that such hints name
pub hints_end : (c : ClauseList) (v : ℕ → Bool) (hints : List ℕ) (p : Truth) (at : ℕ) → NamedHold v c hints → GoesOn v p → hints_fault c hints p at ≡ None → ⊥
hints_end c v [] p at all g e = cc
hints_end c v (h ∷ []) p at all g e =
    let known = cond_none (is_known c h) _ _ e in
    let is = cond_is_none (is_false p (clause_at c h)) _ known.1 in
    true≢false (sym (All-head (Named v c) h [] all) ∙ false_fails v p (clause_at c h) g is)
hints_end c v (h ∷ k ∷ ks) p at all g e =
    let known = cond_none (is_known c h) _ _ e in
    let next = go_on_none (λ q. hints_fault c (k ∷ ks) q (at + 1)) at (unit_literal p (clause_at c h)) p known.1 in
    let l = next.0 in
    hints_end c v (k ∷ ks) (with_true p l) (at + 1) (All-tail (Named v c) h (k ∷ ks) all) (goes_on_with v p l g (unit_holds v p (clause_at c h) l g next.1 (All-head (Named v c) h (k ∷ ks) all))) next.2

-- a step holds wherever the clauses that its hints name do
pub step_holds : (c : ClauseList) (lits : List Literal) (hints : List ℕ) (v : ℕ → Bool) → IsStep c lits hints → NamedHold v c hints → clause_holds v lits ≡ true
step_holds c lits hints v step all =
    elim (cases_Bool (clause_holds v lits)) [
      | inl t ↦ t
      | inr f ↦ absurd (hints_end c v hints (all_false c.variables lits) 0 all (goes_on_false v lits _ (goes_on_none v (c.variables + 1)) f) step.follows)
    ]
