-- what meets a clause list and all that was blocked meets all steps
use Rattle.std.proofs.Common.{◌≡◌, ℕ, ◌+◌, ◌-◌, ◌⊎◌, Bool, true, false, cond, List, [], ◌∷◌, ◌++◌, Option, Some, None, length, nat_le, refl, sym, ◌∙◌, inl, inr, arith}
use Rattle.std.proofs.lemmas.Bool.{cases_Bool, and_parts, leb-true, true≢false, or_from}
use Rattle.std.proofs.lemmas.List.Elements.{All-nil, All-cons, All-push, Contains-append_left}
use Rattle.std.proofs.lemmas.List.Quantifiers.{Any-push}
use Rattle.std.specs.Prelude.{Any}
use Rattle.ec_clause.specs.Literal.{Literal}
use Rattle.ec_clause.specs.ClauseList.{ClauseList, clause_at}
use Rattle.ec_clause.specs.Truth.{Truth, unit_literal}
use Rattle.ec_clause.specs.Step.{Fault, Unknown, is_known, all_false, unit_or, go_on, hints_fault, IsStep, clause_holds, NamedHold, AllHold}
use Rattle.ec_clause.proofs.Sound.{step_holds}
use Rattle.ec_rup.specs.Checked.{Checked, is_empty}
use Rattle.ec_rup.specs.Reached.{IsReached, begun, blocked, stepped, ClosedLeavesNoneOut}

abbrev Meets : (ℕ → Bool) → List Literal → Type 0
Meets w lits = clause_holds w lits ≡ true

known_holds : (c : ClauseList) (w : ℕ → Bool) (h : ℕ) → AllHold w c → is_known c h ≡ true → Meets w (clause_at c h)
known_holds c w h all known =
    let parts = and_parts (nat_le 1 h) (nat_le h (length c.clauses)) known in
    all (h - 1) [] (omega (arith, leb-true 1 h parts.0, leb-true h (length c.clauses) parts.1))

known_from : (b : Bool) (x : Option Fault) (at : ℕ) → cond b x (Some (Unknown at)) ≡ None → (b ≡ true) × (x ≡ None)
known_from true x at h = (refl, h)
known_from false x at h = cc

unit_from : (rest : Truth → Option Fault) (at : ℕ) (o : Option Truth) → go_on rest at o ≡ None → (q : Truth) × (rest q ≡ None)
unit_from rest at None h = cc
unit_from rest at (Some q) h = (q, h)

-- hints without a fault name clauses of the list
named_hold : (c : ClauseList) (w : ℕ → Bool) (hints : List ℕ) (p : Truth) (at : ℕ) → AllHold w c → hints_fault c hints p at ≡ None → NamedHold w c hints
named_hold c w [] p at all e = cc
named_hold c w (h ∷ []) p at all e =
    let known = known_from (is_known c h) _ at e in
    All-cons (λ n. Meets w (clause_at c n)) h [] (known_holds c w h all known.0) (All-nil (λ n. Meets w (clause_at c n)))
named_hold c w (h ∷ g ∷ gs) p at all e =
    let known = known_from (is_known c h) _ at e in
    let next = unit_from (λ q. hints_fault c (g ∷ gs) q (at + 1)) at (unit_or (unit_literal p (clause_at c h)) p) known.1 in
    All-cons (λ n. Meets w (clause_at c n)) h (g ∷ gs) (known_holds c w h all known.0) (named_hold c w (g ∷ gs) next.0 (at + 1) all next.1)

step-meets : (c : ClauseList) (lits : List Literal) (hints : List ℕ) (w : ℕ → Bool) → IsStep c lits hints → AllHold w c → Meets w lits
step-meets c lits hints w step all = step_holds c lits hints w step (named_hold c w hints (all_false c.variables lits) 0 all step.follows)

-- a clause that a truth meets has a literal
has_literal : (w : ℕ → Bool) (lits : List Literal) → Meets w lits → is_empty lits ≡ false
has_literal w [] h = cc
has_literal w (l ∷ ls) h = refl

abbrev Fails : (ℕ → Bool) → List Literal → Type 0
Fails w lits = clause_holds w lits ≡ false

-- a truth that a blocked clause forbids stays forbidden
fails_before : (w : ℕ → Bool) (before more : List (List Literal)) → Any (Fails w) before → Any (Fails w) (before ++ more)
fails_before w before more any =
    let there = Contains-append_left before more any.1 (any.0, any.2, any.3) in
    (there.0, any.1, there.1, there.2, any.4)

-- a truth that meets the list is forbidden, or meets all clauses so far, none of which is without a literal
reached_meets : (list : ClauseList) (forbidden : List (List Literal)) (c : Checked) (w : ℕ → Bool) → IsReached list forbidden c → AllHold w list → Any (Fails w) forbidden ⊎ (AllHold w c.list × (c.closed ≡ false))
reached_meets list forbidden c w begun all = inr (all, refl)
reached_meets list forbidden c w (blocked before d lits r) all =
    elim (reached_meets list before d w r all) [
      | inl any ↦ inl (fails_before w before (lits ∷ []) any)
      | inr meets ↦ elim (cases_Bool (clause_holds w lits)) [
        | inl t ↦ inr (All-push (Meets w) d.list.clauses lits meets.0 t, meets.1)
        | inr f ↦ inl (Any-push (Fails w) before lits f)
      ]
    ]
reached_meets list forbidden c w (stepped before d lits hints r step) all =
    elim (reached_meets list before d w r all) [
      | inl any ↦ inl any
      | inr meets ↦ (
          let here = step-meets d.list lits hints w step meets.0 in
          inr (All-push (Meets w) d.list.clauses lits meets.0 here, or_from d.closed (is_empty lits) meets.1 (has_literal w lits here)))
    ]

pub closed-leaves_none_out : ClosedLeavesNoneOut
closed-leaves_none_out list forbidden c r closed w all =
    elim (reached_meets list forbidden c w r all) [
      | inl any ↦ any
      | inr meets ↦ absurd (true≢false (sym closed ∙ meets.1))
    ]
