-- hints followed one by one
use Rattle.std.proofs.Common.{◌≡◌, ℕ, ◌+◌, ◌<◌, ◌≤◌, List, ◌∷◌, Some, length, drop, get_or, sym, ap, ◌∙◌, arith}
use Rattle.std.proofs.lemmas.Bool.{cond-true}
use Rattle.std.proofs.lemmas.List.{drop_more, length-drop}
use Rattle.ec_clause.specs.Literal.{Literal}
use Rattle.ec_clause.specs.ClauseList.{ClauseList, clause_at, IsClause}
use Rattle.ec_clause.specs.Truth.{Truth, with_true, unit_literal}
use Rattle.ec_clause.specs.Step as step
use Rattle.ec_clause.specs.Step.{is_known, unit_or, go_on, hints_fault, all_false}
use Rattle.ec_clause.proofs.StepLemmas.{fault_more, known, fault_is}
use Rattle.ec_rup.specs.Refused.{Says, IsRefused}
use Rattle.ec_rup.specs.declared.fault.StepFault.{StepFault}
use Rattle.ec_rup.specs.declared.fault.StepFault.TheVariants.{Lits, Unknown, NotUnit, NotFalse, Memory}

-- what is wrong first with the hints is what is wrong first with those from this place on
abbrev pub IsFollowed : ClauseList → List ℕ → Truth → Truth → ℕ → Type 0
IsFollowed c hints old now i = hints_fault c (drop i hints) now i ≡ hints_fault c hints old 0

-- one unit clause more
pub followed_more : (c : ClauseList) (hints : List ℕ) (old p q : Truth) (i : ℕ) (l : Literal) → IsFollowed c hints old p i → i + 1 < length hints → 1 ≤ get_or hints i 0 → get_or hints i 0 ≤ length c.clauses → unit_literal p (clause_at c (get_or hints i 0)) ≡ Some l → q ≡ with_true p l → IsFollowed c hints old q (i + 1)
followed_more c hints old p q i l f lt low high unit grown =
    let h = get_or hints i 0 in
    let rest = drop (i + 1) hints in
    let more : 0 < length rest = omega (arith, length-drop (i + 1) hints) in
    let step : hints_fault c (h ∷ rest) p i ≡ hints_fault c rest (with_true p l) (i + 1) =
    fault_more c h rest p i more ∙ cond-true (is_known c h) _ _ (known c h low high) ∙ ap (λ o. go_on (λ r. hints_fault c rest r (i + 1)) i (unit_or o p)) unit in
    ap (λ r. hints_fault c rest r (i + 1)) grown ∙ sym step ∙ ap (λ xs. hints_fault c xs p i) (sym (drop_more hints i 0 (omega arith))) ∙ f

-- what is wrong first with the hints of a clause is what is wrong first
pub refused_from : (c : ClauseList) (lits : List Literal) (hints : List ℕ) (answer : StepFault) → IsClause c.variables lits → Says (hints_fault c hints (all_false c.variables lits) 0) answer → IsRefused c lits hints answer
refused_from c lits hints Lits h says = fault_is c lits hints step.Lits h says
refused_from c lits hints (Unknown at) h says = fault_is c lits hints (step.Unknown at) h says
refused_from c lits hints (NotUnit at) h says = fault_is c lits hints (step.NotUnit at) h says
refused_from c lits hints NotFalse h says = fault_is c lits hints step.NotFalse h says
refused_from c lits hints Memory h says = says
