-- hints one by one, and the truth in which a clause is false
use Rattle.std.proofs.Common.{◌≡◌, ◌≢◌, ℕ, zero, suc, ◌+◌, ◌<◌, ◌≤◌, ◌⊎◌, Bool, true, false, not, cond, List, [], ◌∷◌, ◌++◌, Option, Some, None, length, get_or, replicate, refl, sym, ◌∙◌, inl, inr, arith}
use Rattle.std.proofs.lemmas.Bool.{cases_eq, cases_lt, le-leb, and_from}
use Rattle.std.proofs.lemmas.List.{get_or-set_same, get_or-set_other, get_or-replicate, get_or_past, length-set, length-replicate}
use Rattle.std.proofs.lemmas.List.Elements.{All-push}
use Rattle.std.proofs.lemmas.List.Quantifiers.{all_pairs_push}
use Rattle.std.specs.Prelude.{fold, nat_le}
use Rattle.ec_clause.specs.Literal.{Literal}
use Rattle.ec_clause.specs.ClauseList.{ClauseList, clause_at, IsClause}
use Rattle.ec_clause.specs.Truth.{Truth, with_true, is_false, unit_literal}
use Rattle.ec_clause.specs.Step.{Fault, Lits, Unknown, NotUnit, NotFalse, is_known, set_false, all_false, unit_or, go_on, hints_fault, IsFault}

-- a hint that is not the last
pub fault_more : (c : ClauseList) (h : ℕ) (rest : List ℕ) (p : Truth) (at : ℕ) → 0 < length rest → hints_fault c (h ∷ rest) p at ≡ cond (is_known c h) (go_on (λ q. hints_fault c rest q (at + 1)) at (unit_or (unit_literal p (clause_at c h)) p)) (Some (Unknown at))
fault_more c h [] p at lt = absurd (omega arith)
fault_more c h (g ∷ gs) p at lt = refl

pub known : (c : ClauseList) (h : ℕ) → 1 ≤ h → h ≤ length c.clauses → is_known c h ≡ true
known c h low high = and_from (nat_le 1 h) (nat_le h (length c.clauses)) (le-leb 1 h low) (le-leb h (length c.clauses) high)

last_not : (a b : Bool) (at : ℕ) → cond a (cond b None (Some NotFalse)) (Some (Unknown at)) ≡ Some Lits → ⊥
last_not true true at e = cc
last_not true false at e = cc
last_not false b at e = cc

more_not : (a : Bool) (o : Option Literal) (p : Truth) (at : ℕ) (rest : Truth → Option Fault) → ((q : Truth) → rest q ≡ Some Lits → ⊥) → cond a (go_on rest at (unit_or o p)) (Some (Unknown at)) ≡ Some Lits → ⊥
more_not true None p at rest never e = cc
more_not true (Some l) p at rest never e = never (with_true p l) e
more_not false o p at rest never e = cc

-- no hint has a fault of the literals
pub never_lits : (c : ClauseList) (hints : List ℕ) (p : Truth) (at : ℕ) → hints_fault c hints p at ≡ Some Lits → ⊥
never_lits c [] p at e = cc
never_lits c (h ∷ []) p at e = last_not (is_known c h) (is_false p (clause_at c h)) at e
never_lits c (h ∷ g ∷ gs) p at e = more_not (is_known c h) (unit_literal p (clause_at c h)) p at (λ q. hints_fault c (g ∷ gs) q (at + 1)) (λ q. never_lits c (g ∷ gs) q (at + 1)) e

-- what is wrong first with the hints is what is wrong first
pub fault_is : (c : ClauseList) (lits : List Literal) (hints : List ℕ) (f : Fault) → IsClause c.variables lits → hints_fault c hints (all_false c.variables lits) 0 ≡ Some f → IsFault c lits hints f
fault_is c lits hints Lits h e = absurd (never_lits c hints (all_false c.variables lits) 0 e)
fault_is c lits hints (Unknown at) h e = (h, e)
fault_is c lits hints (NotUnit at) h e = (h, e)
fault_is c lits hints NotFalse h e = (h, e)

-- a truth without a value, which a list's default needs by its type
abbrev pub nothing : Option Bool
nothing = None

pub none_everywhere : (n w : ℕ) → get_or (replicate n nothing) w None ≡ nothing
none_everywhere n w = elim (cases_lt w n) [
  | inl lt ↦ get_or-replicate n w nothing nothing lt
  | inr ge ↦ get_or_past (replicate n nothing) w nothing (omega (arith, length-replicate n nothing))
]

-- a value is that of before, or of a literal that was made false
pub false_where : (lits : List Literal) (p : Truth) (v : ℕ) (d : Literal) → (get_or (fold set_false p lits) v None ≡ get_or p v None) ⊎ ((k : ℕ) × (k < length lits) × ((get_or lits k d).variable ≡ v))
false_where [] p v d = inl refl
false_where (x ∷ xs) p v d =
    elim (false_where xs (set_false p x) v d) [
      | inl same ↦ elim (cases_eq x.variable v) [
        | inl here ↦ inr (0, omega arith, here)
        | inr ne ↦ (let ne' : v ≢ x.variable = λ e. ne (sym e) in inl (same ∙ get_or-set_other p x.variable v (Some (not x.positive)) None ne'))
      ]
      | inr w ↦ inr (suc w.0, omega (arith, w.1), w.2)
    ]

past : (p : Truth) (v : ℕ) (b : Bool) → length p ≤ v → get_or p v None ≡ Some b → ⊥
past p v b le h = (let e = get_or_past p v None le in cc)

-- a variable with a value keeps one
pub false_some : (lits : List Literal) (p : Truth) (v : ℕ) (b : Bool) → get_or p v None ≡ Some b → (b' : Bool) × (get_or (fold set_false p lits) v None ≡ Some b')
false_some [] p v b h = (b, h)
false_some (x ∷ xs) p v b h =
    elim (cases_eq v x.variable) [
      | inl here ↦ elim (cases_lt x.variable (length p)) [
        | inl lt ↦ false_some xs (set_false p x) v (not x.positive) (rw here (get_or-set_same p x.variable (Some (not x.positive)) None lt))
        | inr ge ↦ absurd (past p v b (rw here ge) h)
      ]
      | inr ne ↦ false_some xs (set_false p x) v b (get_or-set_other p x.variable v (Some (not x.positive)) None ne ∙ h)
    ]

-- the variable of a literal that was made false has a value
pub false_has : (lits : List Literal) (p : Truth) (k : ℕ) (d : Literal) → k < length lits → (get_or lits k d).variable < length p → (b : Bool) × (get_or (fold set_false p lits) (get_or lits k d).variable None ≡ Some b)
false_has [] p k d lt r = absurd (omega arith)
false_has (x ∷ xs) p zero d lt r = false_some xs (set_false p x) x.variable (not x.positive) (get_or-set_same p x.variable (Some (not x.positive)) None r)
false_has (x ∷ xs) p (suc k) d lt r = false_has xs (set_false p x) k d (omega arith) (omega (arith, length-set p x.variable (Some (not x.positive))))

-- a clause with one literal more, of a variable that has no value where it is false
pub IsClause_push : (n : ℕ) (lits : List Literal) (l : Literal) → IsClause n lits → 1 ≤ l.variable → l.variable ≤ n → get_or (all_false n lits) l.variable None ≡ None → IsClause n (lits ++ l ∷ [])
IsClause_push n lits l h low high none = record {
  in_range = All-push (λ (k : Literal). (1 ≤ k.variable) × (k.variable ≤ n)) lits l h.in_range (low, high);
  apart = all_pairs_push (λ (j k : Literal). j.variable ≢ k.variable) lits l h.apart (λ k d lt same.
      let some = false_has lits (replicate (n + 1) None) k d lt (omega (arith, (h.in_range k d lt).1, length-replicate (n + 1) nothing)) in
      cc (some.1, none, same));
}
