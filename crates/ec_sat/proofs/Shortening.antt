-- literals dropped from a derived clause
use Rattle.std.proofs.Common.{◌≡◌, ◌≢◌, ℕ, ◌+◌, ◌<◌, ◌≤◌, Bool, false, List, [], ◌∷◌, ◌++◌, Some, None, length, take, get_or, set, replicate, sym, ap, ◌∙◌, subst, inl, inr, arith}
use Rattle.std.proofs.lemmas.Bool.{cases_lt, cases_eq, true≢false, cond-true}
use Rattle.std.proofs.lemmas.List.{length-set, length-replicate, get_or-set_same, get_or-set_other, get_or_default, reverse-append, length-append, length-reverse}
use Rattle.std.proofs.lemmas.Option.{get_or_from_slice_get}
use Rattle.std.specs.Prelude.{reverse, slice_get, option_map}
use Rattle.ec_clause.specs.ClauseList.{ClauseList, clause_at}
use Rattle.ec_clause.specs.Truth.{Truth, agree, with_true, unit_literal}
use Rattle.ec_clause.specs.Step.{is_known, unit_or, go_on, hints_fault, all_false, IsStep}
use Rattle.ec_clause.proofs.StepLemmas.{fault_more, known, nothing}
use Rattle.ec_trail.specs.declared.trail.Entry.{Entry}
use Rattle.ec_trail.specs.TrailList.{values_of, IsTrail}
use Rattle.ec_trail.proofs.BackTo.{some_entry}
use Rattle.ec_sat.specs.Reasons.{AreReasons, left_of}
use Rattle.ec_sat.specs.Stops.{Agrees, StopsAt, IsAsserting, AllMarked}
use Rattle.ec_sat.proofs.Walk.{unit_moves, sign_false, false_before, same_place, apart, built, falses-length}

-- where the walk stopped nothing is dropped yet
pub asserts : (c : ClauseList) (n : ℕ) (es : List Entry) (m : List Bool) (hints : List ℕ) (place : ℕ) → StopsAt c n es m hints place → IsAsserting c n es m hints place place
asserts c n es m hints place stops = record {
  in_range = stops.in_range;
  some = omega (arith, stops.walked.some, length-reverse hints);
  above = λ i d lt li. stops.walked.above i d (omega arith) li;
  follows = λ p at agrees. stops.walked.follows p at (record {
    size = agrees.size;
    below = λ i d lt li on. agrees.marked i d li on;
    above = λ i d le li. agrees.rest i d (omega arith) li (stops.walked.above i d le li);
  });
  top = stops.top;
  alone = stops.alone;
}

-- literals that are left, or that are in the clause no more
pub asserts_down : (c : ClauseList) (n : ℕ) (es : List Entry) (m : List Bool) (hints : List ℕ) (place k j : ℕ) → j ≤ k → IsAsserting c n es m hints place k → IsAsserting c n es m hints place j
asserts_down c n es m hints place k j less old = record {
  in_range = old.in_range;
  some = old.some;
  above = old.above;
  follows = λ p at agrees. old.follows p at (record {
    size = agrees.size;
    marked = agrees.marked;
    rest = λ i d le li off. agrees.rest i d (omega arith) li off;
  });
  top = old.top;
  alone = old.alone;
}

-- with one literal more true, which its reason implies, a truth agrees with the clause as it was
agrees_more : (n : ℕ) (es : List Entry) (m : List Bool) (j : ℕ) (d : Entry) (p : Truth) → IsTrail n es → length m ≡ n + 1 → j < length es → Agrees n es (set m (get_or es j d).lit.variable false) j p → Agrees n es m (j + 1) (with_true p (get_or es j d).lit)
agrees_more n es m j d p trail size lj agrees =
    let e = get_or es j d in
    let v = e.lit.variable in
    let at : (i : ℕ) (d' : Entry) → i < length es → i ≡ j → get_or es i d' ≡ e = λ i d' lt here. get_or_default es i d' d lt ∙ ap (λ k. get_or es k d) here in
    let far : (i : ℕ) (d' : Entry) → i < length es → i ≢ j → (get_or es i d').lit.variable ≢ v = λ i d' lt ne. rw (get_or_default es i d' d lt) (apart n es trail i j d ne lt lj) in
    record {
      size = length-set p v (Some e.lit.positive) ∙ agrees.size;
      marked = λ i d' lt on. elim (cases_eq i j) [
        | inl here ↦ rw (at i d' lt here) (get_or-set_same p v (Some e.lit.positive) None (omega (arith, agrees.size, (trail.in_range j d lj).1)))
        | inr ne ↦ (
            let x = (get_or es i d').lit.variable in
            get_or-set_other p v x (Some e.lit.positive) None (far i d' lt ne) ∙ agrees.marked i d' lt (get_or-set_other m v x false false (far i d' lt ne) ∙ on))
      ];
      rest = λ i d' le lt off.
          let x = (get_or es i d').lit.variable in
          let ne : i ≢ j = omega arith in
          get_or-set_other p v x (Some e.lit.positive) None (far i d' lt ne) ∙ agrees.rest i d' (omega arith) lt (get_or-set_other m v x false false (far i d' lt ne) ∙ off);
    }

-- the reason of a literal is unit where the others of its literals are marked
unit_by : (c : ClauseList) (n : ℕ) (es : List Entry) (m : List Bool) (j r : ℕ) (d : Entry) (p : Truth) → IsTrail n es → AreReasons c n es → length m ≡ n + 1 → j < length es → (get_or es j d).reason ≡ Some r → AllMarked m (clause_at c r) → Agrees n es (set m (get_or es j d).lit.variable false) j p → unit_literal p (clause_at c r) ≡ Some (get_or es j d).lit
unit_by c n es m j r d p trail reasons size lj is all agrees =
    let e = get_or es j d in
    let v = e.lit.variable in
    let cl = clause_at c r in
    let q = values_of n (take j es) in
    let off = get_or-set_same m v false false (omega (arith, size, (trail.in_range j d lj).1)) in
    let none = agrees.rest j d (omega arith) lj off in
    unit_moves q p cl e.lit (λ k d' lt h.
    let l = get_or cl k d' in
    let b = false_before n es j l d (omega arith) h in
    let far : (get_or es b.0 d).lit.variable ≢ v = same_place n es trail b.0 j d b.1 lj in
    let on = get_or-set_other m v (get_or es b.0 d).lit.variable false false far ∙ ap (λ x. get_or m x false) b.2 ∙ all k d' lt in
    let value = agrees.marked b.0 d (omega (arith, b.1)) on in
    sign_false l.positive (get_or p l.variable None) (rw b.2 at (rw b.3 at value))) (ap (option_map (agree e.lit.positive)) none) (reasons.unit j r d lj is)

-- a literal is dropped, and its reason named
pub asserts_drop : (c : ClauseList) (n : ℕ) (es : List Entry) (m : List Bool) (hints hints' : List ℕ) (place j v r : ℕ) (e : Entry) → IsTrail n es → AreReasons c n es → length m ≡ n + 1 → j < place → slice_get es j ≡ Some e → v ≡ e.lit.variable → e.reason ≡ Some r → AllMarked m (clause_at c r) → hints' ≡ hints ++ r ∷ [] → IsAsserting c n es m hints place (j + 1) → IsAsserting c n es (set m v false) hints' place j
asserts_drop c n es m hints hints' place j v r e trail reasons size below at var is all more old =
    let lj : j < length es = omega (arith, old.in_range) in
    let here : get_or es j e ≡ e = get_or_from_slice_get es j e e at in
    let same : v ≡ (get_or es j e).lit.variable = var ∙ ap (λ (x : Entry). x.lit.variable) (sym here) in
    let order : reverse hints' ≡ r ∷ reverse hints = ap reverse more ∙ reverse-append hints (r ∷ []) in
    let is' : (get_or es j e).reason ≡ Some r = ap (λ (x : Entry). x.reason) here ∙ is in
    let far : (i : ℕ) (d : Entry) → i < length es → i ≢ j → (get_or es i d).lit.variable ≢ v = λ i d lt ne. rw (get_or_default es i d e lt, same) (apart n es trail i j e ne lt lj) in
    record {
      in_range = old.in_range;
      some = omega (arith, ap length more, length-append hints (r ∷ []));
      above = λ i d lt li. get_or-set_other m v (get_or es i d).lit.variable false false (far i d li (omega arith)) ∙ old.above i d lt li;
      follows = λ p at agrees.
          let agrees' : Agrees n es (set m (get_or es j e).lit.variable false) j p = subst (λ w. Agrees n es (set m w false) j p) same agrees in
          let unit = unit_by c n es m j r e p trail reasons size lj is' all agrees' in
          let next = agrees_more n es m j e p trail size lj agrees' in
          ap (λ h. hints_fault c h p at) order ∙ (fault_more c r (reverse hints) p at (omega (arith, old.some, length-reverse hints)) ∙ cond-true (is_known c r) _ _ (known c r (reasons.low j r e lj is') (reasons.high j r e lj is'))
          ∙ ap (λ o. go_on (λ q. hints_fault c (reverse hints) q (at + 1)) at (unit_or o p)) unit ∙ old.follows (with_true p (get_or es j e).lit) (at + 1) next);
      top = old.top;
      alone = λ i d lt on. elim (cases_eq i j) [
        | inl at' ↦ absurd (
            let x : (get_or es i d).lit.variable ≡ v = ap (λ (y : Entry). y.lit.variable) (get_or_default es i d e (omega (arith, old.in_range)) ∙ ap (λ w. get_or es w e) at') ∙ sym same in
            true≢false (sym on ∙ ap (λ w. get_or (set m v false) w false) x ∙ get_or-set_same m v false false (omega (arith, size, same, (trail.in_range j e lj).1))))
        | inr ne ↦ old.alone i d lt (sym (get_or-set_other m v (get_or es i d).lit.variable false false (far i d (omega (arith, old.in_range)) ne)) ∙ on)
      ];
    }

-- what is left marked is a clause that follows by the hints
pub asserts_step : (c : ClauseList) (es : List Entry) (m : List Bool) (hints : List ℕ) (place k : ℕ) → IsTrail c.variables es → IsAsserting c c.variables es m hints place k → IsStep c (left_of m (take (place + 1) es)) (reverse hints)
asserts_step c es m hints place k trail old =
    let n = c.variables in
    let made = built n es m some_entry trail (place + 1) (omega (arith, old.in_range)) in
    record {
      clause = made.clause;
      follows = old.follows (all_false n (left_of m (take (place + 1) es))) 0 (record {
        size = falses-length (left_of m (take (place + 1) es)) (replicate (n + 1) None) ∙ length-replicate (n + 1) nothing;
        marked = λ i d li on. elim (cases_lt place i) [
          | inl lt ↦ absurd (true≢false (sym on ∙ old.above i d lt li))
          | inr ge ↦ made.some i d (omega arith) li on
        ];
        rest = λ i d le li off. made.none (get_or es i d).lit.variable (λ j d' lj ltj on same. true≢false (sym on ∙ ap (λ v. get_or m v false) same ∙ off));
      });
    }
