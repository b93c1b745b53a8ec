-- the walk down a trail of level 0, to the empty clause
use Rattle.std.proofs.Common.{◌≡◌, ℕ, ◌+◌, ◌-◌, ◌<◌, ◌≤◌, Bool, false, List, [], ◌∷◌, ◌++◌, Some, None, length, get_or, set, sym, ap, ◌∙◌, subst, arith}
use Rattle.std.proofs.lemmas.List.{reverse-append}
use Rattle.std.proofs.lemmas.Option.{get_or_from_slice_get}
use Rattle.std.specs.Prelude.{reverse, slice_get}
use Rattle.ec_clause.specs.Literal.{Literal}
use Rattle.ec_clause.specs.ClauseList.{ClauseList, clause_at, IsClause}
use Rattle.ec_clause.specs.Step.{IsStep}
use Rattle.ec_trail.specs.declared.trail.Entry.{Entry}
use Rattle.ec_trail.specs.TrailList.{TrailList, IsTrail, top_level}
use Rattle.ec_trail.proofs.TrailLemmas.{top_above}
use Rattle.ec_sat.specs.Reasons.{AreReasons, mark_all}
use Rattle.ec_sat.specs.Stops.{Walked}
use Rattle.ec_sat.proofs.Walk.{walked_skip, walked_more, learned_step}

pub record IsRefuting (c : ClauseList) (n : ℕ) (es : List Entry) (m : List Bool) (hints : List ℕ) (k : ℕ) : Type 0 where
  pub low : k ≤ length es
  pub trail : IsTrail n es
  pub walked : Walked c n es m (reverse hints) k

-- no decision stands on a trail of level 0
pub no_decision : (c : ClauseList) (n : ℕ) (es : List Entry) (m : List Bool) (hints : List ℕ) (count : ℕ) (e : Entry) → AreReasons c n es → top_level es ≡ 0 → IsRefuting c n es m hints count → 0 < count → slice_get es (count - 1) ≡ Some e → e.reason ≡ None → ⊥
no_decision c n es m hints count e reasons zero-top down low at none =
    let j = count - 1 in
    let lj : j < length es = omega (arith, down.low) in
    let same : get_or es j e ≡ e = get_or_from_slice_get es j e e at in
    let above : 0 < (get_or es j e).level = reasons.decided j e lj (ap (λ (x : Entry). x.reason) same ∙ none) in
    omega (arith, top_above es down.trail.rising j e lj)

pub refuting_skip : (c : ClauseList) (n : ℕ) (es : List Entry) (m : List Bool) (hints : List ℕ) (count v : ℕ) (e : Entry) → IsRefuting c n es m hints count → 0 < count → slice_get es (count - 1) ≡ Some e → v ≡ e.lit.variable → get_or m v false ≡ false → IsRefuting c n es m hints (count - 1)
refuting_skip c n es m hints count v e down low at var off =
    let j = count - 1 in
    let same : get_or es j e ≡ e = get_or_from_slice_get es j e e at in
    let up : count ≡ j + 1 = omega arith in
    let old = subst (λ (k : ℕ). Walked c n es m (reverse hints) k) up down.walked in
    let off' : get_or m (get_or es j e).lit.variable false ≡ false = ap (λ (x : Entry). get_or m x.lit.variable false) same ∙ ap (λ w. get_or m w false) (sym var) ∙ off in
    record {
      low = omega (arith, down.low);
      trail = down.trail;
      walked = walked_skip c n es m (reverse hints) j e (omega (arith, down.low)) off' old;
    }

pub refuting_more : (c : ClauseList) (n : ℕ) (es : List Entry) (m m1 : List Bool) (hints hints' : List ℕ) (count v r : ℕ) (e : Entry) → AreReasons c n es → IsClause n (clause_at c r) → IsRefuting c n es m hints count → 0 < count → slice_get es (count - 1) ≡ Some e → v ≡ e.lit.variable → e.reason ≡ Some r → m1 ≡ mark_all m (clause_at c r) → hints' ≡ hints ++ r ∷ [] → IsRefuting c n es (set m1 v false) hints' (count - 1)
refuting_more c n es m m1 hints hints' count v r e reasons clause down low at var is marked more =
    let j = count - 1 in
    let lj : j < length es = omega (arith, down.low) in
    let same : get_or es j e ≡ e = get_or_from_slice_get es j e e at in
    let up : count ≡ j + 1 = omega arith in
    let old = subst (λ (k : ℕ). Walked c n es m (reverse hints) k) up down.walked in
    let step = walked_more c n es m (reverse hints) j r e down.trail reasons clause lj (ap (λ (x : Entry). x.reason) same ∙ is) old in
    let order : reverse hints' ≡ r ∷ reverse hints = ap reverse more ∙ reverse-append hints (r ∷ []) in
    record {
      low = omega (arith, down.low);
      trail = down.trail;
      walked = rw (order, marked, var) (subst (λ (x : Entry). Walked c n es (set (mark_all m (clause_at c r)) x.lit.variable false) (r ∷ reverse hints) j) same step);
    }

pub refuted : (c : ClauseList) (t : TrailList) (m : List Bool) (hints hints' : List ℕ) (k : ℕ) (lits : List Literal) → c.variables ≡ t.variables → IsRefuting c t.variables t.entries m hints k → k ≡ 0 → lits ≡ [] → hints' ≡ reverse hints → IsStep c lits hints'
refuted c t m hints hints' k lits same down end empty order =
    let trail' = subst (λ (n : ℕ). IsTrail n t.entries) (sym same) down.trail in
    let walked' = subst (λ (n : ℕ). Walked c n t.entries m (reverse hints) 0) (sym same) (subst (λ (i : ℕ). Walked c t.variables t.entries m (reverse hints) i) end down.walked) in
    rw (empty, order) (learned_step c t.entries m (reverse hints) 0 trail' (omega arith) walked')
