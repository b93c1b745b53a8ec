-- what is learned is a step, and contains no clause before it
use Rattle.std.proofs.Common.{◌≡◌, ℕ, ◌+◌, ◌-◌, ◌<◌, Bool, false, List, [], ◌∷◌, length, take, get_or, replicate, sym, ap, ◌∙◌, subst, arith, nat_le}
use Rattle.std.proofs.lemmas.List.{get_or_default, take_all}
use Rattle.std.proofs.lemmas.List.Sums.{prefix_len-le-length}
use Rattle.ec_sat.proofs.Down.{left_start}
use Rattle.std.specs.Prelude.{All, Contains, reverse}
use Rattle.ec_clause.specs.Literal.{Literal}
use Rattle.ec_clause.specs.ClauseList.{ClauseList, clause_at, IsClause}
use Rattle.ec_clause.specs.Truth.{is_false}
use Rattle.ec_trail.specs.declared.trail.Entry.{Entry}
use Rattle.ec_trail.specs.TrailList.{TrailList, truth_of, values_of, top_level, IsTrail}
use Rattle.ec_trail.proofs.TrailLemmas.{top_above}
use Rattle.ec_trail.proofs.BackTo.{some_entry}
use Rattle.ec_unit.specs.Settling.{IsFalseAt}
use Rattle.ec_clause.specs.Step.{IsStep}
use Rattle.ec_sat.specs.Reasons.{AreQuietBelow, ContainsNone, mark_all, left_of}
use Rattle.ec_sat.specs.Stops.{Walked, IsLeftBelow, IsAsserting, first_top}
use Rattle.ec_sat.proofs.Walk.{walked_start}
use Rattle.ec_sat.proofs.Shortening.{asserts_step}
use Rattle.ec_sat.proofs.Contained.{none_contained, kept_before}

pub starts : (c : ClauseList) (t : TrailList) (r : ℕ) (m : List Bool) (lits : List Literal) (hints : List ℕ) → IsTrail t.variables t.entries → c.variables ≡ t.variables → IsClause c.variables lits → lits ≡ clause_at c r → IsFalseAt c (truth_of t) r → m ≡ mark_all (replicate (t.variables + 1) false) lits → hints ≡ r ∷ [] → Walked c t.variables t.entries m (reverse hints) (length t.entries)
starts c t r m lits hints trail same clause is false' marked one =
    let clause' : IsClause t.variables (clause_at c r) = subst (λ (x : List Literal). IsClause t.variables x) is (subst (λ (n : ℕ). IsClause n lits) same clause) in
    rw (one, marked, is) (walked_start c t.variables t.entries r trail clause' false'.in_range.low false'.in_range.high false'.each_false)

pub learns_step : (c : ClauseList) (t : TrailList) (m : List Bool) (hints hints' : List ℕ) (u : ℕ) (lits : List Literal) → c.variables ≡ t.variables → IsTrail t.variables t.entries → IsAsserting c t.variables t.entries m hints u 0 → lits ≡ left_of m (take (u + 1) t.entries) → hints' ≡ reverse hints → IsStep c lits hints'
learns_step c t m hints hints' u lits same trail asserting is order =
    let trail' = subst (λ (n : ℕ). IsTrail n t.entries) (sym same) trail in
    let asserting' = subst (λ (n : ℕ). IsAsserting c n t.entries m hints u 0) (sym same) asserting in
    rw (is, order) (asserts_step c t.entries m hints u 0 trail' asserting')

same_level : (es : List Entry) (u : ℕ) (d e : Entry) → u < length es → (get_or es u d).level ≡ (get_or es u e).level
same_level es u d e lt = ap (λ (x : Entry). x.level) (get_or_default es u d e lt)

pub left_starts : (c : ClauseList) (t : TrailList) (r : ℕ) (m : List Bool) (lits : List Literal) → IsTrail t.variables t.entries → c.variables ≡ t.variables → IsClause c.variables lits → lits ≡ clause_at c r → IsFalseAt c (truth_of t) r → AreQuietBelow c t.variables t.entries → 0 < top_level t.entries → m ≡ mark_all (replicate (t.variables + 1) false) lits → IsLeftBelow t.entries m (length t.entries)
left_starts c t r m lits trail same clause is false' quiet high marked =
    let clause' : IsClause t.variables (clause_at c r) = subst (λ (x : List Literal). IsClause t.variables x) is (subst (λ (n : ℕ). IsClause n lits) same clause) in
    let es = t.entries in
    let whole = take_all (length es) es (omega arith) in
    left_start c t.variables es r m trail clause' (prefix_len-le-length (λ (e : Entry). nat_le e.level (top_level es - 1)) es)
    (ap (λ xs. is_false (values_of t.variables xs) (clause_at c r)) whole ∙ false'.each_false) (quiet (top_level es - 1) r (omega arith) false'.in_range)
    (marked ∙ ap (λ x. mark_all (replicate (t.variables + 1) false) x) is)

pub learns_none : (c : ClauseList) (t : TrailList) (m : List Bool) (hints : List ℕ) (u : ℕ) (lits : List Literal) → c.variables ≡ t.variables → IsTrail t.variables t.entries → AreQuietBelow c t.variables t.entries → All (IsClause c.variables) c.clauses → IsAsserting c t.variables t.entries m hints u 0 → 0 < top_level t.entries → lits ≡ left_of m (take (u + 1) t.entries) → ContainsNone c lits
learns_none c t m hints u lits same trail quiet clauses stops high is = λ number known inside.
    let n = t.variables in
    let es = t.entries in
    let s = first_top es in
    let e0 = some_entry in
    let clause : IsClause n (clause_at c number) = subst (λ (k : ℕ). IsClause k (clause_at c number)) same (clauses (number - 1) [] (omega (arith, known.low, known.high))) in
    none_contained n es m u s (clause_at c number) trail stops.in_range stops.top
    (λ i e lt marked. kept_before es (top_level es - 1) i e trail.rising (omega (arith, stops.in_range)) (omega (arith, stops.alone i e lt marked, same_level es u e e0 stops.in_range, top_above es trail.rising u e0 stops.in_range)))
    clause (quiet (top_level es - 1) number (omega arith) known)
    (subst (λ (x : List Literal). All (Contains x) (clause_at c number)) is inside)
