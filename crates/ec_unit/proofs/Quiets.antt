-- all of a trail is worked: no clause is false or unit
use Rattle.std.proofs.Common.{◌≡◌, ◌≢◌, ℕ, ◌+◌, ◌-◌, ◌*◌, ◌<◌, ◌≤◌, Bool, true, false, List, Option, Some, None, length, get_or, refl, sym, ap, ◌∙◌, subst, inl, inr, arith}
use Rattle.std.proofs.lemmas.Bool.{cases_eq, cases_Bool}
use Rattle.std.proofs.lemmas.List.{get_or_default}
use Rattle.std.specs.Prelude.{Contains, is_some}
use Rattle.ec_clause.specs.Literal.{Literal, opposite}
use Rattle.ec_clause.specs.ClauseList.{ClauseList, clause_at}
use Rattle.ec_clause.specs.Truth.{Truth, literal_value, is_false, unit_literal}
use Rattle.ec_clause.proofs.TruthLemmas.{each_false, unit_is}
use Rattle.ec_trail.proofs.BackTo.{some_entry}
use Rattle.ec_trail.specs.TrailList.{TrailList, truth_of, IsTrail}
use Rattle.ec_unit.specs.declared.seen.Seen.{Seen}
use Rattle.ec_unit.specs.declared.table.Table.{Table}
use Rattle.ec_unit.specs.Settling.{IsQuiet, AllQuiet}
use Rattle.ec_unit.specs.Watching.{IsWatched, IsSafe, both}
use Rattle.ec_unit.specs.Chained.{lit_at}
use Rattle.ec_unit.specs.Leaning.{Follows, HasTrue, IsHeld, AreOf}
use Rattle.ec_unit.specs.Working.{IsWorking, AllSafe, ShortHold}
use Rattle.ec_trail.proofs.Values.{true_where}
use Rattle.ec_unit.proofs.Places.{true_from_false}
use Rattle.ec_unit.proofs.Looked.{IfShort}
use Rattle.ec_unit.proofs.Visits.{watched_is, seen_true}
use Rattle.ec_unit.proofs.Enchains.{pair_of}

clash_values : (o : Option Bool) (a b : Option Bool) → o ≡ a → o ≡ b → a ≡ b
clash_values o a b e f = sym e ∙ f

none_from : (o : Option Literal) → ((x : Literal) → o ≡ Some x → ⊥) → o ≡ None
none_from None h = refl
none_from (Some x) h = absurd (h x refl)

-- a clause with a true literal is quiet
quiet_true : (p : Truth) (lits : List Literal) (l : Literal) → Contains lits l → literal_value p l ≡ Some true → IsQuiet p lits
quiet_true p lits l there is = record {
  not_false = elim (cases_Bool (is_false p lits)) [
    | inl t ↦ absurd (let f = each_false p lits t there.0 l there.1 in let e : Some true ≡ Some false = sym is ∙ ap (literal_value p) (sym there.2) ∙ f in cc)
    | inr f ↦ f
  ];
  not_unit = none_from (unit_literal p lits) (λ x e.
      let u = unit_is p lits x e in
      elim (cases_eq there.0 u.place) [
        | inl at ↦ (
            let same : l ≡ x = sym there.2 ∙ ap (λ i. get_or lits i l) at ∙ get_or_default lits u.place l x u.within ∙ u.there in
            let e' : Some true ≡ None = sym is ∙ ap (literal_value p) same ∙ u.no_value in
            cc)
        | inr ne ↦ (
            let f = u.others there.0 l there.1 ne in
            let e' : Some true ≡ Some false = sym is ∙ ap (literal_value p) (sym there.2) ∙ f in
            cc)
      ]);
}

-- a clause with two literals without a value is quiet
quiet_open : (p : Truth) (lits : List Literal) (k l : Literal) → Contains lits k → Contains lits l → k ≢ l → literal_value p k ≡ None → literal_value p l ≡ None → IsQuiet p lits
quiet_open p lits k l in_k in_l differ none_k none_l = record {
  not_false = elim (cases_Bool (is_false p lits)) [
    | inl t ↦ absurd (let f = each_false p lits t in_k.0 k in_k.1 in let e : None ≡ Some false = sym none_k ∙ ap (literal_value p) (sym in_k.2) ∙ f in cc)
    | inr f ↦ f
  ];
  not_unit = none_from (unit_literal p lits) (λ x e.
      let u = unit_is p lits x e in
      elim (cases_eq in_k.0 u.place) [
        | inl at ↦ elim (cases_eq in_l.0 u.place) [
          | inl at' ↦ differ (sym in_k.2 ∙ ap (λ i. get_or lits i k) (at ∙ sym at') ∙ get_or_default lits in_l.0 k l in_l.1 ∙ in_l.2)
          | inr ne ↦ (let f = u.others in_l.0 l in_l.1 ne in let e' : None ≡ Some false = sym none_l ∙ ap (literal_value p) (sym in_l.2) ∙ f in cc)
        ]
        | inr ne ↦ (let f = u.others in_k.0 k in_k.1 ne in let e' : None ≡ Some false = sym none_k ∙ ap (literal_value p) (sym in_k.2) ∙ f in cc)
      ]);
}

-- where all is worked, the other of a false watched literal is true
other_true : (t : TrailList) (seen : List Seen) (worked : ℕ) (k l : Literal) → IsTrail t.variables t.entries → Follows seen t.entries → length seen ≤ worked → IsHeld seen worked k l → literal_value (truth_of t) k ≡ Some false → literal_value (truth_of t) l ≡ Some true
other_true t seen worked k l trail follows all held is =
    let w = true_where t.variables t.entries (opposite k) some_entry (true_from_false (truth_of t) k is) in
    let leans = held w.0 (omega (arith, w.1, follows.size)) (follows.same w.0 some_entry w.1 ∙ w.2) in
    seen_true t seen leans.place l trail follows leans.within leans.there

by_values : (p : Truth) (lits : List Literal) (k l : Literal) (a b : Option Bool) → literal_value p k ≡ a → literal_value p l ≡ b → Contains lits k → Contains lits l → k ≢ l → (literal_value p k ≡ Some false → literal_value p l ≡ Some true) → (literal_value p l ≡ Some false → literal_value p k ≡ Some true) → IsQuiet p lits
by_values p lits k l (Some true) b is_k is_l in_k in_l differ f g = quiet_true p lits k in_k is_k
by_values p lits k l (Some false) b is_k is_l in_k in_l differ f g = quiet_true p lits l in_l (f is_k)
by_values p lits k l None (Some true) is_k is_l in_k in_l differ f g = quiet_true p lits l in_l is_l
by_values p lits k l None (Some false) is_k is_l in_k in_l differ f g = quiet_true p lits k in_k (g is_l)
by_values p lits k l None None is_k is_l in_k in_l differ f g = quiet_open p lits k l in_k in_l differ is_k is_l

no_is_some : (o : Option Literal) → is_some o ≡ false → o ≡ None
no_is_some None h = refl
no_is_some (Some l) h = cc

by_pair : (lits : List Literal) (p : Truth) (o q : Option Literal) → is_some o ≡ is_some q → IsWatched lits (both o q) → (o ≡ None → length lits < 2 → IsQuiet p lits) → ((k l : Literal) → o ≡ Some k → q ≡ Some l → (literal_value p k ≡ Some false → literal_value p l ≡ Some true) × (literal_value p l ≡ Some false → literal_value p k ≡ Some true)) → IsQuiet p lits
by_pair lits p None q same h none safe = none refl h
by_pair lits p (Some k) None same h none safe = cc
by_pair lits p (Some k) (Some l) same h none safe = (let s = safe k l refl refl in by_values p lits k l (literal_value p k) (literal_value p l) refl refl h.0 h.1 h.2 s.0 s.1)

safe_pair : (p : Truth) (o q : Option Literal) → ((k l : Literal) → o ≡ Some k → q ≡ Some l → (literal_value p k ≡ Some false → literal_value p l ≡ Some true) × (literal_value p l ≡ Some false → literal_value p k ≡ Some true)) → IsSafe p (both o q)
safe_pair p None q safe = tt
safe_pair p (Some k) None safe = tt
safe_pair p (Some k) (Some l) safe = safe k l refl refl

safe_at : (c : ClauseList) (t : Table) (trail : TrailList) (number : ℕ) → IsTrail trail.variables trail.entries → IsWorking c t trail → t.chained ≡ length c.clauses → length t.seen.items ≤ t.worked → 1 ≤ number → number ≤ length c.clauses → (k l : Literal) → lit_at t.chains.cells.items (2 * (number - 1)) ≡ Some k → lit_at t.chains.cells.items (2 * (number - 1) + 1) ≡ Some l → (literal_value (truth_of trail) k ≡ Some false → literal_value (truth_of trail) l ≡ Some true) × (literal_value (truth_of trail) l ≡ Some false → literal_value (truth_of trail) k ≡ Some true)
safe_at c t trail number good w all worked low high k l is_k is_l =
    let a = 2 * (number - 1) in
    let of_ : AreOf number a (a + 1) = (low, inl (refl, refl)) in
    let back : AreOf number (a + 1) a = (low, inr (refl, refl)) in
    let below : number ≤ t.chained = omega (arith, all) in (
      other_true trail t.seen.items t.worked k l good w.follows worked (w.held number a (a + 1) k l of_ below is_k is_l),
      other_true trail t.seen.items t.worked l k good w.follows worked (w.held number (a + 1) a l k back below is_l is_k),
    )

pub all_quiet : (c : ClauseList) (t : Table) (trail : TrailList) → IsTrail trail.variables trail.entries → IsWorking c t trail → t.chained ≡ length c.clauses → length t.seen.items ≤ t.worked → ShortHold c t.seen.items t.short.items → AllQuiet c (truth_of trail)
all_quiet c t trail good w all worked short = λ number is.
    by_pair (clause_at c number) (truth_of trail) (lit_at t.chains.cells.items (2 * (number - 1))) (lit_at t.chains.cells.items (2 * (number - 1) + 1)) (w.short.together number is.low is.high) (pair_of c t trail w number is.low is.high)
    (λ none size.
    let there = w.short.each number is.low is.high none in
    let has = short there.0 number there.1 in
    let has' : HasTrue t.seen.items (clause_at c number) = subst (IfShort c t.seen.items) there.2 has size in
    quiet_true (truth_of trail) (clause_at c number) has'.lit has'.of_clause (seen_true trail t.seen.items has'.is_true.place has'.lit good w.follows has'.is_true.within has'.is_true.there))
    (safe_at c t trail number good w all worked is.low is.high)

pub all_safe : (c : ClauseList) (t : Table) (trail : TrailList) → IsTrail trail.variables trail.entries → IsWorking c t trail → t.chained ≡ length c.clauses → length t.seen.items ≤ t.worked → AllSafe c t trail
all_safe c t trail good w all worked = λ number low high.
    subst (IsSafe (truth_of trail)) (sym (watched_is t number)) (safe_pair (truth_of trail) (lit_at t.chains.cells.items (2 * (number - 1))) (lit_at t.chains.cells.items (2 * (number - 1) + 1)) (safe_at c t trail number good w all worked low high))
