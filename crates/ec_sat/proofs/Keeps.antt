-- what the calls keep of the reasons and of the quiet levels
use Rattle.std.proofs.Common.{◌≡◌, ℕ, zero, suc, ◌+◌, ◌-◌, ◌<◌, ◌≤◌, Bool, true, false, cond, List, [], ◌∷◌, ◌++◌, Option, Some, None, length, take, get_or, refl, sym, ap, ◌∙◌, inl, inr, arith, zero-add, nat_le}
use Rattle.std.proofs.lemmas.Bool.{cases_lt, cases_eq, leb-true, leb-false, le-leb, lt-leb}
use Rattle.std.proofs.lemmas.List.{length_push, length-take-le, get_or-take, get_or_append_left, get_or_push, take-append-le, take_at, take-take, take_more, take_all}
use Rattle.std.proofs.lemmas.List.Sums.{fold_push, prefix_len_is, prefix_len_passes, prefix_len_stops, prefix_len-le-length}
use Rattle.std.specs.Prelude.{AllPairs, option_map}
use Rattle.std.specs.List.{prefix_len}
use Rattle.ec_clause.specs.Literal.{Literal}
use Rattle.ec_clause.specs.ClauseList.{ClauseList, clause_at}
use Rattle.ec_clause.specs.Truth.{Truth, agree, literal_value, is_false, unit_literal, unit_step, false_step}
use Rattle.ec_trail.specs.declared.trail.Entry.{Entry}
use Rattle.ec_trail.specs.TrailList.{TrailList, values_of, IsTrail, kept, top_level, level_step}
use Rattle.ec_trail.proofs.TrailLemmas.{top_above, top_level-last}
use Rattle.ec_trail.proofs.BackTo.{some_entry}
use Rattle.ec_unit.specs.Settling.{IsQuiet, AllQuiet, AddsImplied}
use Rattle.ec_sat.specs.Reasons.{AreReasons, AreQuietBelow}
use Rattle.ec_sat.proofs.Contained.{none_below, kept_after}

-- clauses keep their numbers
pub clause_at_push : (c c' : ClauseList) (x : List Literal) (r : ℕ) → c'.clauses ≡ c.clauses ++ x ∷ [] → 1 ≤ r → r ≤ length c.clauses → clause_at c' r ≡ clause_at c r
clause_at_push c c' x r grown low high = ap (λ xs. get_or xs (r - 1) []) grown ∙ get_or_append_left c.clauses (x ∷ []) [] (r - 1) (omega arith)

pub reasons_clause : (c c' : ClauseList) (n : ℕ) (es : List Entry) (x : List Literal) → c'.clauses ≡ c.clauses ++ x ∷ [] → AreReasons c n es → AreReasons c' n es
reasons_clause c c' n es x grown h = record {
  low = h.low;
  high = λ k r d lt is. omega (arith, h.high k r d lt is, ap length grown, length_push c.clauses x);
  unit = λ k r d lt is. ap (unit_literal (values_of n (take k es))) (clause_at_push c c' x r grown (h.low k r d lt is) (h.high k r d lt is)) ∙ h.unit k r d lt is;
  decided = h.decided;
  first = h.first;
}

-- a front of the trail
pub reasons_front : (c : ClauseList) (n : ℕ) (es : List Entry) (s : ℕ) → s ≤ length es → AreReasons c n es → AreReasons c n (take s es)
reasons_front c n es s le h =
    let size = length-take-le s es le in
    let there = λ (k : ℕ) (d : Entry) (lt : k < s). get_or-take s es k d lt in
    record {
      low = λ k r d lt is. h.low k r d (omega arith) (ap (λ (e : Entry). e.reason) (sym (there k d (omega arith))) ∙ is);
      high = λ k r d lt is. h.high k r d (omega arith) (ap (λ (e : Entry). e.reason) (sym (there k d (omega arith))) ∙ is);
      unit = λ k r d lt is.
          ap (λ xs. unit_literal (values_of n xs) (clause_at c r)) (take-take k s es (omega arith)) ∙ h.unit k r d (omega arith) (ap (λ (e : Entry). e.reason) (sym (there k d (omega arith))) ∙ is)
          ∙ ap (λ (e : Entry). Some e.lit) (sym (there k d (omega arith)));
      decided = λ k d lt is. omega (arith, ap (λ (e : Entry). e.level) (there k d (omega arith)), h.decided k d (omega arith) (ap (λ (e : Entry). e.reason) (sym (there k d (omega arith))) ∙ is));
      first = λ k i d lt is li. omega (arith, ap (λ (e : Entry). e.level) (there k d (omega arith)), ap (λ (e : Entry). e.level) (there i d (omega arith)), h.first k i d (omega arith) (ap (λ (e : Entry). e.reason) (sym (there k d (omega arith))) ∙ is) li);
    }

some_same : {A : Type 0} {a b : A} → Some a ≡ Some b → a ≡ b
some_same h = cc

-- what settling adds
pub reasons_adds : (c : ClauseList) (old new : TrailList) → AreReasons c old.variables old.entries → AddsImplied c old new → AreReasons c old.variables new.entries
reasons_adds c old new h a =
    let m = length old.entries in
    let fs = new.entries in
    let front = λ (k : ℕ) (d : Entry) (lt : k < m). sym (get_or-take m fs k d lt) ∙ ap (λ xs. get_or xs k d) a.front in
    let reason = λ (k : ℕ) (d : Entry) (lt : k < m). ap (λ (e : Entry). e.reason) (sym (front k d lt)) in
    record {
      low = λ k r d lt is. elim (cases_lt k m) [
        | inl l ↦ h.low k r d l (reason k d l ∙ is)
        | inr g ↦ (let i = a.each k d g lt in let same : i.reason.0 ≡ r = some_same (sym i.reason.1 ∙ is) in omega (arith, i.reason.2.low))
      ];
      high = λ k r d lt is. elim (cases_lt k m) [
        | inl l ↦ h.high k r d l (reason k d l ∙ is)
        | inr g ↦ (let i = a.each k d g lt in let same : i.reason.0 ≡ r = some_same (sym i.reason.1 ∙ is) in omega (arith, i.reason.2.high))
      ];
      unit = λ k r d lt is. elim (cases_lt k m) [
        | inl l ↦ ap (λ xs. unit_literal (values_of old.variables xs) (clause_at c r)) (sym (take-take k m fs (omega arith)) ∙ ap (take k) a.front) ∙ h.unit k r d l (reason k d l ∙ is) ∙ ap (λ (e : Entry). Some e.lit) (sym (front k d l))
        | inr g ↦ (let i = a.each k d g lt in let same : i.reason.0 ≡ r = some_same (sym i.reason.1 ∙ is) in ap (λ q. unit_literal (values_of old.variables (take k fs)) (clause_at c q)) (sym same) ∙ i.reason.3)
      ];
      decided = λ k d lt is. elim (cases_lt k m) [
        | inl l ↦ omega (arith, ap (λ (e : Entry). e.level) (front k d l), h.decided k d l (reason k d l ∙ is))
        | inr g ↦ absurd (let w = a.each k d g lt in let no_reason = w.reason.1 in cc)
      ];
      first = λ k i d lt is li. elim (cases_lt k m) [
        | inl l ↦ omega (arith, ap (λ (e : Entry). e.level) (front k d l), ap (λ (e : Entry). e.level) (front i d (omega arith)), h.first k i d l (reason k d l ∙ is) li)
        | inr g ↦ absurd (let w = a.each k d g lt in let no_reason = w.reason.1 in cc)
      ];
    }

-- a decision
pub reasons_decide : (c : ClauseList) (n : ℕ) (es : List Entry) (e : Entry) → AllPairs (λ (a b : Entry). a.level ≤ b.level) es → e.reason ≡ None → e.level ≡ top_level es + 1 → AreReasons c n es → AreReasons c n (es ++ e ∷ [])
reasons_decide c n es e rising none level h =
    let m = length es in
    let size = length_push es e in
    let there = λ (k : ℕ) (d : Entry) (lt : k < m). get_or_append_left es (e ∷ []) d k lt in
    let last = λ (k : ℕ) (d : Entry) (at : m ≡ k). get_or_push es e d k at in
    let reason = λ (k : ℕ) (d : Entry) (lt : k < m). ap (λ (x : Entry). x.reason) (sym (there k d lt)) in
    record {
      low = λ k r d lt is. elim (cases_lt k m) [ inl l ↦ h.low k r d l (reason k d l ∙ is) | inr g ↦ absurd (let at = last k d (omega arith) in cc) ];
      high = λ k r d lt is. elim (cases_lt k m) [ inl l ↦ h.high k r d l (reason k d l ∙ is) | inr g ↦ absurd (let at = last k d (omega arith) in cc) ];
      unit = λ k r d lt is. elim (cases_lt k m) [
        | inl l ↦ ap (λ xs. unit_literal (values_of n xs) (clause_at c r)) (take-append-le k es (e ∷ []) (omega arith)) ∙ h.unit k r d l (reason k d l ∙ is) ∙ ap (λ (x : Entry). Some x.lit) (sym (there k d l))
        | inr g ↦ absurd (let at = last k d (omega arith) in cc)
      ];
      decided = λ k d lt is. elim (cases_lt k m) [
        | inl l ↦ omega (arith, ap (λ (x : Entry). x.level) (there k d l), h.decided k d l (reason k d l ∙ is))
        | inr g ↦ omega (arith, ap (λ (x : Entry). x.level) (last k d (omega arith)))
      ];
      first = λ k i d lt is li. elim (cases_lt k m) [
        | inl l ↦ omega (arith, ap (λ (x : Entry). x.level) (there k d l), ap (λ (x : Entry). x.level) (there i d (omega arith)), h.first k i d l (reason k d l ∙ is) li)
        | inr g ↦ omega (arith, ap (λ (x : Entry). x.level) (last k d (omega arith)), ap (λ (x : Entry). x.level) (there i d (omega arith)), top_above es rising i d (omega arith))
      ];
    }

-- a longer trail keeps the same of a level, where what is added is above it
pub kept_same : (es fs : List Entry) (level : ℕ) → length es ≤ length fs → take (length es) fs ≡ es → ((k : ℕ) → length es ≤ k → k < length fs → level < (get_or fs k some_entry).level) → kept level fs ≡ kept level es
kept_same es fs level longer front above =
    let p = λ (e : Entry). nat_le e.level level in
    let s = prefix_len p es in
    let m = length es in
    let le = prefix_len-le-length p es in
    let there = λ (k : ℕ) (lt : k < m). sym (get_or-take m fs k some_entry lt) ∙ ap (λ xs. get_or xs k some_entry) front in
    let same : prefix_len p fs ≡ s = prefix_len_is p fs s some_entry (omega arith)
    (λ k lt. ap p (there k (omega arith)) ∙ prefix_len_passes p es k some_entry lt)
    (λ lt. elim (cases_lt s m) [
      | inl l ↦ ap p (there s l) ∙ prefix_len_stops p es some_entry l
      | inr g ↦ lt-leb _ _ (above s g lt)
    ]) in
    ap (λ k. take k fs) same ∙ sym (take-take s m fs le) ∙ ap (take s) front

-- the level of what settling adds is the level of before
added_level : (c : ClauseList) (old new : TrailList) → AddsImplied c old new → (k : ℕ) → k + length old.entries ≤ length new.entries → top_level (take (k + length old.entries) new.entries) ≡ top_level old.entries
added_level c old new a zero le = rw zero-add (ap top_level a.front)
added_level c old new a (suc k) le =
    let m = length old.entries in
    let fs = new.entries in
    let at = k + m in
    let lt : at < length fs = omega arith in
    let e = get_or fs at some_entry in
    let more : take (suc k + m) fs ≡ take at fs ++ e ∷ [] = ap (λ i. take i fs) (omega arith) ∙ take_more fs at some_entry lt in
    ap top_level more ∙ fold_push level_step 0 (take at fs) e ∙ (a.each at some_entry (omega arith) lt).level ∙ added_level c old new a k (omega arith)

pub level_added : (c : ClauseList) (old new : TrailList) → AddsImplied c old new → (k : ℕ) → length old.entries ≤ k → k < length new.entries → (get_or new.entries k some_entry).level ≡ top_level old.entries
level_added c old new a k ge lt =
    let m = length old.entries in
    let same : k - m + m ≡ k = omega arith in
    (a.each k some_entry ge lt).level ∙ ap (λ i. top_level (take i new.entries)) (sym same) ∙ added_level c old new a (k - m) (omega arith)

top_added : (c : ClauseList) (old new : TrailList) → AddsImplied c old new → top_level new.entries ≡ top_level old.entries
top_added c old new a =
    let m = length old.entries in
    let k = length new.entries - m in
    let same : k + m ≡ length new.entries = omega (arith, a.longer) in
    ap top_level (sym (take_all (length new.entries) new.entries (omega arith))) ∙ ap (λ i. top_level (take i new.entries)) (sym same) ∙ added_level c old new a k (omega arith)

pub quiet_adds : (c : ClauseList) (old new : TrailList) → AreQuietBelow c old.variables old.entries → AddsImplied c old new → AreQuietBelow c old.variables new.entries
quiet_adds c old new q a = λ level number low known.
    let top = top_added c old new a in
    let same = kept_same old.entries new.entries level a.longer a.front (λ k ge lt. omega (arith, level_added c old new a k ge lt)) in
    rw same (q level number (omega arith) known)

top_push : (es : List Entry) (e : Entry) → top_level (es ++ e ∷ []) ≡ e.level
top_push es e = fold_push level_step 0 es e

all_kept : (es : List Entry) → AllPairs (λ (a b : Entry). a.level ≤ b.level) es → kept (top_level es) es ≡ es
all_kept es rising =
    let p = λ (e : Entry). nat_le e.level (top_level es) in
    let whole : prefix_len p es ≡ length es = prefix_len_is p es (length es) some_entry (omega arith) (λ k lt. le-leb _ _ (top_above es rising k some_entry lt)) (λ lt. absurd (omega arith)) in
    ap (λ k. take k es) whole ∙ take_all (length es) es (omega arith)

-- a decision is made where all clauses are quiet
pub quiet_decide : (c : ClauseList) (n : ℕ) (es : List Entry) (e : Entry) → AllPairs (λ (a b : Entry). a.level ≤ b.level) es → e.level ≡ top_level es + 1 → AreQuietBelow c n es → AllQuiet c (values_of n es) → AreQuietBelow c n (es ++ e ∷ [])
quiet_decide c n es e rising level q all = λ l number low known.
    let top = top_push es e in
    let size = length_push es e in
    let same = kept_same es (es ++ e ∷ []) l (omega arith) (take_at es (e ∷ []) (length es) refl) (λ k ge lt. omega (arith, ap (λ (x : Entry). x.level) (get_or_push es e some_entry k (omega arith)))) in
    rw same (elim (cases_eq l (top_level es)) [
      | inl at ↦ rw (at, all_kept es rising) (all number known)
      | inr ne ↦ q l number (omega arith) known
    ])

some_case : (s : ℕ) (es : List Entry) (l : ℕ) → l < top_level (take s es) → 0 < s
some_case zero es l h = absurd (omega arith)
some_case (suc s) es l h = omega arith

kept_some : (es : List Entry) (b l : ℕ) → l < top_level (kept b es) → 0 < prefix_len (λ (e : Entry). nat_le e.level b) es
kept_some es b l low = some_case (prefix_len (λ (e : Entry). nat_le e.level b) es) es l low

-- what a level keeps of what a higher one keeps
pub kept_kept : (es : List Entry) (b level : ℕ) → AllPairs (λ (a b : Entry). a.level ≤ b.level) es → level < b → kept level (kept b es) ≡ kept level es
kept_kept es b level rising low =
    let s = prefix_len (λ (e : Entry). nat_le e.level b) es in
    let le = prefix_len-le-length (λ (e : Entry). nat_le e.level b) es in
    let size = length-take-le s es le in
    sym (kept_same (take s es) es level (omega arith) (ap (λ i. take i es) size) (λ k ge lt. elim (cases_eq k s) [
      | inl at ↦ omega (arith, leb-false _ _ (prefix_len_stops (λ (e : Entry). nat_le e.level b) es some_entry (omega arith)), ap (λ i. (get_or es i some_entry).level) at)
      | inr ne ↦ omega (arith, leb-false _ _ (prefix_len_stops (λ (e : Entry). nat_le e.level b) es some_entry (omega arith)), rising s k some_entry (omega arith) lt)
    ]))

-- going back: a level below that of what is kept is below the level gone back to, and below the top
pub below_kept : (es : List Entry) (b level : ℕ) → AllPairs (λ (a b : Entry). a.level ≤ b.level) es → level < top_level (kept b es) → (level < b) × (level < top_level es)
below_kept es b level rising low =
    let p = λ (e : Entry). nat_le e.level b in
    let s = prefix_len p es in
    let le = prefix_len-le-length p es in
    let size = length-take-le s es le in
    let some : 0 < s = kept_some es b level low in
    let last = top_level-last (take s es) some_entry (omega arith) in
    let there : get_or (take s es) (length (take s es) - 1) some_entry ≡ get_or es (s - 1) some_entry = ap (λ i. get_or (take s es) (i - 1) some_entry) size ∙ get_or-take s es (s - 1) some_entry (omega arith) in
    let passes = leb-true _ _ (prefix_len_passes p es (s - 1) some_entry (omega arith)) in
    (omega (arith, ap (λ (x : Entry). x.level) there), omega (arith, ap (λ (x : Entry). x.level) there, top_above es rising (s - 1) some_entry (omega arith)))

step_false : (o : Option Bool) → false_step o false ≡ false
step_false None = refl
step_false (Some true) = refl
step_false (Some false) = refl

step_none : (o : Option Bool) (x : Literal) → unit_step o x false None ≡ None
step_none None x = refl
step_none (Some true) x = refl
step_none (Some false) x = refl

open_not_false : (q : Truth) (c : List Literal) (j : ℕ) (d : Literal) → j < length c → literal_value q (get_or c j d) ≡ None → is_false q c ≡ false
open_not_false q [] j d lj b = absurd (omega arith)
open_not_false q (x ∷ xs) zero d lj b = ap (λ o. false_step o (is_false q xs)) b
open_not_false q (x ∷ xs) (suc j) d lj b = ap (false_step (literal_value q x)) (open_not_false q xs j d (omega arith) b) ∙ step_false (literal_value q x)

-- two literals without a value
pub two_open : (q : Truth) (c : List Literal) (i j : ℕ) (d : Literal) → i < j → j < length c → literal_value q (get_or c i d) ≡ None → literal_value q (get_or c j d) ≡ None → IsQuiet q c
two_open q [] i j d lt lj a b = absurd (omega arith)
two_open q (x ∷ xs) zero zero d lt lj a b = absurd (omega arith)
two_open q (x ∷ xs) zero (suc j) d lt lj a b =
    let rest = open_not_false q xs j d (omega arith) b in
    record {
      not_false = ap (λ o. false_step o (is_false q xs)) a;
      not_unit = ap (λ o. unit_step o x (is_false q xs) (unit_literal q xs)) a ∙ ap (λ t. cond t (Some x) None) rest;
    }
two_open q (x ∷ xs) (suc i) zero d lt lj a b = absurd (omega arith)
two_open q (x ∷ xs) (suc i) (suc j) d lt lj a b =
    let rest = two_open q xs i j d (omega arith) (omega arith) a b in
    record {
      not_false = ap (false_step (literal_value q x)) rest.not_false ∙ step_false (literal_value q x);
      not_unit = ap (λ t. unit_step (literal_value q x) x t (unit_literal q xs)) rest.not_false ∙ ap (unit_step (literal_value q x) x false) rest.not_unit ∙ step_none (literal_value q x) x;
    }

-- a clause with two literals at the level or above is quiet below it
pub added_quiet : (n : ℕ) (es : List Entry) (cl : List Literal) (b level i j u w : ℕ) (d : Literal) → IsTrail n es → level < b → i < j → j < length cl → u < length es → w < length es → (get_or es u some_entry).lit.variable ≡ (get_or cl i d).variable → (get_or es w some_entry).lit.variable ≡ (get_or cl j d).variable → b ≤ (get_or es u some_entry).level → b ≤ (get_or es w some_entry).level → IsQuiet (values_of n (kept level es)) cl
added_quiet n es cl b level i j u w d trail lb lij lj lu lw su sw hu hw =
    let p = λ (e : Entry). nat_le e.level level in
    let q = values_of n (kept level es) in
    let open-at = λ (k : ℕ) (l : Literal) (at : k < length es) (is : (get_or es k some_entry).lit.variable ≡ l.variable) (high : b ≤ (get_or es k some_entry).level).
    let none = none_below n es (prefix_len p es) k some_entry trail (kept_after es level k some_entry (omega arith)) at in
    let none' : get_or q l.variable None ≡ None = rw is at none in
    let value : literal_value q l ≡ None = ap (option_map (agree l.positive)) none' in
    value in
    two_open q cl i j d lij lj (open-at u (get_or cl i d) lu su hu) (open-at w (get_or cl j d) lw sw hw)
