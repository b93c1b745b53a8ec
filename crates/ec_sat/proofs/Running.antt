-- a run, clause by clause
use Rattle.std.proofs.Common.{◌≡◌, ℕ, suc, ◌+◌, ◌<◌, ◌≤◌, Bool, true, false, cond, List, [], ◌∷◌, ◌++◌, Option, Some, None, length, take, get_or, refl, sym, ap, ◌∙◌, subst, arith, append_assoc}
use Rattle.std.specs.Prelude.{◌||◌}
use Rattle.std.proofs.lemmas.Bool.{true≢false, lt-ltb}
use Rattle.std.proofs.lemmas.List.{append-nil, map-append, length-append, length_push, length-map, take-append-le, take_at, get_or_default}
use Rattle.std.proofs.lemmas.List.Elements.{All-push}
use Rattle.std.proofs.lemmas.List.Sums.{sum_by-append}
use Rattle.std.specs.Prelude.{map, option_map, unwrap_or, count_by, nat_lt, All}
use Rattle.ec_clause.specs.Literal.{Literal}
use Rattle.ec_clause.specs.ClauseList.{ClauseList, IsClause, clause_at}
use Rattle.ec_clause.specs.Note.{Note, Derived}
use Rattle.ec_clause.specs.Step.{AllHold, clause_holds}
use Rattle.ec_clause.specs.Truth.{Truth, agree, is_false, false_step}
use Rattle.ec_trail.specs.TrailList.{TrailList, truth_of}
use Rattle.ec_trail.proofs.TrailLemmas.{at_push}
use Rattle.ec_unit.specs.Settling.{AllQuiet}
use Rattle.ec_sat.specs.Full.{IsFull}
use Rattle.ec_sat.specs.Run.{Derivation, note_of, lits_of, has_literal, extended, IsDerived, IsRun, IsResolved, HaveLiterals, Runs, value_in}
use Rattle.ec_sat.specs.declared.answer.Next.TheVariants.{Model, Exhausted, Conflicts, Memory}
use Rattle.ec_sat.specs.declared.search.Conflict.{Conflict}
use Rattle.ec_sat.specs.declared.search.Conflict.TheVariants.{Learned, Refuted}

-- a run so far, each clause of which has a literal
pub record IsRunning (old new : ClauseList) (before after : List Note) (count derived : ℕ) : Type 0 where
  pub steps : List Derivation
  pub run : IsRun old new before after steps
  pub literals : HaveLiterals steps
  pub counted : derived ≡ count + length steps

empty_from : (lits : List Literal) → length lits ≡ 0 → lits ≡ []
empty_from [] h = refl
empty_from (x ∷ xs) h = absurd (omega arith)

pub run_none : (c : ClauseList) (ns : List Note) → IsRun c c ns ns []
run_none c ns = record {
  each = λ k d lt. absurd (omega arith);
  added = ap (λ cs. record { variables = c.variables; clauses = cs }) (sym (append-nil c.clauses));
  noted = sym (append-nil ns);
}

pub running_none : (c : ClauseList) (ns : List Note) (count : ℕ) → IsRunning c c ns ns count count
running_none c ns count = record { steps = []; run = run_none c ns; literals = λ k d lt. absurd (omega arith); counted = omega arith }

-- a list of clauses is its parts
list_is : (c : ClauseList) (n : ℕ) (cs : List (List Literal)) → c.variables ≡ n → c.clauses ≡ cs → c ≡ record { variables = n; clauses = cs }
list_is c n cs e f = ap (λ m. record { variables = m; clauses = c.clauses }) e ∙ ap (λ xs. record { variables = n; clauses = xs }) f

pub run_push : (old mid new : ClauseList) (before between after : List Note) (steps : List Derivation) (conflict : Conflict) → IsRun old mid before between steps → (r : IsResolved mid new between after conflict) → IsRun old new before after (steps ++ record { lits = r.lits; hints = r.hints } ∷ [])
run_push old mid new before between after steps conflict h r =
    let s : Derivation = record { lits = r.lits; hints = r.hints } in
    let all = steps ++ s ∷ [] in
    let grown : new ≡ record { variables = mid.variables; clauses = mid.clauses ++ r.lits ∷ [] } = list_is new mid.variables (mid.clauses ++ r.lits ∷ []) r.variables r.added in
    let lists : mid.clauses ++ r.lits ∷ [] ≡ old.clauses ++ map lits_of all =
    ap (λ (c : ClauseList). c.clauses ++ r.lits ∷ []) h.added ∙ append_assoc old.clauses (map lits_of steps) (r.lits ∷ []) ∙ ap (λ xs. old.clauses ++ xs) (sym (map-append lits_of steps (s ∷ []))) in
    let same : mid.variables ≡ old.variables = ap (λ (c : ClauseList). c.variables) h.added in
    record {
      each = at_push (λ k x. IsDerived (extended old (take k all)) x) steps s
          (λ k d lt. (let le : k ≤ length steps = omega arith in rw (take-append-le k steps (s ∷ []) le) (h.each k d lt)))
          (rw (take_at steps (s ∷ []) (length steps) refl) (subst (λ (c : ClauseList). IsDerived c s) h.added r.derived));
      added = grown ∙ ap (λ n. record { variables = n; clauses = mid.clauses ++ r.lits ∷ [] }) same ∙ ap (λ cs. record { variables = old.variables; clauses = cs }) lists;
      noted = r.noted ∙ ap (λ xs. xs ++ Derived r.lits r.hints ∷ []) h.noted ∙ append_assoc before (map note_of steps) (note_of s ∷ []) ∙ ap (λ xs. before ++ xs) (sym (map-append note_of steps (s ∷ [])));
    }

pub running_push : (old mid new : ClauseList) (before between after : List Note) (count derived derived' : ℕ) → IsRunning old mid before between count derived → IsResolved mid new between after Learned → derived' ≡ derived + 1 → IsRunning old new before after count derived'
running_push old mid new before between after count derived derived' h r more =
    let s : Derivation = record { lits = r.lits; hints = r.hints } in
    record {
      steps = h.steps ++ s ∷ [];
      run = run_push old mid new before between after h.steps Learned h.run r;
      literals = All-push (λ (x : Derivation). 0 < length x.lits) h.steps s h.literals r.tells;
      counted = omega (arith, h.counted, length_push h.steps s);
    }

pub running_length : (old new : ClauseList) (before after : List Note) (count derived : ℕ) → IsRunning old new before after count derived → length new.clauses + count ≡ length old.clauses + derived
running_length old new before after count derived h =
    omega (arith, ap (λ (c : ClauseList). length c.clauses) h.run.added, length-append old.clauses (map lits_of h.steps), length-map h.steps lits_of, h.counted)

-- all of them have a literal
pub count_all : (steps : List Derivation) → HaveLiterals steps → count_by has_literal steps ≡ length steps
count_all [] h = refl
count_all (s ∷ ss) h =
    let rest = count_all ss (λ k d lt. h (suc k) d (omega arith)) in
    let more : count_by has_literal (s ∷ ss) ≡ count_by has_literal (s ∷ []) + count_by has_literal ss = sum_by-append (λ (x : Derivation). cond (has_literal x) 1 0) (s ∷ []) ss in
    let one : count_by has_literal (s ∷ []) ≡ 1 = ap {B = ℕ} (λ b. 0 + cond b 1 0) (lt-ltb 0 (length s.lits) (h 0 s (omega arith))) in
    omega (arith, more, one, rest)

pub counted_all : (steps : List Derivation) (count derived : ℕ) → HaveLiterals steps → derived ≡ count + length steps → derived ≡ count + count_by has_literal steps
counted_all steps count derived h e = omega (arith, count_all steps h)

pub counted_end : (steps : List Derivation) (s : Derivation) (count derived : ℕ) → HaveLiterals steps → length s.lits ≡ 0 → derived ≡ count + length steps → derived ≡ count + count_by has_literal (steps ++ s ∷ [])
counted_end steps s count derived h empty e =
    let none : has_literal s ≡ false = ap (nat_lt 0) empty in
    let last : count_by has_literal (s ∷ []) ≡ 0 = ap {B = ℕ} (λ b. 0 + cond b 1 0) none in
    omega (arith, count_all steps h, last, sum_by-append (λ (x : Derivation). cond (has_literal x) 1 0) steps (s ∷ []))

-- where each variable has a value, a clause that is not false holds
full_step : (s : Bool) (o : Option Bool) (rest more : Bool) → (o ≡ None → ⊥) → false_step (option_map (agree s) o) rest ≡ false → (rest ≡ false → more ≡ true) → (agree s (unwrap_or o false) || more) ≡ true
full_step s None rest more some h then = absurd (some refl)
full_step true (Some true) rest more some h then = refl
full_step true (Some false) rest more some h then = then h
full_step false (Some true) rest more some h then = then h
full_step false (Some false) rest more some h then = refl

full_holds : (p : Truth) (lits : List Literal) → is_false p lits ≡ false → ((k : ℕ) (d : Literal) → k < length lits → get_or p (get_or lits k d).variable None ≡ None → ⊥) → clause_holds (value_in p) lits ≡ true
full_holds p [] h some = absurd (true≢false h)
full_holds p (x ∷ xs) h some =
    full_step x.positive (get_or p x.variable None) (is_false p xs) (clause_holds (value_in p) xs) (some 0 x (omega arith)) h (λ e. full_holds p xs e (λ k d lt. some (suc k) d (omega arith)))

pub model_holds : (c : ClauseList) (t : TrailList) → c.variables ≡ t.variables → All (IsClause c.variables) c.clauses → AllQuiet c (truth_of t) → IsFull t → AllHold (value_in (truth_of t)) c
model_holds c t same clauses quiet full k d lt =
    let clause : IsClause c.variables (get_or c.clauses k d) = clauses k d lt in
    let here : clause_at c (k + 1) ≡ get_or c.clauses k d = ap (λ i. get_or c.clauses i []) (omega arith) ∙ get_or_default c.clauses k [] d lt in
    let not_false : is_false (truth_of t) (get_or c.clauses k d) ≡ false = ap (is_false (truth_of t)) (sym here) ∙ (quiet (k + 1) (record { low = omega arith; high = omega arith })).not_false in
    full_holds (truth_of t) (get_or c.clauses k d) not_false (λ i l below none. (
    let range = clause.in_range i l below in
    full (get_or (get_or c.clauses k d) i l).variable range.0 (omega (arith, range.1)) none))

pub runs_model : (old new : ClauseList) (before after : List Note) (count derived limit : ℕ) (p : Truth) → IsRunning old new before after count derived → AllHold (value_in p) new → derived < limit → Runs old new before after count derived limit p Model
runs_model old new before after count derived limit p h all lt = record {
  steps = h.steps;
  run = h.run;
  counted = counted_all h.steps count derived h.literals h.counted;
  outcome = (all, h.literals, lt);
}

pub runs_conflicts : (old new : ClauseList) (before after : List Note) (count derived limit : ℕ) (p : Truth) → IsRunning old new before after count derived → derived ≡ limit → Runs old new before after count derived limit p Conflicts
runs_conflicts old new before after count derived limit p h at = record {
  steps = h.steps;
  run = h.run;
  counted = counted_all h.steps count derived h.literals h.counted;
  outcome = (h.literals, at);
}

pub runs_memory : (old mid new : ClauseList) (before between after : List Note) (count derived derived' limit : ℕ) (p : Truth) → IsRunning old mid before between count derived → new ≡ mid → after ≡ between → derived' ≡ derived → derived < limit → Runs old new before after count derived' limit p Memory
runs_memory old mid new before between after count derived derived' limit p h same noted is lt =
    rw (same, noted, is) (record {
      steps = h.steps;
      run = h.run;
      counted = counted_all h.steps count derived h.literals h.counted;
      outcome = (h.literals, lt);
    })

pub runs_exhausted : (old mid new : ClauseList) (before between after : List Note) (count derived derived' limit : ℕ) (p : Truth) → IsRunning old mid before between count derived → IsResolved mid new between after Refuted → derived' ≡ derived + 0 → derived < limit → Runs old new before after count derived' limit p Exhausted
runs_exhausted old mid new before between after count derived derived' limit p h r is lt =
    let s : Derivation = record { lits = r.lits; hints = r.hints } in
    let e : derived' ≡ count + length h.steps = omega (arith, h.counted) in
    record {
      steps = h.steps ++ s ∷ [];
      run = run_push old mid new before between after h.steps Refuted h.run r;
      counted = counted_end h.steps s count derived' h.literals r.tells e;
      outcome = (record { front = h.steps; last = s; are = refl; empty = empty_from r.lits r.tells; literals = h.literals }, omega arith);
    }
