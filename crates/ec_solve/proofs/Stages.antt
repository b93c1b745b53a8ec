-- A search from one stage to the next, by what the solver's calls ensure.
use Rattle.std.proofs.Common.{◌≡◌, ℕ, ◌+◌, ◌<◌, ◌≤◌, nat_lt, Bool, cond, List, [], ◌∷◌, ◌++◌, length, map, count_by, All, Contains, refl, sym, ap, ◌∙◌, subst, arith}
use Rattle.std.proofs.lemmas.Bool.{true≢false, lt-ltb}
use Rattle.std.proofs.lemmas.List.{length-append, length-map, length_push}
use Rattle.std.proofs.lemmas.List.Sums.{sum_by-append, sum_by-cons}
use Rattle.ec_clause.specs.Literal.{Literal}
use Rattle.ec_clause.specs.ClauseList.{ClauseList}
use Rattle.ec_clause.specs.Note.{Note, Derived, Blocked}
use Rattle.ec_clause.specs.declared.ending.Ending.{Ending}
use Rattle.ec_clause.specs.declared.ending.Ending.TheVariants as ending
use Rattle.ec_log.specs.Log.{Log}
use Rattle.ec_sat.specs.Run.{Derivation, note_of, HaveLiterals, EndEmpty, value_in, blocked_clause}
use Rattle.ec_sat.specs.Run as run
use Rattle.ec_sat.specs.Searched.{Searched, Searches, Blocks}
use Rattle.ec_sat.specs.declared.answer.Next.TheVariants.{Model, Exhausted, Conflicts}
use Rattle.ec_sat.specs.declared.answer.Phase.TheVariants.{Ready}
use Rattle.ec_sat.proofs.Running.{count_all}
use Rattle.ec_certificate.specs.Accepted.{IsAccepted, has_literal}
use Rattle.ec_certificate.specs.Shown.{visible_part}
use Rattle.ec_certificate.specs.Progress.{IsMet, IsLogged, log_of}
use Rattle.ec_certificate.proofs.Counting.{count-literals}
use Rattle.ec_certificate.proofs.Logged.{logged-none, logged-model, logged-block, logged-models, conflicts-accepted, exhausted-accepted, exhausted-leaves_none_out, searched-repeats_nothing}
use Rattle.ec_solve.specs.Progress.{IsGoing, IsDone}
use Rattle.ec_solve.specs.declared.searching.Bounds.{Bounds}

-- ---- the numbers of a log

-- a log with the list's numbers
log_is : (list : ClauseList) (log : Log) → log.numbers ≡ (list.variables, length list.clauses) → log_of list log.notes ≡ log
log_is list log numbers = ap (λ (ns : ℕ × ℕ). record { numbers = ns; notes = log.notes }) (sym numbers)

accepted_as : (list : ClauseList) (truths : List (List Bool)) (ending : Ending) (log : Log) → log.numbers ≡ (list.variables, length list.clauses) → IsAccepted list truths ending (log_of list log.notes) → IsAccepted list truths ending log
accepted_as list truths ending log numbers a = subst (IsAccepted list truths ending) (log_is list log numbers) a

-- ---- counting

literal_count : (lits : List Literal) (hints : List ℕ) → ◌≡◌ {A = ℕ} (cond (has_literal (Derived lits hints)) 1 0) (cond (nat_lt 0 (length lits)) 1 0)
literal_count [] hints = refl
literal_count (l ∷ lits) hints = ap {B = ℕ} (λ b. cond b 1 0) (sym (lt-ltb 0 (length (l ∷ lits)) (omega arith)))

-- derived clauses with a literal are counted alike in steps and in their notes
steps_counted : (steps : List Derivation) → count_by has_literal (map note_of steps) ≡ count_by run.has_literal steps
steps_counted [] = refl
steps_counted (s ∷ steps) =
    let left : count_by has_literal (note_of s ∷ map note_of steps) ≡ cond (has_literal (note_of s)) 1 0 + count_by has_literal (map note_of steps) = sum_by-cons (λ (n : Note). cond (has_literal n) 1 0) (note_of s) (map note_of steps) in
    let right : count_by run.has_literal (s ∷ steps) ≡ cond (run.has_literal s) 1 0 + count_by run.has_literal steps = sum_by-cons (λ (r : Derivation). cond (run.has_literal r) 1 0) s steps in
    omega (arith, left, right, literal_count s.lits s.hints, steps_counted steps)

notes_counted : (notes notes' : List Note) (steps : List Derivation) → notes' ≡ notes ++ map note_of steps → length notes' ≡ length notes + length steps
notes_counted notes notes' steps noted = ap length noted ∙ (length-append notes (map note_of steps) ∙ ap (λ n. length notes + n) (length-map steps note_of))

-- ---- stages

-- a search that has found nothing yet
pub going_new : (list : ClauseList) (conflicts visible : ℕ) (log : Log) (s : Searched) → 1 ≤ conflicts → log ≡ record { numbers = (list.variables, length list.clauses); notes = [] } → s.list ≡ list → s.visible ≡ visible → s.phase ≡ Ready → s.derived ≡ 0 → s.blocked ≡ 0
    → IsGoing list conflicts visible [] log s
going_new list conflicts visible log s some is same seen ready derived blocked =
    let P : Log → Type 0 = λ l. IsGoing list conflicts visible [] l s in
    subst P (sym is) (record {
      logged = logged-none list s same derived blocked;
      numbers = refl;
      seen = seen;
      ready = ready;
      more = omega (arith, some, derived);
      counted = omega (arith, derived, blocked);
    })

module _ (list : ClauseList) (bounds : Bounds) (visible : ℕ) (truths : List (List Bool)) (log log' : Log) (s s' : Searched) (g : IsGoing list bounds.conflicts visible truths log s) (numbers : log'.numbers ≡ log.numbers) where
  same_numbers : log'.numbers ≡ (list.variables, length list.clauses)
  same_numbers = numbers ∙ g.numbers

  -- each derived clause of a run has a literal
  run_counted : (steps : List Derivation) → HaveLiterals steps → s'.derived ≡ s.derived + count_by run.has_literal steps → log'.notes ≡ log.notes ++ map note_of steps → length log'.notes ≡ s'.derived + s.blocked
  run_counted steps have derived noted = omega (arith, g.counted, derived, count_all steps have, notes_counted log.notes log'.notes steps noted)

  -- or each but the last
  end_counted : (steps : List Derivation) → EndEmpty steps → s'.derived ≡ s.derived + count_by run.has_literal steps → log'.notes ≡ log.notes ++ map note_of steps → length log'.notes ≤ s'.derived + s.blocked + 1
  end_counted steps e derived noted =
      let size : length steps ≡ length e.front + 1 = ap length e.are ∙ length_push e.front e.last in
      let count : count_by run.has_literal steps ≡ count_by run.has_literal e.front + count_by run.has_literal (e.last ∷ []) = ap (count_by run.has_literal) e.are ∙ sum_by-append (λ (r : Derivation). cond (run.has_literal r) 1 0) e.front (e.last ∷ []) in
      omega (arith, g.counted, derived, size, count, count_all e.front e.literals, notes_counted log.notes log'.notes steps noted)

  -- the derived clauses with a literal are those that the solver counts
  literals_counted : (steps : List Derivation) → s'.derived ≡ s.derived + count_by run.has_literal steps → log'.notes ≡ log.notes ++ map note_of steps → count_by has_literal log'.notes ≡ s'.derived
  literals_counted steps derived noted =
      let all : count_by has_literal log'.notes ≡ count_by has_literal log.notes + count_by has_literal (map note_of steps) = ap (count_by has_literal) noted ∙ sum_by-append (λ (n : Note). cond (has_literal n) 1 0) log.notes (map note_of steps) in
      omega (arith, derived, all, steps_counted steps, g.logged.derived, count-literals log.notes g.logged.under_way.open_still)

  -- A model that was found is blocked, and the search can go on with one truth more.
  pub going_model : (log2 : Log) (s2 : Searched) (visible2 : ℕ) (truths2 : List (List Bool)) → Searches s s' log.notes log'.notes bounds.conflicts Model → Blocks s' s2 log'.notes log2.notes → log2.numbers ≡ log'.numbers
      → truths2 ≡ truths ++ visible_part visible (value_in s'.assignment) ∷ [] → visible2 ≡ visible → IsGoing list bounds.conflicts visible2 truths2 log2 s2
  going_model log2 s2 visible2 truths2 searched b numbers2 more same =
      let found = logged-model list truths log.notes log'.notes s s' bounds.conflicts g.logged searched in
      let blocked = logged-block list truths log'.notes log2.notes s' s2 found searched.runs.outcome.0 b in
      let seen : s'.visible ≡ visible = searched.visible ∙ g.seen in
      let is : truths ++ visible_part s'.visible (value_in s'.assignment) ∷ [] ≡ truths2 = ap (λ v. truths ++ visible_part v (value_in s'.assignment) ∷ []) seen ∙ sym more in
      let next : length log2.notes ≡ length log'.notes + 1 = ap length b.noted ∙ length_push log'.notes (Blocked (blocked_clause s'.visible s'.assignment)) in
      record {
        logged = subst (λ ts. IsLogged list ts log2.notes s2) is blocked;
        numbers = numbers2 ∙ same_numbers;
        seen = b.visible ∙ (seen ∙ sym same);
        ready = b.phase;
        more = omega (arith, b.derived, searched.runs.outcome.2);
        counted = omega (arith, next, b.derived, b.blocked, searched.blocked, run_counted searched.runs.steps searched.runs.outcome.1 searched.runs.counted searched.runs.run.noted);
      }

  -- Where no model is left the search is complete.
  pub done_complete : (n : ℕ) → Searches s s' log.notes log'.notes bounds.conflicts Exhausted → length truths < bounds.models → n ≡ length truths → IsDone list bounds visible truths log' (ending.Complete n)
  done_complete n searched room count =
      let o = searched.runs.outcome in
      record {
        accepted = accepted_as list truths (ending.Complete n) log' same_numbers (exhausted-accepted list truths log.notes log'.notes s s' bounds.conflicts n g.logged searched);
        fresh = searched-repeats_nothing list truths log.notes log'.notes s s' bounds.conflicts Exhausted g.logged searched;
        met = subst (λ v. All (IsMet list v) truths) g.seen g.logged.met;
        apart = g.logged.apart;
        whole = λ e w h. subst (λ v. Contains truths (visible_part v w)) g.seen (exhausted-leaves_none_out list truths log.notes log'.notes s s' bounds.conflicts g.logged searched w h);
        within = (count, omega (arith, count, room), omega (arith, o.1, literals_counted searched.runs.steps searched.runs.counted searched.runs.run.noted));
        few = omega (arith, o.1, g.logged.blocked, end_counted searched.runs.steps o.0 searched.runs.counted searched.runs.run.noted);
        few_truths = omega (arith, room);
      }

  -- Where the bound on conflicts was reached, that is how it ended.
  pub done_conflicts : Searches s s' log.notes log'.notes bounds.conflicts Conflicts → length truths < bounds.models → IsDone list bounds visible truths log' (ending.Conflicts bounds.conflicts)
  done_conflicts searched room =
      let o = searched.runs.outcome in
      record {
        accepted = accepted_as list truths (ending.Conflicts bounds.conflicts) log' same_numbers (conflicts-accepted list truths log.notes log'.notes s s' bounds.conflicts g.logged searched);
        fresh = searched-repeats_nothing list truths log.notes log'.notes s s' bounds.conflicts Conflicts g.logged searched;
        met = subst (λ v. All (IsMet list v) truths) g.seen g.logged.met;
        apart = g.logged.apart;
        whole = λ e. absurd (true≢false (sym e));
        within = (refl, room);
        few = omega (arith, o.1, g.logged.blocked, run_counted searched.runs.steps o.0 searched.runs.counted searched.runs.run.noted);
        few_truths = omega (arith, room);
      }

-- Where so many truths were found as are asked for, that is how it ended.
pub done_models : (list : ClauseList) (bounds : Bounds) (visible : ℕ) (truths : List (List Bool)) (log : Log) (s : Searched) (n : ℕ) → IsGoing list bounds.conflicts visible truths log s → n ≡ bounds.models → length truths ≡ bounds.models
    → IsDone list bounds visible truths log (ending.Models n)
done_models list bounds visible truths log s n g count size = record {
  accepted = accepted_as list truths (ending.Models n) log g.numbers (logged-models list truths log.notes s n g.logged);
  fresh = g.logged.under_way.repeats_nothing;
  met = subst (λ v. All (IsMet list v) truths) g.seen g.logged.met;
  apart = g.logged.apart;
  whole = λ e. absurd (true≢false (sym e));
  within = (count ∙ sym size, count, omega (arith, g.more, g.logged.derived, count-literals log.notes g.logged.under_way.open_still));
  few = omega (arith, g.more, g.counted, g.logged.blocked);
  few_truths = omega (arith, size);
}
