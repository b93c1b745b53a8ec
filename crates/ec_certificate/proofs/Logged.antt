-- The log of a solver under way, by what the solver's calls ensure.
use Rattle.std.proofs.Common.{◌≡◌, ◌≢◌, ℕ, ◌+◌, Bool, cond, List, [], ◌∷◌, ◌++◌, length, map, All, Contains, count_by, refl, sym, ap, ◌∙◌, subst, arith}
use Rattle.std.proofs.lemmas.List.{length_push}
use Rattle.std.proofs.lemmas.List.Elements.{All-push, Contains-get_or}
use Rattle.std.proofs.lemmas.List.Quantifiers.{all_pairs_push}
use Rattle.std.proofs.lemmas.List.FromFn.{length-map-range_with_len}
use Rattle.std.proofs.lemmas.List.Sums.{sum_by_push}
use Rattle.std.specs.List.{range_with_len}
use Rattle.ec_clause.specs.ClauseList.{ClauseList}
use Rattle.ec_clause.specs.Note.{Note, Blocked}
use Rattle.ec_clause.specs.Step.{AllHold}
use Rattle.ec_clause.specs.declared.ending.Ending.TheVariants as ending
use Rattle.ec_sat.specs.Run.{Derivation, IsRun, HaveLiterals, has_literal, value_in, blocked_clause}
use Rattle.ec_sat.specs.Searched.{Searched, Searches, Blocks, BlocksNone}
use Rattle.ec_sat.specs.declared.answer.Next.{Next}
use Rattle.ec_sat.specs.declared.answer.Next.TheVariants.{Model, Exhausted, Conflicts, Memory}
use Rattle.ec_sat.proofs.Running.{count_all}
use Rattle.ec_certificate.specs.Accepted.{is_derived, IsAccepted}
use Rattle.ec_certificate.specs.Shown.{visible_part, RepeatsNothing}
use Rattle.ec_certificate.specs.Progress.{IsUnderWay, IsMet, IsLogged, log_of}
use Rattle.ec_certificate.proofs.Holding.{leaves_none_out}
use Rattle.ec_certificate.proofs.Appending.{run-counted, run-repeats_nothing}
use Rattle.ec_certificate.proofs.UnderWay.{under_way-none, under_way-run, under_way-block, found-meets, found-new, accepted-models, accepted-conflicts, accepted-complete}

-- A solver of the list that is new has the log without a note.
pub logged-none : (list : ClauseList) (s : Searched) → s.list ≡ list → s.derived ≡ 0 → s.blocked ≡ 0 → IsLogged list [] [] s
logged-none list s is derived blocked = record {
  under_way = subst (IsUnderWay list [] []) (sym is) (under_way-none list);
  met = λ k d lt. absurd (omega (arith, lt));
  apart = λ i j d ij lt. absurd (omega (arith, lt));
  derived = derived;
  blocked = blocked;
}

logged-run : (list : ClauseList) (truths : List (List Bool)) (notes notes' : List Note) (old new : Searched) (steps : List Derivation) → IsLogged list truths notes old → IsRun old.list new.list notes notes' steps → HaveLiterals steps
    → new.derived ≡ old.derived + count_by has_literal steps → new.visible ≡ old.visible → new.blocked ≡ old.blocked → IsLogged list truths notes' new
logged-run list truths notes notes' old new steps h run have counted visible blocked = record {
  under_way = under_way-run list old.list new.list truths notes notes' steps h.under_way run have;
  met = subst (λ v. All (IsMet list v) truths) (sym visible) h.met;
  apart = h.apart;
  derived = omega (arith, counted, h.derived, count_all steps have, run-counted old.list new.list notes notes' steps run);
  blocked = blocked ∙ h.blocked;
}

-- A search that finds a model leaves the log under way.
pub logged-model : (list : ClauseList) (truths : List (List Bool)) (notes notes' : List Note) (old new : Searched) (limit : ℕ) → IsLogged list truths notes old → Searches old new notes notes' limit Model → IsLogged list truths notes' new
logged-model list truths notes notes' old new limit h s = logged-run list truths notes notes' old new s.runs.steps h s.runs.run s.runs.outcome.1 s.runs.counted s.visible s.blocked

-- So does one that comes to its limit,
pub logged-conflicts : (list : ClauseList) (truths : List (List Bool)) (notes notes' : List Note) (old new : Searched) (limit : ℕ) → IsLogged list truths notes old → Searches old new notes notes' limit Conflicts → IsLogged list truths notes' new
logged-conflicts list truths notes notes' old new limit h s = logged-run list truths notes notes' old new s.runs.steps h s.runs.run s.runs.outcome.0 s.runs.counted s.visible s.blocked

-- and one that lacks memory.
pub logged-memory : (list : ClauseList) (truths : List (List Bool)) (notes notes' : List Note) (old new : Searched) (limit : ℕ) → IsLogged list truths notes old → Searches old new notes notes' limit Memory → IsLogged list truths notes' new
logged-memory list truths notes notes' old new limit h s = logged-run list truths notes notes' old new s.runs.steps h s.runs.run s.runs.outcome.0 s.runs.counted s.visible s.blocked

-- A model that was found meets all clauses of the solver.
pub model-holds : (old new : Searched) (notes notes' : List Note) (limit : ℕ) → Searches old new notes notes' limit Model → AllHold (value_in new.assignment) new.list
model-holds old new notes notes' limit s = s.runs.outcome.0

-- Its visible truth is that of a truth that meets the list,
pub model-met : (list : ClauseList) (truths : List (List Bool)) (notes : List Note) (s : Searched) → IsLogged list truths notes s → AllHold (value_in s.assignment) s.list → IsMet list s.visible (map (value_in s.assignment) (range_with_len 1 s.visible))
model-met list truths notes s h all = record { whole = value_in s.assignment; meets = found-meets list s.list truths notes (value_in s.assignment) h.under_way all; extends = refl }

-- and is none of those listed.
pub model-new : (list : ClauseList) (truths : List (List Bool)) (notes : List Note) (s : Searched) → IsLogged list truths notes s → AllHold (value_in s.assignment) s.list → Contains truths (map (value_in s.assignment) (range_with_len 1 s.visible)) → ⊥
model-new list truths notes s h all listed = found-new list s.list truths notes s.visible (value_in s.assignment) h.under_way all listed

-- A model that is blocked leaves the log under way, with one truth more.
pub logged-block : (list : ClauseList) (truths : List (List Bool)) (notes notes' : List Note) (old new : Searched) → IsLogged list truths notes old → AllHold (value_in old.assignment) old.list → Blocks old new notes notes'
    → IsLogged list (truths ++ map (value_in old.assignment) (range_with_len 1 old.visible) ∷ []) notes' new
logged-block list truths notes notes' old new h all b =
    let truth = map (value_in old.assignment) (range_with_len 1 old.visible) in
    let met : All (IsMet list old.visible) (truths ++ truth ∷ []) = All-push (IsMet list old.visible) truths truth h.met (model-met list truths notes old h all) in
    let same : count_by is_derived notes' ≡ count_by is_derived notes + 0 = ap (count_by is_derived) b.noted ∙ sum_by_push (λ (n : Note). cond (is_derived n) 1 0) notes (Blocked (blocked_clause old.visible old.assignment)) in
    record {
      under_way = under_way-block list old.list new.list truths notes notes' old.visible old.assignment h.under_way all b.variables b.clauses b.noted;
      met = subst (λ v. All (IsMet list v) (truths ++ truth ∷ [])) (sym b.visible) met;
      apart = all_pairs_push (λ (t u : List Bool). t ≢ u) truths truth h.apart (λ k d lt e. model-new list truths notes old h all (subst (Contains truths) e (Contains-get_or truths k d lt)));
      derived = omega (arith, b.derived, h.derived, same);
      blocked = omega (arith, b.blocked, h.blocked, length_push truths truth);
    }

-- One that could not be blocked leaves it as it was.
pub logged-block_none : (list : ClauseList) (truths : List (List Bool)) (notes notes' : List Note) (old new : Searched) → IsLogged list truths notes old → BlocksNone old new notes notes' → IsLogged list truths notes' new
logged-block_none list truths notes notes' old new h b = record {
  under_way = subst (λ ns. IsUnderWay list truths ns new.list) (sym b.noted) (subst (IsUnderWay list truths notes) (sym b.list) h.under_way);
  met = subst (λ v. All (IsMet list v) truths) (sym b.visible) h.met;
  apart = h.apart;
  derived = b.derived ∙ h.derived ∙ ap (count_by is_derived) (sym b.noted);
  blocked = b.blocked ∙ h.blocked;
}

-- A log under way is accepted with the ending of a limit on models,
pub logged-models : (list : ClauseList) (truths : List (List Bool)) (notes : List Note) (s : Searched) (n : ℕ) → IsLogged list truths notes s → IsAccepted list truths (ending.Models n) (log_of list notes)
logged-models list truths notes s n h = accepted-models list s.list truths notes n h.under_way

-- with that of the limit on derived clauses where a search came to it,
pub conflicts-accepted : (list : ClauseList) (truths : List (List Bool)) (notes notes' : List Note) (old new : Searched) (limit : ℕ) → IsLogged list truths notes old → Searches old new notes notes' limit Conflicts
    → IsAccepted list truths (ending.Conflicts limit) (log_of list notes')
conflicts-accepted list truths notes notes' old new limit h s =
    let now = logged-conflicts list truths notes notes' old new limit h s in
    accepted-conflicts list new.list truths notes' limit now.under_way (sym now.derived ∙ s.runs.outcome.1)

-- and with that of a complete search where one found no model.
pub exhausted-accepted : (list : ClauseList) (truths : List (List Bool)) (notes notes' : List Note) (old new : Searched) (limit n : ℕ) → IsLogged list truths notes old → Searches old new notes notes' limit Exhausted
    → IsAccepted list truths (ending.Complete n) (log_of list notes')
exhausted-accepted list truths notes notes' old new limit n h s = accepted-complete list old.list new.list truths notes notes' s.runs.steps n h.under_way s.runs.run s.runs.outcome.0

-- Whatever a search answers, its log repeats nothing.
pub searched-repeats_nothing : (list : ClauseList) (truths : List (List Bool)) (notes notes' : List Note) (old new : Searched) (limit : ℕ) (answer : Next) → IsLogged list truths notes old → Searches old new notes notes' limit answer → RepeatsNothing list notes'
searched-repeats_nothing list truths notes notes' old new limit answer h s = run-repeats_nothing list old.list new.list notes notes' s.runs.steps h.under_way.repeats_nothing h.under_way.now_is s.runs.run

-- The listed truths have the length of the visible variables.
pub met-sizes : (list : ClauseList) (visible : ℕ) (truths : List (List Bool)) → All (IsMet list visible) truths → All (λ truth. length truth ≡ visible) truths
met-sizes list visible truths met k d lt =
    let m = met k d lt in
    ap length (sym m.extends) ∙ length-map-range_with_len m.whole 1 visible

-- A search that found no model more has listed the visible part of each truth that meets the list.
pub exhausted-leaves_none_out : (list : ClauseList) (truths : List (List Bool)) (notes notes' : List Note) (old new : Searched) (limit : ℕ) → IsLogged list truths notes old → Searches old new notes notes' limit Exhausted
    → (w : ℕ → Bool) → AllHold w list → Contains truths (visible_part old.visible w)
exhausted-leaves_none_out list truths notes notes' old new limit h s w all =
    leaves_none_out list truths 0 old.visible (log_of list notes') (exhausted-accepted list truths notes notes' old new limit 0 h s) (met-sizes list old.visible truths h.met) w all
