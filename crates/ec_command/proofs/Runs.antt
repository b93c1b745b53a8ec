-- What a command put and wrote is what the run puts and writes.
use Rattle.std.proofs.Common.{◌≡◌, ◌⊎◌, inl, inr, ℕ, Bool, List, Option, Some, None, refl, ap, sym, subst, ◌∙◌}
use Rattle.ec_clause.specs.declared.ending.Ending.TheVariants.{Complete, Models, Conflicts}
use Rattle.ec_logic.specs.Theory.{Theory}
use Rattle.ec_syntax.specs.declared.book.Refusal.{Refusal}
use Rattle.ec_solve.specs.declared.searching.Bounds.{Bounds}
use Rattle.ec_engine.specs.declared.checking.CheckEnd.{CheckEnd}
use Rattle.ec_engine.specs.declared.checking.CheckEnd.TheVariants as check
use Rattle.ec_engine.specs.declared.listing.ListEnd.{ListEnd}
use Rattle.ec_engine.specs.declared.listing.ListEnd.TheVariants as list
use Rattle.ec_engine.specs.declared.showing.ShowEnd.{ShowEnd}
use Rattle.ec_engine.specs.declared.showing.ShowEnd.TheVariants as show
use Rattle.ec_engine.specs.declared.solving.SolveEnd.{SolveEnd}
use Rattle.ec_engine.specs.declared.solving.SolveEnd.TheVariants as solve
use Rattle.ec_engine.specs.Check.{IsCheckDue, CheckPutsPrefix, IsCheckAnswered}
use Rattle.ec_engine.specs.List.{IsDue, PutsPrefix, IsAnswered}
use Rattle.ec_engine.specs.Sent.{SentPart, SentNothing}
use Rattle.ec_engine.specs.Show.{IsShowDue, ShowPutsPrefix, IsShowAnswered}
use Rattle.ec_engine.specs.Solve as solves
use Rattle.ec_engine.specs.Solve.{IsSolveDue, SolvePutsPrefix, WritesPrefix, IsSolveAnswered, IsSolvable, CanComplete, IsWholeUnlessFailed}
use Rattle.ec_command.specs.declared.status.Status.{Status}
use Rattle.ec_command.specs.declared.status.Status.TheVariants as status
use Rattle.ec_command.specs.declared.words.Job.{Job}
use Rattle.ec_command.specs.declared.words.Job.TheVariants as job
use Rattle.ec_command.specs.Ends.{check_status, list_status, show_status, solve_status}
use Rattle.ec_command.specs.Faults.{Stops}
use Rattle.ec_command.specs.SampleRun.{PutsNoReport, PutsReportPart, IsSampleRun}
use Rattle.ec_command.specs.Words.{job_of}
use Rattle.ec_command.specs.Run.{usage, usage_text, IsNoJobAnswer, listed, list_refused, solved, limited_by_models, limited_by_conflicts, solve_refused, checked, checked_to_models, checked_to_conflicts, not_shown, check_refused, shown, show_refused, sampled, PutsPart, PutsNothing, Completes, IsRun, IsWholeAnswer}

-- ---- words that are no job

-- What was put for words that are no job is due for them, whatever the names hold.
pub no_job_run : (words : List (List ℕ)) (held : List ℕ → Option (List ℕ)) (told : Bool) (before after : List ℕ) (start_failed : Type 0) (answered : Status) → job_of words ≡ None → IsNoJobAnswer told before after answered
    → IsRun words held held told before after start_failed answered
no_job_run words held told before after start_failed status.Complete none p = absurd p
no_job_run words held told before after start_failed status.Limit none p = absurd p
no_job_run words held told before after start_failed status.Refused none p = absurd p
no_job_run words held told before after start_failed status.No none p = absurd p
no_job_run words held told before after start_failed status.FilesFault none p = absurd p
no_job_run words held told before after start_failed status.OutFault none p = record { answered = status.Usage; text = usage_text; due = usage none; put = p }
no_job_run words held told before after start_failed status.Usage none p = record { text = usage_text; due = usage none; put = p }
no_job_run words held told before after start_failed status.NoMemory none p = inr (record { answered = status.Usage; text = usage_text; due = usage none; put = p })

-- ---- a job that writes nothing

-- the job is a search
abbrev pub IsSearch : Option Job → Type 0
IsSearch (Some (job.List file)) = ⊥
IsSearch (Some (job.Solve file log bounds)) = Unit {0}
IsSearch (Some (job.Check file list log)) = ⊥
IsSearch (Some (job.Show file)) = ⊥
IsSearch (Some (job.Sample n)) = ⊥
IsSearch None = ⊥

-- the job is a sample
abbrev pub IsSample : Option Job → Type 0
IsSample (Some (job.List file)) = ⊥
IsSample (Some (job.Solve file log bounds)) = ⊥
IsSample (Some (job.Check file list log)) = ⊥
IsSample (Some (job.Show file)) = ⊥
IsSample (Some (job.Sample n)) = Unit {0}
IsSample None = ⊥

-- words with a job of another kind have none of this kind
other_kind : (IsKind : Option Job → Type 0) (asked other : Option Job) (words : List (List ℕ)) → job_of words ≡ asked → (IsKind asked → ⊥) → job_of words ≡ other → IsKind other → ⊥
other_kind IsKind asked other words is none also kind = none (subst IsKind (sym also ∙ is) kind)

writes_nothing : (words : List (List ℕ)) (held holds : List ℕ → Option (List ℕ)) (told : Bool) (before after : List ℕ) (lost : Type 0) (asked : Job) → job_of words ≡ Some asked → (IsSearch (Some asked) → ⊥) → (IsSample (Some asked) → ⊥)
    → SentNothing told before after → PutsNothing words held holds told before after lost
writes_nothing words held holds told before after lost asked is no_search no_sample same = record {
  same = same;
  log_part = λ file log bounds other. absurd (other_kind IsSearch (Some asked) (Some (job.Solve file log bounds)) words is no_search other tt);
  sample_part = λ n other. absurd (other_kind IsSample (Some asked) (Some (job.Sample n)) words is no_sample other tt);
}

module _ (words : List (List ℕ)) (held holds : List ℕ → Option (List ℕ)) (told : Bool) (start_failed : Type 0) (file : List ℕ) (asked : job_of words ≡ Some (job.List file)) where
  list_due : (before after : List ℕ) (answer : ListEnd) (text : List ℕ) → IsDue held file answer text → SentPart told text before after → PutsPart words held holds told before after
  list_due before after (list.Complete count) text due put = record { answered = status.Complete; text = text; due = listed file count text asked due; put = put }
  list_due before after (list.Refused r) text due put = record { answered = status.Refused; text = text; due = list_refused file r text asked due; put = put }
  list_due before after list.Files text due put = absurd due
  list_due before after list.Out text due put = absurd due
  list_due before after list.Memory text due put = absurd due

  list_part : (before after : List ℕ) → PutsPrefix held file told before after → PutsPart words held holds told before after
  list_part before after p = list_due before after p.answer p.text p.due p.put

  list_memory : (before after : List ℕ) → SentNothing told before after ⊎ PutsPrefix held file told before after → PutsNothing words held holds told before after ⊥ ⊎ PutsPart words held holds told before after
  list_memory before after (inl same) = inl (writes_nothing words held holds told before after ⊥ (job.List file) asked (λ p. p) (λ p. p) same)
  list_memory before after (inr p) = inr (list_part before after p)

  pub list_run : (before after : List ℕ) (answer : ListEnd) → IsAnswered held file told before after answer → IsRun words held holds told before after start_failed (list_status answer)
  list_run before after (list.Complete count) p = record { text = p.text; due = listed file count p.text asked p.due; put = p.put }
  list_run before after (list.Refused r) p = record { text = p.text; due = list_refused file r p.text asked p.due; put = p.put }
  list_run before after list.Files p = writes_nothing words held holds told before after start_failed (job.List file) asked (λ p. p) (λ p. p) p
  list_run before after list.Out p = list_part before after p
  list_run before after list.Memory p = list_memory before after p

module _ (words : List (List ℕ)) (held holds : List ℕ → Option (List ℕ)) (told : Bool) (start_failed : Type 0) (file : List ℕ) (asked : job_of words ≡ Some (job.Show file)) where
  show_due : (before after : List ℕ) (answer : ShowEnd) (text : List ℕ) → IsShowDue held file answer text → SentPart told text before after → PutsPart words held holds told before after
  show_due before after (show.Shown counts) text due put = record { answered = status.Complete; text = text; due = shown file counts text asked due; put = put }
  show_due before after (show.Refused r) text due put = record { answered = status.Refused; text = text; due = show_refused file r text asked due; put = put }
  show_due before after show.Files text due put = absurd due
  show_due before after show.Out text due put = absurd due
  show_due before after show.Memory text due put = absurd due

  show_part : (before after : List ℕ) → ShowPutsPrefix held file told before after → PutsPart words held holds told before after
  show_part before after p = show_due before after p.answer p.text p.due p.put

  show_memory : (before after : List ℕ) → SentNothing told before after ⊎ ShowPutsPrefix held file told before after → PutsNothing words held holds told before after ⊥ ⊎ PutsPart words held holds told before after
  show_memory before after (inl same) = inl (writes_nothing words held holds told before after ⊥ (job.Show file) asked (λ p. p) (λ p. p) same)
  show_memory before after (inr p) = inr (show_part before after p)

  pub show_run : (before after : List ℕ) (answer : ShowEnd) → IsShowAnswered held file told before after answer → IsRun words held holds told before after start_failed (show_status answer)
  show_run before after (show.Shown counts) p = record { text = p.text; due = shown file counts p.text asked p.due; put = p.put }
  show_run before after (show.Refused r) p = record { text = p.text; due = show_refused file r p.text asked p.due; put = p.put }
  show_run before after show.Files p = writes_nothing words held holds told before after start_failed (job.Show file) asked (λ p. p) (λ p. p) p
  show_run before after show.Out p = show_part before after p
  show_run before after show.Memory p = show_memory before after p

module _ (words : List (List ℕ)) (held holds : List ℕ → Option (List ℕ)) (told : Bool) (start_failed : Type 0) (file list log : List ℕ) (asked : job_of words ≡ Some (job.Check file list log)) where
  check_due : (before after : List ℕ) (answer : CheckEnd) (text : List ℕ) → IsCheckDue held file list log answer text → SentPart told text before after → PutsPart words held holds told before after
  check_due before after (check.Yes (Complete count)) text due put = record { answered = status.Complete; text = text; due = checked file list log count text asked due; put = put }
  check_due before after (check.Yes (Models most)) text due put = record { answered = status.Limit; text = text; due = checked_to_models file list log most text asked due; put = put }
  check_due before after (check.Yes (Conflicts most)) text due put = record { answered = status.Limit; text = text; due = checked_to_conflicts file list log most text asked due; put = put }
  check_due before after (check.No why) text due put = record { answered = status.No; text = text; due = not_shown file list log why text asked due; put = put }
  check_due before after (check.Refused r) text due put = record { answered = status.Refused; text = text; due = check_refused file list log r text asked due; put = put }
  check_due before after check.Files text due put = absurd due
  check_due before after check.Out text due put = absurd due
  check_due before after check.Memory text due put = absurd due

  check_part : (before after : List ℕ) → CheckPutsPrefix held file list log told before after → PutsPart words held holds told before after
  check_part before after p = check_due before after p.answer p.text p.due p.put

  check_memory : (before after : List ℕ) → SentNothing told before after ⊎ CheckPutsPrefix held file list log told before after → PutsNothing words held holds told before after ⊥ ⊎ PutsPart words held holds told before after
  check_memory before after (inl same) = inl (writes_nothing words held holds told before after ⊥ (job.Check file list log) asked (λ p. p) (λ p. p) same)
  check_memory before after (inr p) = inr (check_part before after p)

  pub check_run : (before after : List ℕ) (answer : CheckEnd) → IsCheckAnswered held file list log told before after answer → IsRun words held holds told before after start_failed (check_status answer)
  check_run before after (check.Yes (Complete count)) p = record { text = p.text; due = checked file list log count p.text asked p.due; put = p.put }
  check_run before after (check.Yes (Models most)) p = record { text = p.text; due = checked_to_models file list log most p.text asked p.due; put = p.put }
  check_run before after (check.Yes (Conflicts most)) p = record { text = p.text; due = checked_to_conflicts file list log most p.text asked p.due; put = p.put }
  check_run before after (check.No why) p = record { text = p.text; due = not_shown file list log why p.text asked p.due; put = p.put }
  check_run before after (check.Refused r) p = record { text = p.text; due = check_refused file list log r p.text asked p.due; put = p.put }
  check_run before after check.Files p = writes_nothing words held holds told before after start_failed (job.Check file list log) asked (λ p. p) (λ p. p) p
  check_run before after check.Out p = check_part before after p
  check_run before after check.Memory p = check_memory before after p

-- ---- a search

-- the log of a solve job is the one that its words name
same_solve : (words : List (List ℕ)) (file log : List ℕ) (bounds : Bounds) (file' log' : List ℕ) (bounds' : Bounds) → job_of words ≡ Some (job.Solve file log bounds) → job_of words ≡ Some (job.Solve file' log' bounds') → job.Solve file log bounds ≡ job.Solve file' log' bounds'
same_solve words file log bounds file' log' bounds' is other =
    let same : Some (job.Solve file log bounds) ≡ Some (job.Solve file' log' bounds') = sym is ∙ other in
    cc

-- what holds of the file, the log and the bounds of a job holds of those of any equal job
abbrev Held : (List ℕ → List ℕ → Bounds → Type 0) → Job → Type 0
Held P (job.List file) = Unit {0}
Held P (job.Solve file log bounds) = P file log bounds
Held P (job.Check file list log) = Unit {0}
Held P (job.Show file) = Unit {0}
Held P (job.Sample n) = Unit {0}

module _ (words : List (List ℕ)) (held holds : List ℕ → Option (List ℕ)) (told : Bool) (start_failed : Type 0) (file log : List ℕ) (bounds : Bounds) (asked : job_of words ≡ Some (job.Solve file log bounds)) where
  solve_due : (before after : List ℕ) (answer : SolveEnd) (text : List ℕ) → IsSolveDue held file log bounds answer text (holds log) → SentPart told text before after → PutsPart words held holds told before after
  solve_due before after (solve.Done (Complete count)) text due put = record { answered = status.Complete; text = text; due = solved file log bounds count text asked due; put = put }
  solve_due before after (solve.Done (Models most)) text due put = record { answered = status.Limit; text = text; due = limited_by_models file log bounds most text asked due; put = put }
  solve_due before after (solve.Done (Conflicts most)) text due put = record { answered = status.Limit; text = text; due = limited_by_conflicts file log bounds most text asked due; put = put }
  solve_due before after (solve.Refused r) text due put = record { answered = status.Refused; text = text; due = solve_refused file log bounds r text asked due; put = put }
  solve_due before after solve.Files text due put = absurd (nothing_due (holds log) due)
    where
      nothing_due : (written : Option (List ℕ)) → IsSolveDue held file log bounds solve.Files text written → ⊥
      nothing_due None h = h
      nothing_due (Some logged) h = h
  solve_due before after solve.Out text due put = absurd (nothing_due (holds log) due)
    where
      nothing_due : (written : Option (List ℕ)) → IsSolveDue held file log bounds solve.Out text written → ⊥
      nothing_due None h = h
      nothing_due (Some logged) h = h
  solve_due before after solve.Memory text due put = absurd (nothing_due (holds log) due)
    where
      nothing_due : (written : Option (List ℕ)) → IsSolveDue held file log bounds solve.Memory text written → ⊥
      nothing_due None h = h
      nothing_due (Some logged) h = h

  solve_part : (before after : List ℕ) → SolvePutsPrefix held file log bounds told before after (holds log) → PutsPart words held holds told before after
  solve_part before after p = solve_due before after p.answer p.text p.due p.put

  -- nothing was put, and the log is lost, or as it may be
  solve_nothing : (before after : List ℕ) (lost : Type 0) → SentNothing told before after → lost ⊎ (holds log ≡ held log) ⊎ WritesPrefix held file log bounds (holds log) → PutsNothing words held holds told before after lost
  solve_nothing before after lost same log_part = record {
    same = same;
    log_part = λ file' log' bounds' other.
        subst (Held (λ f l b. lost ⊎ (holds l ≡ held l) ⊎ WritesPrefix held f l b (holds l))) (same_solve words file log bounds file' log' bounds' asked other) log_part;
    sample_part = λ n other. absurd (other_kind IsSample (Some (job.Solve file log bounds)) (Some (job.Sample n)) words asked (λ p. p) other tt);
  }

  solve_files : (before after : List ℕ) → (start_failed × SentNothing told before after) ⊎ solves.PutsNothing held file log bounds told before after (holds log) → PutsNothing words held holds told before after start_failed
  solve_files before after (inl p) = solve_nothing before after start_failed p.1 (inl p.0)
  solve_files before after (inr p) = solve_nothing before after start_failed p.same (inr p.log_part)

  solve_memory : (before after : List ℕ) → solves.PutsNothing held file log bounds told before after (holds log) ⊎ SolvePutsPrefix held file log bounds told before after (holds log) → PutsNothing words held holds told before after ⊥ ⊎ PutsPart words held holds told before after
  solve_memory before after (inl p) = inl (solve_nothing before after ⊥ p.same (inr p.log_part))
  solve_memory before after (inr p) = inr (solve_part before after p)

  pub solve_run : (before after : List ℕ) (answer : SolveEnd) → IsSolveAnswered held file log bounds told before after (holds log) start_failed answer → IsRun words held holds told before after start_failed (solve_status answer)
  solve_run before after (solve.Done (Complete count)) p = record { text = p.text; due = solved file log bounds count p.text asked p.due; put = p.put }
  solve_run before after (solve.Done (Models most)) p = record { text = p.text; due = limited_by_models file log bounds most p.text asked p.due; put = p.put }
  solve_run before after (solve.Done (Conflicts most)) p = record { text = p.text; due = limited_by_conflicts file log bounds most p.text asked p.due; put = p.put }
  solve_run before after (solve.Refused r) p = record { text = p.text; due = solve_refused file log bounds r p.text asked p.due; put = p.put }
  solve_run before after solve.Files p = solve_files before after p
  solve_run before after solve.Out p = solve_part before after p
  solve_run before after solve.Memory p = solve_memory before after p

-- ---- a sample

-- what may be where a sample of this many steps stops
abbrev StopsAs : (ℕ → Type 0) → Option Job → Type 0
StopsAs P (Some (job.List file)) = Unit {0}
StopsAs P (Some (job.Solve file log bounds)) = Unit {0}
StopsAs P (Some (job.Check file list log)) = Unit {0}
StopsAs P (Some (job.Show file)) = Unit {0}
StopsAs P (Some (job.Sample n)) = P n
StopsAs P None = Unit {0}

module _ (words : List (List ℕ)) (held holds : List ℕ → Option (List ℕ)) (told : Bool) (start_failed : Type 0) (n : ℕ) (asked : job_of words ≡ Some (job.Sample n)) where
  sample_nothing : (before after : List ℕ) (lost : Type 0) → PutsNoReport n held holds told before after lost → PutsNothing words held holds told before after lost
  sample_nothing before after lost p = record {
    same = p.same;
    log_part = λ file log bounds other. absurd (other_kind IsSearch (Some (job.Sample n)) (Some (job.Solve file log bounds)) words asked (λ q. q) other tt);
    sample_part = λ m other. subst (StopsAs (λ k. Stops k held holds lost)) (sym asked ∙ other) p.stops;
  }

  sample_put : (before after : List ℕ) → PutsReportPart n holds told before after → PutsPart words held holds told before after
  sample_put before after p = record { answered = p.answered; text = p.text; due = sampled n p.answered p.text asked p.due; put = p.put }

  sample_memory : (before after : List ℕ) → PutsNoReport n held holds told before after ⊥ ⊎ PutsReportPart n holds told before after → PutsNothing words held holds told before after ⊥ ⊎ PutsPart words held holds told before after
  sample_memory before after (inl p) = inl (sample_nothing before after ⊥ p)
  sample_memory before after (inr p) = inr (sample_put before after p)

  pub sample_does : (before after : List ℕ) (answer : Status) → IsSampleRun n held holds told before after start_failed answer → IsRun words held holds told before after start_failed answer
  sample_does before after status.Complete p = record { text = p.text; due = sampled n status.Complete p.text asked p.due; put = p.put }
  sample_does before after status.Limit p = record { text = p.text; due = sampled n status.Limit p.text asked p.due; put = p.put }
  sample_does before after status.Refused p = absurd p
  sample_does before after status.No p = absurd p
  sample_does before after status.FilesFault p = sample_nothing before after start_failed p
  sample_does before after status.OutFault p = sample_put before after p
  sample_does before after status.Usage p = absurd p
  sample_does before after status.NoMemory p = sample_memory before after p

pub whole_status : (answer : SolveEnd) → IsWholeUnlessFailed answer → IsWholeAnswer (solve_status answer)
whole_status (solve.Done (Complete count)) h = h
whole_status (solve.Done (Models most)) h = h
whole_status (solve.Done (Conflicts most)) h = h
whole_status (solve.Refused r) h = h
whole_status solve.Files h = h
whole_status solve.Out h = h
whole_status solve.Memory h = h

-- a search that can come to its end does, by the job that its file, its log and its bounds make
pub whole_job : (held : List ℕ → Option (List ℕ)) (file log : List ℕ) (bounds : Bounds) (file' log' : List ℕ) (bounds' : Bounds) (theory : Theory) (answer : SolveEnd) → job.Solve file log bounds ≡ job.Solve file' log' bounds'
    → ((t : Theory) → IsSolvable held file log bounds t → CanComplete bounds t → IsWholeUnlessFailed answer) → IsSolvable held file' log' bounds' theory → CanComplete bounds' theory → IsWholeAnswer (solve_status answer)
whole_job held file log bounds file' log' bounds' theory answer same whole =
    subst (Held (λ f l b. IsSolvable held f l b theory → CanComplete b theory → IsWholeAnswer (solve_status answer))) same (λ solvable can. whole_status answer (whole theory solvable can))

-- a refused status is that of a refusal
pub list_refused_end : (answer : ListEnd) → list_status answer ≡ status.Refused → (r : Refusal) × (answer ≡ list.Refused r)
list_refused_end (list.Complete count) h = absurd (cc)
list_refused_end (list.Refused r) h = (r, refl)
list_refused_end list.Files h = absurd (cc)
list_refused_end list.Out h = absurd (cc)
list_refused_end list.Memory h = absurd (cc)

pub check_refused_end : (answer : CheckEnd) → check_status answer ≡ status.Refused → (r : Refusal) × (answer ≡ check.Refused r)
check_refused_end (check.Yes (Complete count)) h = absurd (cc)
check_refused_end (check.Yes (Models most)) h = absurd (cc)
check_refused_end (check.Yes (Conflicts most)) h = absurd (cc)
check_refused_end (check.No why) h = absurd (cc)
check_refused_end (check.Refused r) h = (r, refl)
check_refused_end check.Files h = absurd (cc)
check_refused_end check.Out h = absurd (cc)
check_refused_end check.Memory h = absurd (cc)

pub show_refused_end : (answer : ShowEnd) → show_status answer ≡ status.Refused → (r : Refusal) × (answer ≡ show.Refused r)
show_refused_end (show.Shown counts) h = absurd (cc)
show_refused_end (show.Refused r) h = (r, refl)
show_refused_end show.Files h = absurd (cc)
show_refused_end show.Out h = absurd (cc)
show_refused_end show.Memory h = absurd (cc)

pub solve_refused_end : (answer : SolveEnd) → solve_status answer ≡ status.Refused → (r : Refusal) × (answer ≡ solve.Refused r)
solve_refused_end (solve.Done (Complete count)) h = absurd (cc)
solve_refused_end (solve.Done (Models most)) h = absurd (cc)
solve_refused_end (solve.Done (Conflicts most)) h = absurd (cc)
solve_refused_end (solve.Refused r) h = (r, refl)
solve_refused_end solve.Files h = absurd (cc)
solve_refused_end solve.Out h = absurd (cc)
solve_refused_end solve.Memory h = absurd (cc)

-- ---- jobs

-- words have one job
pub one_job : (asked : Option Job) (j k : Job) → asked ≡ Some j → asked ≡ Some k → j ≡ k
one_job asked j k is other =
    let same : Some j ≡ Some k = sym is ∙ other in
    cc

-- a solve job with equal names
pub renamed : (asked : Job) (file file' log log' : List ℕ) (bounds : Bounds) → asked ≡ job.Solve file log bounds → file' ≡ file → log' ≡ log → asked ≡ job.Solve file' log' bounds
renamed asked file file' log log' bounds is same_file same_log = rw (same_file, same_log) is

-- a check job with equal names
pub renamed_check : (asked : Job) (file file' list list' log log' : List ℕ) → asked ≡ job.Check file list log → file' ≡ file → list' ≡ list → log' ≡ log → asked ≡ job.Check file' list' log'
renamed_check asked file file' list list' log log' is same_file same_list same_log = rw (same_file, same_list, same_log) is

-- ---- searches that can come to their end

-- words that ask for no search ask for none to be whole
pub no_search : (words : List (List ℕ)) (held : List ℕ → Option (List ℕ)) (answered : Status) (asked : Option Job) → job_of words ≡ asked → (IsSearch asked → ⊥) → Completes words held answered
no_search words held answered asked is none = record {
  whole = λ file log bounds theory other solvable can. absurd (other_kind IsSearch asked (Some (job.Solve file log bounds)) words is none other tt);
}
