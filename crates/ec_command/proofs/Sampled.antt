-- The run of a sample, stage by stage: what a command answers is due, since the file that was made has one theory, and no command refuses it.
use Rattle.std.proofs.Common.{◌≡◌, ◌≢◌, ℕ, ◌<◌, ◌≤◌, ◌*◌, ◌^◌, ◌⊎◌, inl, inr, Bool, true, List, [], ◌∷◌, ◌++◌, length, get_or, min, Contains, Option, Some, None, Result, Ok, Err, refl, sym, ap, subst, ◌∙◌, arith}
use Rattle.std.specs.Prelude.{IsTrue, MatchResult, OnErr, OnOk}
use Rattle.std.proofs.Math.Path.{fun_ext}
use Rattle.std.proofs.lemmas.List.{append-nil}
use Rattle.ec_accept.specs.Accepted.{IsAccepted, visible_count}
use Rattle.ec_accept.proofs.One.{files_one}
use Rattle.ec_clause.specs.declared.ending.Ending.{Ending}
use Rattle.ec_clause.specs.declared.ending.Ending.TheVariants.{Complete, Models, Conflicts}
use Rattle.ec_edge.specs.Causes.{Rose}
use Rattle.ec_edge.specs.Pieces.{AllStay, OthersStay, AppendsPrefix}
use Rattle.ec_edge.specs.declared.fault.SinkFault.{SinkFault}
use Rattle.ec_edge.specs.declared.fault.SinkFault.TheVariants as sink
use Rattle.ec_engine.specs.Answers.{end_of}
use Rattle.ec_engine.specs.Check.{IsCheckAnswered, IsCheckDue, IsUnchecked, CheckPutsDue, unaccepted as unread, no_list, no_log}
use Rattle.ec_engine.specs.Sent.{SentNothing}
use Rattle.ec_engine.specs.Solve.{IsSolvable, IsSolved, IsSolveAnswered, IsSolveDue, IsUnsolved, SolvePutsDue, SolvePutsPrefix, WritesPrefix, unaccepted, many_models, log_is_read}
use Rattle.ec_engine.specs.Solve as solves
use Rattle.ec_engine.specs.declared.checking.CheckEnd.{CheckEnd}
use Rattle.ec_engine.specs.declared.checking.CheckEnd.TheVariants as check
use Rattle.ec_engine.specs.declared.solving.SolveEnd.{SolveEnd}
use Rattle.ec_engine.specs.declared.solving.SolveEnd.TheVariants as solve
use Rattle.ec_evidence.specs.declared.finding.Reason.{Reason}
use Rattle.ec_logic.specs.Atom.{visible_atoms}
use Rattle.ec_logic.specs.Signature.{Signature}
use Rattle.ec_logic.specs.Theory.{Theory}
use Rattle.ec_logic.specs.Universe.{universe_of}
use Rattle.ec_sampled.specs.Theory.{sample_theory}
use Rattle.ec_sampled.proofs.Sample as law
use Rattle.ec_solve.specs.declared.searching.Bounds.{Bounds}
use Rattle.ec_syntax.specs.declared.book.Refusal.{Refusal}
use Rattle.ec_weight.specs.Weight.{weight_of}
use Rattle.ec_command.specs.Ends.{solve_status}
use Rattle.ec_command.specs.Faults.{IsLeft, Stops, solving, listing, checking}
use Rattle.ec_command.specs.Sample.{Held, sample_file, sample_list, sample_log, IsMade, IsSolvedSample, IsListedSample, report}
use Rattle.ec_command.specs.SampleRun.{IsSampleDue, IsSampleRun, PutsReportPart}
use Rattle.ec_command.specs.Stages.{HasChecked, HasMade, HasSolved, IsSize, IsStop, IsWorked}
use Rattle.ec_command.specs.Words.{IsSteps, usual_bounds}
use Rattle.ec_command.specs.declared.making.Stop.{Stop}
use Rattle.ec_command.specs.declared.making.Stop.TheVariants as stop
use Rattle.ec_command.specs.declared.sampling.Sampled.{Sampled}
use Rattle.ec_command.specs.declared.sampling.Size.{Size}
use Rattle.ec_command.specs.declared.status.Status.TheVariants as status

-- ---- the names

file_apart : sample_file ≢ sample_log
file_apart same = let lengths : 8 ≡ 10 = ap length same in absurd (omega (arith, lengths))

file_apart_list : sample_file ≢ sample_list
file_apart_list same = let lengths : 8 ≡ 10 = ap length same in absurd (omega (arith, lengths))

-- their last three bytes differ
list_apart : sample_list ≢ sample_log
list_apart same = let bytes : 111 ≡ 108 = ap (λ (name : List ℕ). get_or name 7 0) same in absurd (omega (arith, bytes))

-- ---- counts

rose_on : (starts before now : ℕ) → starts ≤ before → Rose before now → Rose starts now
rose_on starts before now low rose = λ small. let more = rose small in omega (arith, low, more)

too_many : (a b : ℕ) → a ≡ b → 1000 * b ≤ 2 ^ 28 → 2 ^ 28 < 1000 * a → ⊥
too_many a b same small many = absurd (omega (arith, same, small, many))

-- ---- texts that are left

left_on : (lost more : Type 0) (text : List ℕ) (first before after : Option (List ℕ)) → (lost → more) → before ≡ first → IsLeft lost text before after → IsLeft more text first after
left_on lost more text first before after on same (inl gone) = inl (on gone)
left_on lost more text first before after on same (inr (inl kept)) = inr (inl (kept ∙ same))
left_on lost more text first before after on same (inr (inr part)) = inr (inr part)

-- ---- what is so of a sample of n steps

module _ (n : ℕ) (steps : IsSteps n) where
  says : (held : Held) → IsMade n held → law.IsSampled held n
  says held made = law.sample_is_sampled held n steps.some steps.few made

  one_theory : (held : Held) → IsMade n held → (theory : Theory) → IsAccepted held sample_file (Ok theory) → theory ≡ sample_theory n
  one_theory held made theory accepted = let same = (says held made).answer accepted in cc

  pub never_refused : (held : Held) → IsMade n held → (refusal : Refusal) → IsAccepted held sample_file (Err refusal) → ⊥
  never_refused held made refusal accepted = (says held made).unrefused accepted

  never_unsolved : (held : Held) → IsMade n held → (refusal : Refusal) → IsUnsolved held sample_file sample_log usual_bounds refusal → ⊥
  never_unsolved held made refusal (unaccepted accepted) = (says held made).unrefused accepted
  never_unsolved held made refusal (many_models theory accepted many) =
      too_many (visible_count theory) (visible_count (sample_theory n)) (ap visible_count (one_theory held made theory accepted)) (says held made).small many
  never_unsolved held made refusal (log_is_read theory files accepted small read among) =
      (says held made).apart (subst (λ (names : List (List ℕ)). Contains names sample_log) (files_one held sample_file read (says held made).files) among)

  solvable : (held : Held) → IsMade n held → IsSolvable held sample_file sample_log usual_bounds (sample_theory n)
  solvable held made = record {
    accepted = (says held made).accepted;
    small = (says held made).small;
    files = sample_file ∷ [];
    read = (says held made).files;
    apart = (says held made).apart;
  }

  -- ---- what was found stays so where other names change

  solved_on : (held holds : Held) → IsMade n held → IsMade n holds → (ending : Ending) (text logged : List ℕ)
      → IsSolved held sample_file sample_log usual_bounds ending text logged → IsSolved holds sample_file sample_log usual_bounds ending text logged
  solved_on held holds made remade ending text logged is = record {
    theory = is.theory;
    solvable = subst (λ (theory : Theory). IsSolvable holds sample_file sample_log usual_bounds theory) (sym (one_theory held made is.theory is.solvable.accepted)) (solvable holds remade);
    truths = is.truths;
    shown_by = is.shown_by;
    found = is.found;
    is = is.is;
    logs = is.logs;
  }

  done_on : (held holds : Held) → IsMade n held → IsMade n holds → (ending : Ending) (text : List ℕ) (written : Option (List ℕ))
      → IsSolveDue held sample_file sample_log usual_bounds (solve.Done ending) text written → IsSolveDue holds sample_file sample_log usual_bounds (solve.Done ending) text written
  done_on held holds made remade ending text None due = due
  done_on held holds made remade ending text (Some logged) due = solved_on held holds made remade ending text logged due

  prefix_on : (held holds : Held) → IsMade n held → IsMade n holds → (written : Option (List ℕ))
      → WritesPrefix held sample_file sample_log usual_bounds written → WritesPrefix holds sample_file sample_log usual_bounds written
  prefix_on held holds made remade written is = record {
    ending = is.ending;
    text = is.text;
    logged = is.logged;
    solved = solved_on held holds made remade is.ending is.text is.logged is.solved;
    part = is.part;
  }

  sample_on : (held holds : Held) → holds sample_file ≡ held sample_file → holds sample_log ≡ held sample_log → (ending : Ending) (text : List ℕ)
      → IsSolvedSample n held ending text → IsSolvedSample n holds ending text
  sample_on held holds same_file same_log ending text is =
      let remade : IsMade n holds = same_file ∙ is.made in
      record {
        made = remade;
        solved = subst (λ (written : Option (List ℕ)). IsSolveDue holds sample_file sample_log usual_bounds (solve.Done ending) text written) (sym same_log)
            (done_on held holds is.made remade ending text (held sample_log) is.solved);
      }

  -- ---- the size

  pub size_is : (held : Held) → IsMade n held → (size : Size) (theory : Theory) (numbered : Signature) → IsAccepted held sample_file (Ok theory) → numbered ≡ theory.signature
      → size.weight ≡ min (weight_of theory) (2 ^ 62) → weight_of theory ≤ 4000000 → size.atoms ≡ length (visible_atoms (universe_of numbered)) → IsSize n size
  size_is held made size theory numbered accepted same_signature weight light atoms =
      let same = one_theory held made theory accepted in
      record {
        theory = theory;
        accepted = λ holds remade. subst (λ (t : Theory). IsAccepted holds sample_file (Ok t)) (sym same) (says holds remade).accepted;
        weight = within (weight_of theory) size.weight weight light;
        atoms = atoms ∙ ap (λ (signature : Signature). length (visible_atoms (universe_of signature))) same_signature;
      }
    where
      within : (weight found : ℕ) → found ≡ min weight (2 ^ 62) → weight ≤ 4000000 → found ≡ weight
      within weight found is low = omega (arith, is, low)

  -- ---- the search

  module _ (held mid holds : Held) (made : HasMade n held mid) (stay : OthersStay sample_log mid holds) (bounds : Bounds) (usual : bounds ≡ usual_bounds) where
    remade : IsMade n holds
    remade = stay sample_file file_apart ∙ made.made

    same_list : holds sample_list ≡ held sample_list
    same_list = stay sample_list list_apart ∙ made.list

    usually : (P : Bounds → Type 0) → P bounds → P usual_bounds
    usually P is = subst P usual is

    pub searched : (start_failed : Type 0) (ending : Ending) (after : List ℕ) → IsSolveAnswered mid sample_file sample_log bounds true [] after (holds sample_log) start_failed (solve.Done ending) → HasSolved n held holds ending after
    searched start_failed ending after answered =
        let is : SolvePutsDue mid sample_file sample_log usual_bounds true [] after (holds sample_log) (solve.Done ending) =
        usually (λ b. SolvePutsDue mid sample_file sample_log b true [] after (holds sample_log) (solve.Done ending)) answered in
        record {
          solved = record {
            made = remade;
            solved = done_on mid holds made.made remade ending after (holds sample_log)
                (subst (λ (text : List ℕ). IsSolveDue mid sample_file sample_log usual_bounds (solve.Done ending) text (holds sample_log)) (sym (is.put refl)) is.due);
          };
          list = same_list;
        }

    pub search_unrefused : (start_failed : Type 0) (refusal : Refusal) (after : List ℕ) → IsSolveAnswered mid sample_file sample_log bounds true [] after (holds sample_log) start_failed (solve.Refused refusal) → ⊥
    search_unrefused start_failed refusal after answered =
        let is : SolvePutsDue mid sample_file sample_log usual_bounds true [] after (holds sample_log) (solve.Refused refusal) =
        usually (λ b. SolvePutsDue mid sample_file sample_log b true [] after (holds sample_log) (solve.Refused refusal)) answered in
        never_unsolved mid made.made refusal is.due.0

    log_left : (lost : Type 0) → (holds sample_log ≡ mid sample_log) ⊎ WritesPrefix mid sample_file sample_log usual_bounds (holds sample_log) → Stops n held holds lost
    log_left lost (inl same) = solving remade (inr (inl (same ∙ made.log))) same_list
    log_left lost (inr part) = solving remade (inr (inr (prefix_on mid holds made.made remade (holds sample_log) part))) same_list

    nothing_left : (lost : Type 0) (after : List ℕ) → solves.PutsNothing mid sample_file sample_log bounds true [] after (holds sample_log) → Stops n held holds lost
    nothing_left lost after is =
        log_left lost (usually (λ b. (holds sample_log ≡ mid sample_log) ⊎ WritesPrefix mid sample_file sample_log b (holds sample_log)) is.log_part)

    files_left : (lost start_failed : Type 0) (after : List ℕ) → (start_failed → lost) → (start_failed × SentNothing true [] after) ⊎ solves.PutsNothing mid sample_file sample_log bounds true [] after (holds sample_log) → Stops n held holds lost
    files_left lost start_failed after on (inl failed) = solving remade (inl (on failed.0)) same_list
    files_left lost start_failed after on (inr nothing) = nothing_left lost after nothing

    pub search_stops : (starts before now : ℕ) (after : List ℕ) → starts ≤ before
        → IsSolveAnswered mid sample_file sample_log bounds true [] after (holds sample_log) (Rose before now) solve.Files → Stops n held holds (Rose starts now)
    search_stops starts before now after low answered = files_left (Rose starts now) (Rose before now) after (rose_on starts before now low) answered

    -- a text that is due stands with a whole log
    whole_log : (answer : SolveEnd) (text : List ℕ) (written : Option (List ℕ)) → IsSolveDue mid sample_file sample_log usual_bounds answer text written → WritesPrefix mid sample_file sample_log usual_bounds written
    whole_log (solve.Done ending) text None due = absurd due
    whole_log (solve.Done ending) text (Some logged) due = record { ending = ending; text = text; logged = logged; solved = due; part = (logged, [], sym (append-nil logged), refl) }
    whole_log (solve.Refused refusal) text written due = absurd (never_unsolved mid made.made refusal due.0)
    whole_log solve.Files text None due = absurd due
    whole_log solve.Files text (Some logged) due = absurd due
    whole_log solve.Out text None due = absurd due
    whole_log solve.Out text (Some logged) due = absurd due
    whole_log solve.Memory text None due = absurd due
    whole_log solve.Memory text (Some logged) due = absurd due

    memory_left : (after : List ℕ) → solves.PutsNothing mid sample_file sample_log bounds true [] after (holds sample_log) ⊎ SolvePutsPrefix mid sample_file sample_log bounds true [] after (holds sample_log) → Stops n held holds ⊥
    memory_left after (inl nothing) = nothing_left ⊥ after nothing
    memory_left after (inr some) =
        let is : SolvePutsPrefix mid sample_file sample_log usual_bounds true [] after (holds sample_log) = usually (λ b. SolvePutsPrefix mid sample_file sample_log b true [] after (holds sample_log)) some in
        log_left ⊥ (inr (whole_log is.answer is.text (holds sample_log) is.due))

    pub search_stops_memory : (start_failed : Type 0) (after : List ℕ) → IsSolveAnswered mid sample_file sample_log bounds true [] after (holds sample_log) start_failed solve.Memory → Stops n held holds ⊥
    search_stops_memory start_failed after answered = memory_left after answered

  -- ---- the list

  module _ (held mid holds : Held) (ending : Ending) (text : List ℕ) (solved : HasSolved n held mid ending text) (stay : OthersStay sample_list mid holds) where
    still : IsSolvedSample n holds ending text
    still = sample_on mid holds (stay sample_file file_apart_list) (stay sample_log (λ same. list_apart (sym same))) ending text solved.solved

    list_stops : (lost more : Type 0) → (lost → more) → IsLeft lost text (mid sample_list) (holds sample_list) → Stops n held holds more
    list_stops lost more on left = listing ending text still (left_on lost more text (held sample_list) (mid sample_list) (holds sample_list) on solved.list left)

    pub list_written : (starts before now : ℕ) → starts ≤ before → (result : Result Unit Stop) → OnOk result (holds sample_list ≡ Some text)
        → ((refusal : Refusal) → result ≡ Err (stop.Refused refusal) → ⊥)
        → (result ≡ Err stop.Files → IsLeft (Rose before now) text (mid sample_list) (holds sample_list))
        → (result ≡ Err stop.Memory → IsLeft ⊥ text (mid sample_list) (holds sample_list))
        → MatchResult result (λ _. IsListedSample n holds ending text) (λ why. IsStop n held holds (Rose starts now) why)
    list_written starts before now low (Ok _) ok never files memory = record { solved = still; listed = ok }
    list_written starts before now low (Err (stop.Refused refusal)) ok never files memory = never refusal refl
    list_written starts before now low (Err stop.Files) ok never files memory = list_stops (Rose before now) (Rose starts now) (rose_on starts before now low) (files refl)
    list_written starts before now low (Err stop.Memory) ok never files memory = list_stops ⊥ ⊥ (λ gone. gone) (memory refl)

  -- ---- the check

  listed_on : (mid holds : Held) → AllStay mid holds → (ending : Ending) (text : List ℕ) → IsListedSample n mid ending text → IsListedSample n holds ending text
  listed_on mid holds stay ending text is = record {
    solved = sample_on mid holds (stay sample_file) (stay sample_log) ending text is.solved;
    listed = stay sample_list ∙ is.listed;
  }

  never_unlogged : (mid : Held) (ending : Ending) (text : List ℕ) (written : Option (List ℕ)) → written ≡ None → IsSolveDue mid sample_file sample_log usual_bounds (solve.Done ending) text written → ⊥
  never_unlogged mid ending text None none due = due
  never_unlogged mid ending text (Some logged) none due = absurd (cc)

  never_unchecked : (mid : Held) (ending : Ending) (text : List ℕ) → IsListedSample n mid ending text → (refusal : Refusal) → IsUnchecked mid sample_file sample_list sample_log refusal → ⊥
  never_unchecked mid ending text is refusal (unread accepted) = never_refused mid is.solved.made refusal accepted
  never_unchecked mid ending text is refusal (no_list theory accepted none) = let clash : Some text ≡ None = sym is.listed ∙ none in absurd (cc)
  never_unchecked mid ending text is refusal (no_log theory accepted unlogged) = never_unlogged mid ending text (mid sample_log) unlogged.none is.solved.solved

  module _ (mid holds : Held) (stay : AllStay mid holds) (ending : Ending) (text : List ℕ) (is : IsListedSample n mid ending text) where
    check_done : (answer : CheckEnd) (after : List ℕ) → CheckPutsDue mid sample_file sample_list sample_log true [] after answer → HasChecked n holds ending text after
    check_done answer after due = record {
      listed = listed_on mid holds stay ending text is;
      answer = answer;
      due = subst (λ (names : Held). IsCheckDue names sample_file sample_list sample_log answer after) (sym (fun_ext stay))
          (subst (λ (put : List ℕ). IsCheckDue mid sample_file sample_list sample_log answer put) (sym (due.put refl)) due.due);
    }

    pub checked : (answer : CheckEnd) (after : List ℕ) → ((found : Ending) × (answer ≡ check.Yes found)) ⊎ ((why : Reason) × (answer ≡ check.No why))
        → IsCheckAnswered mid sample_file sample_list sample_log true [] after answer → HasChecked n holds ending text after
    checked answer after (inl found) answered =
        check_done (check.Yes found.0) after (subst (λ (end : CheckEnd). IsCheckAnswered mid sample_file sample_list sample_log true [] after end) found.1 answered)
    checked answer after (inr found) answered =
        check_done (check.No found.0) after (subst (λ (end : CheckEnd). IsCheckAnswered mid sample_file sample_list sample_log true [] after end) found.1 answered)

    pub check_unrefused : (refusal : Refusal) (after : List ℕ) → IsCheckAnswered mid sample_file sample_list sample_log true [] after (check.Refused refusal) → ⊥
    check_unrefused refusal after due = never_unchecked mid ending text is refusal due.due.0

    pub check_stops : (held : Held) (lost : Type 0) → Stops n held holds lost
    check_stops held lost = checking ending text (listed_on mid holds stay ending text is)

-- ---- the stages together

pub made_on : (n : ℕ) (held mid holds : Held) → AllStay mid holds → HasMade n held mid → HasMade n held holds
made_on n held mid holds stay is = record { made = stay sample_file ∙ is.made; log = stay sample_log ∙ is.log; list = stay sample_list ∙ is.list }

module _ (n : ℕ) (held holds : Held) (sampled : Sampled) (is : IsWorked n holds sampled) where
  abbrev pub text : List ℕ
  text = report sampled.size.weight sampled.size.atoms sampled.solved.list sampled.verdict

  due : IsSampleDue n holds (solve_status (solve.Done sampled.solved.ending)) text
  due = record {
    ending = sampled.solved.ending;
    sampled = record {
      list = sampled.solved.list;
      listed = is.checked.listed;
      answer = is.checked.answer;
      verdict = sampled.verdict;
      checked = is.checked.due;
      theory = is.size.theory;
      accepted = is.size.accepted holds is.checked.listed.solved.made;
      reported = ap (λ (weight : ℕ). report weight sampled.size.atoms sampled.solved.list sampled.verdict) is.size.weight
          ∙ ap (λ (atoms : ℕ). report (weight_of is.size.theory) atoms sampled.solved.list sampled.verdict) is.size.atoms;
    };
    ends = refl;
  }

  ends : (told : Bool) (before after : List ℕ) (start_failed : Type 0) (ending : Ending) → IsSampleDue n holds (solve_status (solve.Done ending)) text → (IsTrue told → after ≡ before ++ text)
      → IsSampleRun n held holds told before after start_failed (solve_status (solve.Done ending))
  ends told before after start_failed (Complete count) is_due put = record { text = text; due = is_due; put = put }
  ends told before after start_failed (Models most) is_due put = record { text = text; due = is_due; put = put }
  ends told before after start_failed (Conflicts most) is_due put = record { text = text; due = is_due; put = put }

  part : (told : Bool) (before after : List ℕ) → (IsTrue told → AppendsPrefix text before after) → PutsReportPart n holds told before after
  part told before after put = record { answered = solve_status (solve.Done sampled.solved.ending); text = text; due = due; put = put }

  pub reports : (told : Bool) (before after : List ℕ) (start_failed : Type 0) (put : Result Unit SinkFault)
      → (IsTrue told → OnOk put (after ≡ before ++ text)) → (IsTrue told → OnErr put (AppendsPrefix text before after))
      → IsSampleRun n held holds told before after start_failed (end_of (λ _. solve_status (solve.Done sampled.solved.ending)) status.OutFault status.NoMemory put)
  reports told before after start_failed (Ok _) ok err = ends told before after start_failed sampled.solved.ending due ok
  reports told before after start_failed (Err sink.Failed) ok err = part told before after err
  reports told before after start_failed (Err sink.Memory) ok err = inr (part told before after err)
