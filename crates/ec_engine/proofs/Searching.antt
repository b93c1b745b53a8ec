-- What was found, told or not.
use Rattle.std.proofs.Common.{◌≡◌, ◌≢◌, ◌⊎◌, inl, inr, ℕ, ◌<◌, ◌≤◌, ◌*◌, ◌^◌, Bool, true, List, [], length, All, Contains, Option, Some, Result, Ok, Err, refl, sym, ap, ◌∙◌, subst, arith}
use Rattle.std.proofs.lemmas.Bool.{true≢false}
use Rattle.std.proofs.lemmas.List.Elements.{All-contains}
use Rattle.ec_logic.specs.Listing.{list_text}
use Rattle.ec_logic.specs.Signature.{Signature}
use Rattle.ec_logic.specs.Theory.{Theory}
use Rattle.ec_logic.specs.Atom.{visible_atoms}
use Rattle.ec_logic.specs.Universe.{universe_of}
use Rattle.ec_clause.specs.Ending.{is_complete}
use Rattle.ec_clause.specs.Note.{Note}
use Rattle.ec_clause.specs.declared.ending.Ending.{Ending}
use Rattle.ec_clause.specs.declared.ending.Ending.TheVariants.{Complete, Models, Conflicts}
use Rattle.ec_edge.specs.Pieces.{AllStay, AppendsHeldPrefix}
use Rattle.ec_edge.specs.declared.fault.SinkFault.{SinkFault}
use Rattle.ec_edge.specs.declared.fault.SinkFault.TheVariants as sink
use Rattle.ec_log.specs.Log.{Log, log_text}
use Rattle.ec_solve.specs.declared.searching.Bounds.{Bounds}
use Rattle.ec_solve.specs.Found.{IsFound, IsWithin}
use Rattle.ec_accept.specs.Accepted.{IsAccepted, HasFiles, visible_count}
use Rattle.ec_accept.proofs.One.{accepted_one, files_one}
use Rattle.ec_syntax.specs.declared.book.Refusal.{Refusal}
use Rattle.ec_solve.proofs.FoundLaws.{comes_to_its_end}
use Rattle.ec_engine.proofs.Atoms.{visible_is}
use Rattle.ec_engine.specs.Answers.{end_of}
use Rattle.ec_engine.specs.Solve.{CanComplete, IsSolvable, IsSolveDue, IsSolveAnswered, IsWholeUnlessFailed, PutsNothing}
use Rattle.ec_listing.specs.Endings.{list_ending}
use Rattle.ec_engine.specs.declared.solving.SolveEnd.{SolveEnd}
use Rattle.ec_engine.specs.declared.solving.SolveEnd.TheVariants as end

-- as many truths as the bound, at most
few_within : (bounds : Bounds) (truths : List (List Bool)) (notes : List Note) (ending : Ending) → IsWithin bounds truths notes ending → length truths ≤ bounds.models
few_within bounds truths notes (Complete n) within = omega (arith, within.0, within.1)
few_within bounds truths notes (Models n) within = omega (arith, within.0, within.1)
few_within bounds truths notes (Conflicts n) within = omega (arith, within.1)

pub few_truths : (theory : Theory) (bounds : Bounds) (truths : List (List Bool)) (ending : Ending) (shown_by : Log) → bounds.models ≤ 10000 → IsFound theory bounds truths ending shown_by → length truths < 2 ^ 32
few_truths theory bounds truths ending shown_by small found = omega (arith, small, few_within bounds truths shown_by.notes ending found.within)

module _ (held : List ℕ → Option (List ℕ)) (file log : List ℕ) (bounds : Bounds) where
  -- what was found is due, once its log is written
  pub done_due : (theory : Theory) (truths : List (List Bool)) (ending : Ending) (shown_by : Log) (written : Option (List ℕ)) → IsSolvable held file log bounds theory → IsFound theory bounds truths ending shown_by
      → written ≡ Some (log_text shown_by ending) → IsSolveDue held file log bounds (end.Done ending) (list_text theory.signature truths (list_ending ending)) written
  done_due theory truths ending shown_by written solvable found is =
      subst (IsSolveDue held file log bounds (end.Done ending) (list_text theory.signature truths (list_ending ending))) (sym is)
      (record { theory = theory; solvable = solvable; truths = truths; shown_by = shown_by; found = found; is = refl; logs = refl })

  -- nothing was put, and the log holds what it held
  pub nothing_done : (told : Bool) (bytes : List ℕ) (written : Option (List ℕ)) → written ≡ held log → PutsNothing held file log bounds told bytes bytes written
  nothing_done told bytes written stays = record { same = λ _. refl; log_part = inl stays }

  -- nothing was put, and a part of the log was written
  part_done : (theory : Theory) (truths : List (List Bool)) (ending : Ending) (shown_by : Log) (told : Bool) (bytes : List ℕ) (written : Option (List ℕ)) → IsSolvable held file log bounds theory
      → IsFound theory bounds truths ending shown_by → AppendsHeldPrefix (log_text shown_by ending) (Some []) written → PutsNothing held file log bounds told bytes bytes written
  part_done theory truths ending shown_by told bytes written solvable found part = record {
    same = λ _. refl;
    log_part = inr (record {
      ending = ending;
      text = list_text theory.signature truths (list_ending ending);
      logged = log_text shown_by ending;
      solved = record { theory = theory; solvable = solvable; truths = truths; shown_by = shown_by; found = found; is = refl; logs = refl };
      part = part;
    });
  }

  pub write_failed : (start_failed appends : Type 0) (theory : Theory) (truths : List (List Bool)) (ending : Ending) (shown_by : Log) (told : Bool) (bytes : List ℕ) (written : Option (List ℕ))
      → IsSolvable held file log bounds theory → IsFound theory bounds truths ending shown_by → (appends → AppendsHeldPrefix (log_text shown_by ending) (Some []) written) → start_failed ⊎ appends
      → IsSolveAnswered held file log bounds told bytes bytes written start_failed end.Files
  write_failed start_failed appends theory truths ending shown_by told bytes written solvable found part (inl failed) = inl (failed, λ _. refl)
  write_failed start_failed appends theory truths ending shown_by told bytes written solvable found part (inr later) = inr (part_done theory truths ending shown_by told bytes written solvable found (part later))

  pub write_lacked : (start_failed : Type 0) (theory : Theory) (truths : List (List Bool)) (ending : Ending) (shown_by : Log) (told : Bool) (bytes : List ℕ) (between written : List ℕ → Option (List ℕ))
      → IsSolvable held file log bounds theory → IsFound theory bounds truths ending shown_by → AllStay held between
      → AllStay between written ⊎ AppendsHeldPrefix (log_text shown_by ending) (Some []) (written log) → IsSolveAnswered held file log bounds told bytes bytes (written log) start_failed end.Memory
  write_lacked start_failed theory truths ending shown_by told bytes between written solvable found before (inl stays) = inl (nothing_done told bytes (written log) (stays log ∙ before log))
  write_lacked start_failed theory truths ending shown_by told bytes between written solvable found before (inr part) = inl (part_done theory truths ending shown_by told bytes (written log) solvable found part)

-- a search that can come to its end does so
pub completes_found : (theory : Theory) (bounds : Bounds) (truths : List (List Bool)) (ending : Ending) (shown_by : Log) → IsFound theory bounds truths ending shown_by → CanComplete bounds theory → is_complete ending ≡ true
completes_found theory bounds truths ending shown_by found can = comes_to_its_end theory bounds truths can.truths ending shown_by found can.all can.fewer can.enough

-- and then the list is whole, unless it couldn't be put
whole_done : (ending : Ending) → is_complete ending ≡ true → IsWholeUnlessFailed (end.Done ending)
whole_done (Complete n) complete = tt
whole_done (Models n) complete = absurd (true≢false (sym complete))
whole_done (Conflicts n) complete = absurd (true≢false (sym complete))

pub whole_put : (ending : Ending) (put : Result (Unit {0}) SinkFault) → is_complete ending ≡ true → IsWholeUnlessFailed (end_of (λ (_ : Unit {0}). end.Done ending) end.Out end.Memory put)
whole_put ending (Ok u) complete = whole_done ending complete
whole_put ending (Err sink.Failed) complete = tt
whole_put ending (Err sink.Memory) complete = tt

-- ---- before the search

pub same_values : (models : ℕ) (numbered signature : Signature) (count : ℕ) → numbered ≡ signature → count ≡ length (visible_atoms (universe_of numbered)) → models * count ≡ models * length (visible_atoms (universe_of signature))
same_values models numbered signature count same is = ap (λ (n : ℕ). models * n) (visible_is numbered signature count same is)

pub not_among : (names : List (List ℕ)) (name : List ℕ) → All (λ (n : List ℕ). n ≢ name) names → Contains names name → ⊥
not_among names name apart contains = All-contains (λ n. n ≢ name) names name apart contains refl

-- ---- one theory and one list of files

module _ (held : List ℕ → Option (List ℕ)) (file log : List ℕ) (bounds : Bounds) where
  -- what the search comes to for a theory that is accepted, it comes to for each that is
  pub completes_accepted : (accepted theory : Theory) (files : List (List ℕ)) (answer : SolveEnd) → (bounds.models * visible_count accepted ≤ 2 ^ 28 → (Contains files log → ⊥) → CanComplete bounds accepted → IsWholeUnlessFailed answer)
      → IsAccepted held file (Ok accepted) → HasFiles held file files → IsSolvable held file log bounds theory → CanComplete bounds theory → IsWholeUnlessFailed answer
  completes_accepted accepted theory files answer completes is read solvable can =
      let one = accepted_one held file is solvable.accepted in
      let same : theory ≡ accepted = cc in
      let same_files : solvable.files ≡ files = files_one held file solvable.read read in
      completes (subst (λ (t : Theory). bounds.models * visible_count t ≤ 2 ^ 28) same solvable.small) (subst (λ (fs : List (List ℕ)). Contains fs log → ⊥) same_files solvable.apart) (subst (CanComplete bounds) same can)

  -- a file that is refused has no theory
  pub none_accepted : (r : Refusal) (theory : Theory) → IsAccepted held file (Err r) → IsSolvable held file log bounds theory → ⊥
  none_accepted r theory refused solvable = absurd (let one = accepted_one held file refused solvable.accepted in cc)
