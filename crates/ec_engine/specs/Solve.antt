-- What `solve` is to put and to write for what the files hold.
use Rattle.std.specs.Prelude.{ℕ, ◌≡◌, ◌≤◌, ◌<◌, ◌*◌, ◌^◌, ◌⊎◌, Bool, codes, List, [], length, Contains, Option, Some, None, Ok, Err}
use Rattle.ec_logic.specs.Listing.{list_text, AreTruths}
use Rattle.ec_logic.specs.Theory.{Theory}
use Rattle.ec_clause.specs.declared.ending.Ending.{Ending}
use Rattle.ec_clause.specs.declared.ending.Ending.TheVariants.{Complete, Models, Conflicts}
use Rattle.ec_listing.specs.Endings.{list_ending}
use Rattle.ec_edge.specs.Pieces.{AppendsHeldPrefix}
use Rattle.ec_log.specs.Log.{Log, log_text}
use Rattle.ec_syntax.specs.declared.book.Refusal.{Refusal}
use Rattle.ec_load.specs.Refusals.{refused, in_file}
use Rattle.ec_accept.specs.Accepted.{IsAccepted, HasFiles, visible_count}
use Rattle.ec_cnf.specs.List.{clauses_of}
use Rattle.ec_solve.specs.declared.searching.Bounds.{Bounds}
use Rattle.ec_solve.specs.Found.{IsFound}
use Rattle.ec_engine.specs.Refusals.{refusal_line}
use Rattle.ec_engine.specs.Sent.{Sent, SentPart, SentNothing}
use Rattle.ec_engine.specs.declared.solving.SolveEnd.{SolveEnd}
use Rattle.ec_engine.specs.declared.solving.SolveEnd.TheVariants as end

-- the bounds that a search may have
pub record AreBounds (bounds : Bounds) : Type 0 where
  pub one_model : 1 ≤ bounds.models
  pub few_models : bounds.models ≤ 10000
  pub one_conflict : 1 ≤ bounds.conflicts
  pub few_conflicts : bounds.conflicts ≤ 2000000000

-- The file is accepted, so many of its truths can be held, and the log is none of the files that are read.
pub record IsSolvable (held : List ℕ → Option (List ℕ)) (file log : List ℕ) (bounds : Bounds) (theory : Theory) : Type 0 where
  pub accepted : IsAccepted held file (Ok theory)
  pub small : bounds.models * visible_count theory ≤ 2 ^ 28
  pub files : List (List ℕ)
  pub read : HasFiles held file files
  pub apart : Contains files log → ⊥

-- The text is the list of truths of the file's theory, rising, all of them or up to a bound, and the other text is a log that shows it.
pub record IsSolved (held : List ℕ → Option (List ℕ)) (file log : List ℕ) (bounds : Bounds) (ending : Ending) (text logged : List ℕ) : Type 0 where
  pub theory : Theory
  pub solvable : IsSolvable held file log bounds theory
  pub truths : List (List Bool)
  pub shown_by : Log
  pub found : IsFound theory bounds truths ending shown_by
  pub is : text ≡ list_text theory.signature truths (list_ending ending)
  pub logs : logged ≡ log_text shown_by ending

-- The refusals, in their order: the file isn't accepted, too many truths would have to be held, or the log would be written over a file that is read.
pub data IsUnsolved (held : List ℕ → Option (List ℕ)) (file log : List ℕ) (bounds : Bounds) : Refusal → Type 0 where
  unaccepted : {refusal : Refusal} → IsAccepted held file (Err refusal) → IsUnsolved held file log bounds refusal
  many_models : (theory : Theory) → IsAccepted held file (Ok theory) → 2 ^ 28 < bounds.models * visible_count theory → IsUnsolved held file log bounds (refused 23 (in_file file 0) (codes "models"))
  log_is_read : (theory : Theory) (files : List (List ℕ)) → IsAccepted held file (Ok theory) → bounds.models * visible_count theory ≤ 2 ^ 28 → HasFiles held file files → Contains files log
      → IsUnsolved held file log bounds (refused 24 (in_file file 0) log)

-- the text that is due with an answer, and what the log is to hold then
abbrev pub IsSolveDue : (List ℕ → Option (List ℕ)) → List ℕ → List ℕ → Bounds → SolveEnd → List ℕ → Option (List ℕ) → Type 0
IsSolveDue held file log bounds (end.Done ending) text None = ⊥
IsSolveDue held file log bounds (end.Done ending) text (Some logged) = IsSolved held file log bounds ending text logged
IsSolveDue held file log bounds (end.Refused r) text written = IsUnsolved held file log bounds r × (text ≡ refusal_line r) × (written ≡ held log)
IsSolveDue held file log bounds end.Files text written = ⊥
IsSolveDue held file log bounds end.Out text written = ⊥
IsSolveDue held file log bounds end.Memory text written = ⊥

-- The text that is due with the answer was put, and the log holds what is due.
pub record SolvePutsDue (held : List ℕ → Option (List ℕ)) (file log : List ℕ) (bounds : Bounds) (told : Bool) (before after : List ℕ) (written : Option (List ℕ)) (answer : SolveEnd) : Type 0 where
  pub text : List ℕ
  pub due : IsSolveDue held file log bounds answer text written
  pub put : Sent told text before after

-- A prefix of a text that is due was put, and the log holds what is due with it.
pub record SolvePutsPrefix (held : List ℕ → Option (List ℕ)) (file log : List ℕ) (bounds : Bounds) (told : Bool) (before after : List ℕ) (written : Option (List ℕ)) : Type 0 where
  pub answer : SolveEnd
  pub text : List ℕ
  pub due : IsSolveDue held file log bounds answer text written
  pub put : SentPart told text before after

-- The log holds a prefix of one that is due.
pub record WritesPrefix (held : List ℕ → Option (List ℕ)) (file log : List ℕ) (bounds : Bounds) (written : Option (List ℕ)) : Type 0 where
  pub ending : Ending
  pub text : List ℕ
  pub logged : List ℕ
  pub solved : IsSolved held file log bounds ending text logged
  pub part : AppendsHeldPrefix logged (Some []) written

-- Nothing was put, and the log holds what it held, or a prefix of one that is due.
pub record PutsNothing (held : List ℕ → Option (List ℕ)) (file log : List ℕ) (bounds : Bounds) (told : Bool) (before after : List ℕ) (written : Option (List ℕ)) : Type 0 where
  pub same : SentNothing told before after
  pub log_part : (written ≡ held log) ⊎ WritesPrefix held file log bounds written

-- The answer that is due for what the files hold, what the log holds with it, and what was put where the sink tells its bytes. Where a start failed, nothing is said of the log.
abbrev pub IsSolveAnswered : (List ℕ → Option (List ℕ)) → List ℕ → List ℕ → Bounds → Bool → List ℕ → List ℕ → Option (List ℕ) → Type 0 → SolveEnd → Type 0
IsSolveAnswered held file log bounds told before after written start_failed (end.Done ending) = SolvePutsDue held file log bounds told before after written (end.Done ending)
IsSolveAnswered held file log bounds told before after written start_failed (end.Refused r) = SolvePutsDue held file log bounds told before after written (end.Refused r)
IsSolveAnswered held file log bounds told before after written start_failed end.Files = (start_failed × SentNothing told before after) ⊎ PutsNothing held file log bounds told before after written
IsSolveAnswered held file log bounds told before after written start_failed end.Out = SolvePutsPrefix held file log bounds told before after written
IsSolveAnswered held file log bounds told before after written start_failed end.Memory = PutsNothing held file log bounds told before after written ⊎ SolvePutsPrefix held file log bounds told before after written

-- The search can come to its end within the bounds: the truths are fewer than the one, and the clauses of the variables than the other.
pub record CanComplete (bounds : Bounds) (theory : Theory) : Type 0 where
  pub truths : List (List Bool)
  pub all : AreTruths theory truths
  pub fewer : length truths < bounds.models
  pub enough : 3 ^ (clauses_of theory).variables ≤ bounds.conflicts

-- The list was put whole, unless something failed.
abbrev pub IsWholeUnlessFailed : SolveEnd → Type 0
IsWholeUnlessFailed (end.Done (Complete n)) = Unit {0}
IsWholeUnlessFailed (end.Done (Models n)) = ⊥
IsWholeUnlessFailed (end.Done (Conflicts n)) = ⊥
IsWholeUnlessFailed (end.Refused r) = ⊥
IsWholeUnlessFailed end.Files = Unit {0}
IsWholeUnlessFailed end.Out = Unit {0}
IsWholeUnlessFailed end.Memory = Unit {0}
