-- What `check` is to put for what the files hold.
use Rattle.std.specs.Prelude.{ℕ, ◌≡◌, ◌⊎◌, Bool, codes, decimal, List, ◌++◌, Option, None, Ok, Err}
use Rattle.ec_logic.specs.Listing.{ending_text}
use Rattle.ec_logic.specs.Narrative.{line}
use Rattle.ec_logic.specs.Theory.{Theory}
use Rattle.ec_clause.specs.declared.ending.Ending.{Ending}
use Rattle.ec_listing.specs.Endings.{list_ending}
use Rattle.ec_syntax.specs.declared.book.Refusal.{Refusal}
use Rattle.ec_load.specs.Refusals.{refused, in_file}
use Rattle.ec_accept.specs.Accepted.{IsAccepted, HasParts}
use Rattle.ec_split.specs.Parts.{Parts}
use Rattle.ec_evidence.specs.Found.{IsShown, IsNot, IsUnlogged}
use Rattle.ec_evidence.specs.declared.finding.Reason.{Reason}
use Rattle.ec_evidence.specs.declared.finding.Reason.TheVariants as reason
use Rattle.ec_engine.specs.PartTexts.{part_text}
use Rattle.ec_engine.specs.Refusals.{refusal_line}
use Rattle.ec_engine.specs.Sent.{Sent, SentPart, SentNothing}
use Rattle.ec_engine.specs.declared.checking.CheckEnd.{CheckEnd}
use Rattle.ec_engine.specs.declared.checking.CheckEnd.TheVariants as end

-- The file is accepted, the list is one of truths of its theory's minimal models, and the log is accepted for it.
pub record IsChecked (held : List ℕ → Option (List ℕ)) (file list log : List ℕ) (ending : Ending) : Type 0 where
  pub theory : Theory
  pub accepted : IsAccepted held file (Ok theory)
  pub shown : IsShown held list log theory ending

-- The file is accepted, and this is wrong first with the list or the log.
pub record IsUnshown (held : List ℕ → Option (List ℕ)) (file list log : List ℕ) (why : Reason) : Type 0 where
  pub theory : Theory
  pub accepted : IsAccepted held file (Ok theory)
  pub wrong : IsNot held list log theory why

-- The refusals: that of the file, or of a list or a log that isn't there, each at the point where it is read.
pub data IsUnchecked (held : List ℕ → Option (List ℕ)) (file list log : List ℕ) : Refusal → Type 0 where
  unaccepted : {refusal : Refusal} → IsAccepted held file (Err refusal) → IsUnchecked held file list log refusal
  no_list : (theory : Theory) → IsAccepted held file (Ok theory) → held list ≡ None → IsUnchecked held file list log (refused 1 (in_file list 0) list)
  no_log : (theory : Theory) → IsAccepted held file (Ok theory) → IsUnlogged held list log theory → IsUnchecked held file list log (refused 1 (in_file log 0) log)

-- the line that says what is wrong, where the parts of the theory are these
abbrev pub reason_line : Parts → Reason → List ℕ
reason_line parts (reason.List number) = line (codes "no list line " ++ decimal number)
reason_line parts (reason.Model number part) = line (codes "no model " ++ decimal number ++ codes ": " ++ part_text parts part)
reason_line parts (reason.Log number) = line (codes "no log line " ++ decimal number)

-- The line of a reason, in the words of the file's theory.
pub record IsReasonLine (held : List ℕ → Option (List ℕ)) (file : List ℕ) (why : Reason) (text : List ℕ) : Type 0 where
  pub parts : Parts
  pub has : HasParts held file parts
  pub is : text ≡ reason_line parts why

-- the text that is due with an answer
abbrev pub IsCheckDue : (List ℕ → Option (List ℕ)) → List ℕ → List ℕ → List ℕ → CheckEnd → List ℕ → Type 0
IsCheckDue held file list log (end.Yes ending) text = IsChecked held file list log ending × (text ≡ line (ending_text (list_ending ending)))
IsCheckDue held file list log (end.No why) text = IsUnshown held file list log why × IsReasonLine held file why text
IsCheckDue held file list log (end.Refused r) text = IsUnchecked held file list log r × (text ≡ refusal_line r)
IsCheckDue held file list log end.Files text = ⊥
IsCheckDue held file list log end.Out text = ⊥
IsCheckDue held file list log end.Memory text = ⊥

-- The text that is due with the answer was put.
pub record CheckPutsDue (held : List ℕ → Option (List ℕ)) (file list log : List ℕ) (told : Bool) (before after : List ℕ) (answer : CheckEnd) : Type 0 where
  pub text : List ℕ
  pub due : IsCheckDue held file list log answer text
  pub put : Sent told text before after

-- A prefix of a text that is due was put.
pub record CheckPutsPrefix (held : List ℕ → Option (List ℕ)) (file list log : List ℕ) (told : Bool) (before after : List ℕ) : Type 0 where
  pub answer : CheckEnd
  pub text : List ℕ
  pub due : IsCheckDue held file list log answer text
  pub put : SentPart told text before after

-- The answer that is due for what the files hold, and what was put with it where the sink tells its bytes.
abbrev pub IsCheckAnswered : (List ℕ → Option (List ℕ)) → List ℕ → List ℕ → List ℕ → Bool → List ℕ → List ℕ → CheckEnd → Type 0
IsCheckAnswered held file list log told before after (end.Yes ending) = CheckPutsDue held file list log told before after (end.Yes ending)
IsCheckAnswered held file list log told before after (end.No why) = CheckPutsDue held file list log told before after (end.No why)
IsCheckAnswered held file list log told before after (end.Refused r) = CheckPutsDue held file list log told before after (end.Refused r)
IsCheckAnswered held file list log told before after end.Files = SentNothing told before after
IsCheckAnswered held file list log told before after end.Out = CheckPutsPrefix held file list log told before after
IsCheckAnswered held file list log told before after end.Memory = SentNothing told before after ⊎ CheckPutsPrefix held file list log told before after
