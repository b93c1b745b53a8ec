-- What the steps of a check answer.
use Rattle.std.specs.Prelude.{◌≡◌, ℕ, ◌+◌, ◌≤◌, ◌<◌, ◌^◌, ◌⊎◌, List, ◌++◌, length, Result, Ok, Err}
use Rattle.std.specs.List.{AllByRecursion}
use Rattle.ec_clause.specs.ClauseList.{ClauseList}
use Rattle.ec_checking.specs.Checked.{AreTruthsOver}
use Rattle.ec_cnf.specs.List.{clauses_of}
use Rattle.ec_edge.specs.Pieces.{IsRead}
use Rattle.ec_edge.specs.declared.whole.Whole.{Whole}
use Rattle.ec_listing.specs.Endings.{list_ending}
use Rattle.ec_listing.specs.Reading.{AreLines, IsLineText, IsFitting, IsReadAs, line_count, listed, faulty}
use Rattle.ec_listing.specs.Lists.{IsListText}
use Rattle.ec_listing.specs.Within.{IsListWithin}
use Rattle.ec_logic.specs.Listing.{IsRising, IsTruth}
use Rattle.ec_logic.specs.Signature.{Signature}
use Rattle.ec_logic.specs.Theory.{Theory}
use Rattle.ec_logic.specs.ValidTheory.{IsValidTheory}
use Rattle.ec_narr.specs.declared.listed.Listed.{Listed}
use Rattle.ec_clause.specs.declared.clauses.Clauses.{Clauses}
use Rattle.ec_evidence.specs.declared.finding.Finding.{Finding}
use Rattle.ec_evidence.specs.declared.finding.Finding.TheVariants.{No, Memory}
use Rattle.ec_evidence.specs.declared.finding.Reason.TheVariants as reason
use Rattle.ec_evidence.specs.Found.{Held, HasList, IsAudited, IsFound, largest_list}

-- A text is these whole lines, so many, and then what has no end.
pub record IsCut (text lines : List ℕ) (count : ℕ) : Type 0 where
  pub begun : List ℕ
  pub parts : text ≡ lines ++ begun
  pub whole : AreLines lines
  pub one : IsLineText begun
  pub counted : count ≡ line_count lines

-- a faulty line among so many, or the one behind them
abbrev pub IsWithinOrBehind : Signature → List ℕ → ℕ → ℕ → Type 0
IsWithinOrBehind signature lines count number = (IsReadAs signature lines (faulty number) × (number ≤ count))
    ⊎ ((number ≡ count + 1) × ((other : ℕ) → IsReadAs signature lines (faulty other) → count < other))

-- what is said of a list that is too long, where these are its whole lines within its size
abbrev pub TellsTooLong : Signature → List ℕ → ℕ → Finding → Type 0
TellsTooLong signature lines count (No (reason.List number)) = IsWithinOrBehind signature lines count number
TellsTooLong signature lines count Memory = Unit {0}
TellsTooLong signature lines count _ = ⊥

-- the truths of a list fit and rise
abbrev pub AreListed : Signature → Listed → Type 0
AreListed signature list = AllByRecursion (IsFitting signature) list.models.items × IsRising list.models.items

-- The bytes of a file are read up to one past the size of a list: what is said of the list, by all bytes.
abbrev pub ReadsBytes : Signature → List ℕ → Result Listed Finding → Type 0
ReadsBytes signature bytes (Ok list) = IsListWithin signature largest_list bytes (listed list.models.items (list_ending list.ending)) × IsListText signature bytes list.models.items (list_ending list.ending)
ReadsBytes signature bytes (Err (No (reason.List number))) = IsListWithin signature largest_list bytes (faulty number)
ReadsBytes signature bytes (Err Memory) = Unit {0}
ReadsBytes signature bytes (Err _) = ⊥

abbrev pub ReadsWithin : Signature → Whole → Result Listed Finding → Type 0
ReadsWithin signature whole result = (bytes : List ℕ) → IsRead bytes largest_list whole.bytes.items whole.past → ReadsBytes signature bytes result

-- what is found is of the text alone: the files did not fail, and nothing is missing
abbrev pub IsOfText : {A : Type 0} → Result A Finding → Type 0
IsOfText (Ok a) = Unit {0}
IsOfText (Err (No why)) = Unit {0}
IsOfText (Err Memory) = Unit {0}
IsOfText (Err _) = ⊥

-- the list that a name holds, or what is found in its place, whatever the log
abbrev pub ReadsTo : Held → List ℕ → Theory → Result Listed Finding → Type 0
ReadsTo held list theory (Ok found) = HasList held list theory found.models.items found.ending
ReadsTo held list theory (Err finding) = (log : List ℕ) → IsFound held list log theory finding

-- The clause list of a theory, and room for the truths of a list in it; each truth is that of a minimal model.
pub record ArePassed (theory : Theory) (list : Listed) (clauses : ClauseList) : Type 0 where
  pub is : clauses ≡ clauses_of theory
  pub few : length clauses.clauses ≤ 2 ^ 30
  pub truths : AreTruthsOver clauses.variables list.models.items
  pub each : AllByRecursion (IsTruth theory) list.models.items

-- the clause list, or what is found in its place, whatever holds the list and the log
abbrev pub AuditsTo : Theory → Listed → Result Clauses Finding → Type 0
AuditsTo theory list (Ok clauses) = ArePassed theory list clauses
AuditsTo theory list (Err finding) = (held : Held) (name log : List ℕ) → HasList held name theory list.models.items list.ending → IsFound held name log theory finding

-- what is found of a log, for a list that has passed
abbrev pub ChecksTo : Held → List ℕ → ClauseList → Listed → Finding → Type 0
ChecksTo held log clauses list finding = (theory : Theory) (name : List ℕ) → IsValidTheory theory → clauses ≡ clauses_of theory → IsAudited held name theory list.models.items list.ending
    → IsFound held name log theory finding
