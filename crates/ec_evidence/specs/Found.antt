-- What a list and a log show of a theory.
use Rattle.std.specs.Prelude.{ℕ, ◌≡◌, Bool, true, List, Option, Some, None}
use Rattle.std.specs.List.{AllByRecursion}
use Rattle.ec_logic.specs.Listing.{IsTruth, AreTruths}
use Rattle.ec_logic.specs.Theory.{Theory}
use Rattle.ec_clause.specs.Ending.{is_complete}
use Rattle.ec_clause.specs.declared.ending.Ending.{Ending}
use Rattle.ec_listing.specs.Endings.{list_ending}
use Rattle.ec_listing.specs.Lists.{IsListText}
use Rattle.ec_listing.specs.Reading.{listed, faulty}
use Rattle.ec_listing.specs.Within.{IsListWithin}
use Rattle.ec_audit.specs.Firsts.{IsFirstFailing}
use Rattle.ec_audit.specs.declared.first.Failing.{Failing}
use Rattle.ec_log.specs.Reader.{largest_log}
use Rattle.ec_certificate.specs.Judged.{Accepted, Faulty, IsJudged}
use Rattle.ec_cnf.specs.List.{clauses_of}
use Rattle.ec_evidence.specs.declared.finding.Finding.{Finding}
use Rattle.ec_evidence.specs.declared.finding.Finding.TheVariants as finding
use Rattle.ec_evidence.specs.declared.finding.Reason.{Reason}
use Rattle.ec_evidence.specs.declared.finding.Reason.TheVariants as reason

-- what each name holds, if it is held
abbrev pub Held : Type 0
Held = List ℕ → Option (List ℕ)

-- a list has at most so many bytes
abbrev pub largest_list : ℕ
largest_list = 67108864

-- The list is the text of these truths with this ending, and not too long.
pub record HasList (held : Held) (list : List ℕ) (theory : Theory) (truths : List (List Bool)) (ending : Ending) : Type 0 where
  pub bytes : List ℕ
  pub there : held list ≡ Some bytes
  pub read : IsListWithin theory.signature largest_list bytes (listed truths (list_ending ending))
  pub text : IsListText theory.signature bytes truths (list_ending ending)

-- The list is one of truths of minimal models.
pub record IsAudited (held : Held) (list : List ℕ) (theory : Theory) (truths : List (List Bool)) (ending : Ending) : Type 0 where
  pub lists : HasList held list theory truths ending
  pub each : AllByRecursion (IsTruth theory) truths

-- And the log is accepted for it. A list that is ended as complete then has the truth of every minimal model.
pub record IsShown (held : Held) (list log : List ℕ) (theory : Theory) (ending : Ending) : Type 0 where
  pub truths : List (List Bool)
  pub audited : IsAudited held list theory truths ending
  pub logged : List ℕ
  pub there : held log ≡ Some logged
  pub accepted : IsJudged largest_log (clauses_of theory) truths ending logged Accepted
  pub all : is_complete ending ≡ true → AreTruths theory truths

-- What is wrong first: the first faulty line of the list, its first truth that is none of a minimal model, or the first faulty line of the log.
pub data IsNot (held : Held) (list log : List ℕ) (theory : Theory) : Reason → Type 0 where
  list_line : (bytes : List ℕ) {number : ℕ} → held list ≡ Some bytes → IsListWithin theory.signature largest_list bytes (faulty number) → IsNot held list log theory (reason.List number)
  model : (truths : List (List Bool)) (ending : Ending) (failing : Failing) → HasList held list theory truths ending → IsFirstFailing theory truths failing
      → IsNot held list log theory (reason.Model failing.number failing.part)
  log_line : (truths : List (List Bool)) (ending : Ending) (logged : List ℕ) {number : ℕ} → IsAudited held list theory truths ending → held log ≡ Some logged
      → IsJudged largest_log (clauses_of theory) truths ending logged (Faulty number) → IsNot held list log theory (reason.Log number)

-- The log isn't there, and the list has passed.
pub record IsUnlogged (held : Held) (list log : List ℕ) (theory : Theory) : Type 0 where
  pub truths : List (List Bool)
  pub ending : Ending
  pub audited : IsAudited held list theory truths ending
  pub none : held log ≡ None

-- What is found, where the names hold this.
abbrev pub IsFound : Held → List ℕ → List ℕ → Theory → Finding → Type 0
IsFound held list log theory (finding.Yes ending) = IsShown held list log theory ending
IsFound held list log theory (finding.No why) = IsNot held list log theory why
IsFound held list log theory finding.NoList = held list ≡ None
IsFound held list log theory finding.NoLog = IsUnlogged held list log theory
IsFound held list log theory finding.Files = Unit {0}
IsFound held list log theory finding.Memory = Unit {0}
