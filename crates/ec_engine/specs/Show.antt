-- What `show` is to put for what the files hold.
use Rattle.std.specs.Prelude.{ℕ, ◌≡◌, ◌⊎◌, Bool, codes, decimal, List, ◌++◌, length, Option, Ok, Err}
use Rattle.ec_logic.specs.Narrative.{line}
use Rattle.ec_logic.specs.Theory.{Theory}
use Rattle.ec_weight.specs.Weight.{weight_of}
use Rattle.ec_accept.specs.Accepted.{IsAccepted, HasFiles, visible_count}
use Rattle.ec_cnf.specs.List.{clauses_of}
use Rattle.ec_engine.specs.Refusals.{refusal_line}
use Rattle.ec_engine.specs.Sent.{Sent, SentPart, SentNothing}
use Rattle.ec_engine.specs.declared.showing.Counts.{Counts}
use Rattle.ec_engine.specs.declared.showing.ShowEnd.{ShowEnd}
use Rattle.ec_engine.specs.declared.showing.ShowEnd.TheVariants as end

-- a line with a name and a number
abbrev pub count_line : List ℕ → ℕ → List ℕ
count_line name n = line (name ++ decimal n)

-- a line for each count
abbrev pub counts_text : Counts → List ℕ
counts_text c = count_line (codes "files: ") c.files ++ count_line (codes "groups: ") c.groups ++ count_line (codes "weight: ") c.weight
    ++ count_line (codes "atoms: ") c.atoms ++ count_line (codes "variables: ") c.variables ++ count_line (codes "clauses: ") c.clauses

-- The counts are those of a theory that is read from these files: the files, the groups, the weight, the visible atoms, the variables and the clauses of its clause list.
pub record AreCountsOf (theory : Theory) (read : List (List ℕ)) (counts : Counts) : Type 0 where
  pub files : counts.files ≡ length read
  pub groups : counts.groups ≡ length theory.groups
  pub weight : counts.weight ≡ weight_of theory
  pub atoms : counts.atoms ≡ visible_count theory
  pub variables : counts.variables ≡ (clauses_of theory).variables
  pub clauses : counts.clauses ≡ length (clauses_of theory).clauses

-- The counts are those of an accepted file.
pub record AreCounts (held : List ℕ → Option (List ℕ)) (file : List ℕ) (counts : Counts) : Type 0 where
  pub theory : Theory
  pub accepted : IsAccepted held file (Ok theory)
  pub read : List (List ℕ)
  pub are_read : HasFiles held file read
  pub are : AreCountsOf theory read counts

-- the text that is due with an answer
abbrev pub IsShowDue : (List ℕ → Option (List ℕ)) → List ℕ → ShowEnd → List ℕ → Type 0
IsShowDue held file (end.Shown counts) text = AreCounts held file counts × (text ≡ counts_text counts)
IsShowDue held file (end.Refused r) text = IsAccepted held file (Err r) × (text ≡ refusal_line r)
IsShowDue held file end.Files text = ⊥
IsShowDue held file end.Out text = ⊥
IsShowDue held file end.Memory text = ⊥

-- the text that is due with the answer was put
pub record ShowPutsDue (held : List ℕ → Option (List ℕ)) (file : List ℕ) (told : Bool) (before after : List ℕ) (answer : ShowEnd) : Type 0 where
  pub text : List ℕ
  pub due : IsShowDue held file answer text
  pub put : Sent told text before after

-- a prefix of a text that is due was put
pub record ShowPutsPrefix (held : List ℕ → Option (List ℕ)) (file : List ℕ) (told : Bool) (before after : List ℕ) : Type 0 where
  pub answer : ShowEnd
  pub text : List ℕ
  pub due : IsShowDue held file answer text
  pub put : SentPart told text before after

-- The answer that is due for what the files hold, and what was put with it where the sink tells its bytes.
abbrev pub IsShowAnswered : (List ℕ → Option (List ℕ)) → List ℕ → Bool → List ℕ → List ℕ → ShowEnd → Type 0
IsShowAnswered held file told before after (end.Shown counts) = ShowPutsDue held file told before after (end.Shown counts)
IsShowAnswered held file told before after (end.Refused r) = ShowPutsDue held file told before after (end.Refused r)
IsShowAnswered held file told before after end.Files = SentNothing told before after
IsShowAnswered held file told before after end.Out = ShowPutsPrefix held file told before after
IsShowAnswered held file told before after end.Memory = SentNothing told before after ⊎ ShowPutsPrefix held file told before after
