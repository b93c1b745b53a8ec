-- what a search derives
use Rattle.std.specs.Prelude.{◌≡◌, ℕ, ◌+◌, ◌<◌, Bool, false, not, None, List, [], ◌∷◌, ◌++◌, length, take, map, nat_lt, unwrap_or, count_by, slice_index_or, All}
use Rattle.std.specs.List.{range_with_len}
use Rattle.ec_clause.specs.Literal.{Literal}
use Rattle.ec_clause.specs.ClauseList.{ClauseList}
use Rattle.ec_clause.specs.Note.{Note, Derived}
use Rattle.ec_clause.specs.Step.{IsStep}
use Rattle.ec_sat.specs.Reasons.{ContainsNone}
use Rattle.ec_clause.specs.Truth.{Truth}
use Rattle.ec_clause.specs.Step.{AllHold}
use Rattle.ec_sat.specs.declared.answer.Next.{Next}
use Rattle.ec_sat.specs.declared.answer.Next.TheVariants.{Model, Exhausted, Conflicts, Memory}
use Rattle.ec_sat.specs.declared.search.Conflict.{Conflict}
use Rattle.ec_sat.specs.declared.search.Conflict.TheVariants.{Learned, Refuted}

-- a derived clause with its hints
pub record Derivation : Type 0 where
  pub lits : List Literal
  pub hints : List ℕ

-- the note of a derived clause
abbrev pub note_of : Derivation → Note
note_of s = Derived s.lits s.hints

-- the literals of a derived clause
abbrev pub lits_of : Derivation → List Literal
lits_of s = s.lits

-- whether a derived clause has a literal
abbrev pub has_literal : Derivation → Bool
has_literal s = nat_lt 0 (length s.lits)

-- a list of clauses with derived ones behind it
abbrev pub extended : ClauseList → List Derivation → ClauseList
extended c steps = record { variables = c.variables; clauses = c.clauses ++ map lits_of steps }

-- a step, which contains no clause of the list if it has a literal
pub record IsDerived (c : ClauseList) (s : Derivation) : Type 0 where
  pub step : IsStep c s.lits s.hints
  pub none : 0 < length s.lits → ContainsNone c s.lits

-- each clause was derived from those before it, noted, and added to the list
pub record IsRun (old new : ClauseList) (before after : List Note) (steps : List Derivation) : Type 0 where
  pub each : (k : ℕ) (d : Derivation) → k < length steps → IsDerived (extended old (take k steps)) (slice_index_or steps k d)
  pub added : new ≡ extended old steps
  pub noted : after ≡ before ++ map note_of steps

-- a learned clause has a literal, a refutation has none
abbrev pub Tells : Conflict → List Literal → Type 0
Tells Learned lits = 0 < length lits
Tells Refuted lits = length lits ≡ 0

-- one clause was derived from a conflict, noted, and added to the list
pub record IsResolved (old new : ClauseList) (before after : List Note) (conflict : Conflict) : Type 0 where
  pub lits : List Literal
  pub hints : List ℕ
  pub derived : IsDerived old (record { lits = lits; hints = hints })
  pub variables : new.variables ≡ old.variables
  pub added : new.clauses ≡ old.clauses ++ lits ∷ []
  pub noted : after ≡ before ++ Derived lits hints ∷ []
  pub tells : Tells conflict lits

-- what a conflict adds to the number of derived clauses with a literal
abbrev pub count_of : Conflict → ℕ
count_of Learned = 1
count_of Refuted = 0

-- the truth of all variables that an assignment gives
abbrev pub value_in : Truth → ℕ → Bool
value_in p variable = unwrap_or (slice_index_or p variable None) false

-- the literal that forbids a variable's value
abbrev pub forbidden : Truth → ℕ → Literal
forbidden p variable = record { variable = variable; positive = not (value_in p variable) }

-- the clause that forbids the values of the variables from 1 on
abbrev pub blocked_clause : ℕ → Truth → List Literal
blocked_clause visible p = map (forbidden p) (range_with_len 1 visible)

-- each derived clause has a literal
abbrev pub HaveLiterals : List Derivation → Type 0
HaveLiterals steps = All (λ (s : Derivation). 0 < length s.lits) steps

-- the last derived clause, and it alone, is empty
pub record EndEmpty (steps : List Derivation) : Type 0 where
  pub front : List Derivation
  pub last : Derivation
  pub are : steps ≡ front ++ last ∷ []
  pub empty : last.lits ≡ []
  pub literals : HaveLiterals front

-- what each answer says of the clauses, the number of derived ones with a literal, and the assignment afterwards
abbrev pub Outcome : Next → ℕ → ClauseList → ℕ → Truth → List Derivation → Type 0
Outcome Model limit list derived p steps = AllHold (value_in p) list × HaveLiterals steps × (derived < limit)
Outcome Exhausted limit list derived p steps = EndEmpty steps × (derived < limit)
Outcome Conflicts limit list derived p steps = HaveLiterals steps × (derived ≡ limit)
Outcome Memory limit list derived p steps = HaveLiterals steps × (derived < limit)

-- a run with an answer
pub record Runs (old new : ClauseList) (before after : List Note) (count derived limit : ℕ) (p : Truth) (answer : Next) : Type 0 where
  pub steps : List Derivation
  pub run : IsRun old new before after steps
  pub counted : derived ≡ count + count_by has_literal steps
  pub outcome : Outcome answer limit new derived p steps
