-- The log of a search: its lines, and the bytes that they make.
use Rattle.std.specs.Prelude.{◌≡◌, ℕ, ◌+◌, ◌≤◌, ◌<◌, ◌^◌, Bool, not, List, [], ◌∷◌, ◌++◌, All, map}
use Rattle.std.specs.List.{flat_map}
use Rattle.ec_clause.specs.Literal.{Literal}
use Rattle.ec_clause.specs.Note.{Note}
use Rattle.ec_clause.specs.Note as note
use Rattle.ec_clause.specs.Ending.{number_of}
use Rattle.ec_clause.specs.declared.ending.Ending.{Ending}
use Rattle.ec_clause.specs.declared.ending.Ending.TheVariants.{Complete, Models, Conflicts}
use Rattle.ec_log.specs.Digits.{digits_of}
use Rattle.ec_log.specs.Line.{LogLine, Header, Derived, Blocked, End, spelled, IsLit}

-- the numbers of variables and of clauses, and the notes in order
pub record Log : Type 0 where
  pub numbers : ℕ × ℕ
  pub notes : List Note

-- the truth that a blocked clause forbids: its literals are negative where it is true
abbrev pub forbidden : List Literal → List Bool
forbidden lits = map (λ l. not l.positive) lits

-- the line of a note
abbrev pub noted : Note → LogLine
noted (note.Derived lits hints) = Derived lits hints
noted (note.Blocked lits) = Blocked (digits_of (forbidden lits))

-- the bytes of a line, with the byte 10 that ends it
abbrev pub line_text : LogLine → List ℕ
line_text line = spelled line ++ 10 ∷ []

-- the header, a line for each note in order, and the end line
abbrev pub log_lines : Log → Ending → List LogLine
log_lines log ending = (Header log.numbers.0 log.numbers.1 ∷ map noted log.notes) ++ End ending ∷ []

-- the bytes of all lines
abbrev pub log_text : Log → Ending → List ℕ
log_text log ending = flat_map line_text (log_lines log ending)

-- the literals have the variables from this one on, in order
abbrev pub CountsUp : ℕ → List Literal → Type 0
CountsUp variable [] = Unit {0}
CountsUp variable (l ∷ lits) = (l.variable ≡ variable) × CountsUp (variable + 1) lits

-- a note that a log can have: its hints are numbers of clauses, or its literals are those of all visible variables
abbrev pub IsNote : Note → Type 0
IsNote (note.Derived lits hints) = All (λ hint. 1 ≤ hint) hints
IsNote (note.Blocked lits) = CountsUp 1 lits

-- the number of a limit is at least 1
abbrev pub HasLimit : Ending → Type 0
HasLimit (Complete n) = Unit {0}
HasLimit (Models n) = 1 ≤ n
HasLimit (Conflicts n) = 1 ≤ n

-- the ranges that the types of a note's parts have
abbrev pub HasRange : Note → Type 0
HasRange (note.Derived lits hints) = All IsLit lits × All (λ hint. hint < 2 ^ 32) hints
HasRange (note.Blocked lits) = Unit {0}

-- the ranges that the types of a log's parts have
pub record HasRanges (log : Log) (ending : Ending) : Type 0 where
  pub variables : log.numbers.0 < 2 ^ 32
  pub clauses : log.numbers.1 < 2 ^ 32
  pub notes : All HasRange log.notes
  pub number : number_of ending < 2 ^ 64
