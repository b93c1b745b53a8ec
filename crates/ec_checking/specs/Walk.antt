-- What a walk through a log keeps of the notes so far, and what the next line comes to.
use Rattle.std.specs.Prelude.{◌≡◌, Bool, false, List, [], ◌∷◌, ◌++◌, count_by}
use Rattle.std.specs.List.{list_any}
use Rattle.ec_clause.specs.ClauseList.{ClauseList}
use Rattle.ec_clause.specs.Note.{Note}
use Rattle.ec_clause.specs.declared.ending.Ending.{Ending}
use Rattle.ec_log.specs.Line.{LogLine, End}
use Rattle.ec_log.specs.Log.{noted}
use Rattle.ec_certificate.specs.Accepted.{with_notes, refutes, is_derived, IsRight, IsEndedBy}
use Rattle.ec_certificate.specs.Judged.{MayFollow, MayEnd}
use Rattle.ec_checking.specs.Left.{AreLeft, Blocks, table_of}
use Rattle.ec_checking.specs.declared.walk.Walk.{Walk}
use Rattle.ec_checking.specs.declared.walk.Turn.{Turn}
use Rattle.ec_checking.specs.declared.walk.Turn.TheVariants as turn

-- The walk has come past these notes: it has their clauses behind those of the list, and knows whether one has no literal,
-- which truths they leave to be blocked, and how many are derived.
pub record Keeps (list : ClauseList) (truths : List (List Bool)) (notes : List Note) (walk : Walk) : Type 0 where
  pub clauses : walk.checker.list ≡ with_notes list notes
  pub closed : walk.checker.closed ≡ list_any refutes notes
  pub left : AreLeft truths notes (table_of walk.left)
  pub derived : walk.derived ≡ count_by is_derived notes

-- it has come past some notes
pub record HasWalked (truths : List (List Bool)) (walk : Walk) : Type 0 where
  pub list : ClauseList
  pub notes : List Note
  pub keeps : Keeps list truths notes walk

-- the line is that of a note which may follow those so far, and the walk comes past it
pub record TakesNote (list : ClauseList) (truths : List (List Bool)) (notes : List Note) (line : LogLine) (walk : Walk) : Type 0 where
  pub note : Note
  pub is : line ≡ noted note
  pub right : IsRight list truths notes note
  pub open_still : list_any refutes notes ≡ false
  pub keeps : Keeps list truths (notes ++ note ∷ []) walk

-- the line is the end line, which may follow the notes so far
pub record TakesEnd (truths : List (List Bool)) (ending : Ending) (notes : List Note) (line : LogLine) : Type 0 where
  pub is : line ≡ End ending
  pub blocked : Blocks notes truths
  pub ended : IsEndedBy notes ending

-- the line is neither
pub record TakesNone (list : ClauseList) (truths : List (List Bool)) (ending : Ending) (notes : List Note) (line : LogLine) : Type 0 where
  pub no_note : (note : Note) → line ≡ noted note → MayFollow list truths notes note → ⊥
  pub no_end : line ≡ End ending → MayEnd truths ending notes → ⊥

-- what the next line comes to
abbrev pub IsTurn : ClauseList → List (List Bool) → Ending → List Note → LogLine → Walk → Turn → Type 0
IsTurn list truths ending notes line walk turn.Note = TakesNote list truths notes line walk
IsTurn list truths ending notes line walk turn.End = TakesEnd truths ending notes line
IsTurn list truths ending notes line walk turn.Fault = TakesNone list truths ending notes line
