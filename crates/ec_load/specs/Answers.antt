-- What the functions of the load answer.
use Rattle.std.specs.Prelude.{◌≡◌, ◌≢◌, ℕ, List, ◌∷◌, ◌++◌, map, Result, Ok, Err, Option}
use Rattle.std.specs.declared.vec.Vec.{Vec}
use Rattle.std.specs.declared.alloc.Global.{Global}
use Rattle.ec_edge.specs.Causes.{Rose}
use Rattle.ec_lex.specs.declared.token.Token.{Token}
use Rattle.ec_lex.specs.Lex.{Lexes}
use Rattle.ec_parse.specs.Statements.{AreStatements}
use Rattle.ec_syntax.specs.declared.book.Refusal.{Refusal}
use Rattle.ec_syntax.specs.declared.statement.Statement as rust
use Rattle.ec_syntax.specs.View.{statement_of}
use Rattle.ec_syntax.specs.Written.{Statement, Placed, Book}
use Rattle.ec_load.specs.declared.fault.LoadFault.{LoadFault}
use Rattle.ec_load.specs.declared.fault.LoadFault.TheVariants as fault
use Rattle.ec_load.specs.Opening.{Says}
use Rattle.ec_load.specs.Book.{ComeTo, put}

abbrev pub statements_of : Vec rust.Statement Global → List Statement
statements_of v = map statement_of v.items

abbrev pub tokens_of : Vec Token Global → List Token
tokens_of v = v.items

-- A function may answer what is found by a rule, or that it failed outside the text.
abbrev pub Answers : {A X : Type 0} → (A → X) → (Result X Refusal → Type 0) → Result A LoadFault → Type 0
Answers view rule (Ok a) = rule (Ok (view a))
Answers view rule (Err (fault.Refused r)) = rule (Err r)
Answers view rule (Err fault.Files) = Unit {0}
Answers view rule (Err fault.Memory) = Unit {0}

-- the refusal, or that there was no memory for it
abbrev pub Refuses : Refusal → LoadFault → Type 0
Refuses refusal (fault.Refused r) = r ≡ refusal
Refuses refusal fault.Files = ⊥
Refuses refusal fault.Memory = Unit {0}

-- the tokens of a file, or its lexical fault
abbrev pub LexesTo : List ℕ → List ℕ → Result (List Token) Refusal → Type 0
LexesTo file bytes (Ok tokens) = Lexes 1 bytes (Ok tokens)
LexesTo file bytes (Err r) = Says file bytes (Err r)

-- what any bytes with these tokens say
abbrev pub SpellTo : List ℕ → List Token → Result (List Statement) Refusal → Type 0
SpellTo file tokens (Ok ss) = AreStatements tokens (Ok ss)
SpellTo file tokens (Err r) = (bytes : List ℕ) → Lexes 1 bytes (Ok tokens) → Says file bytes (Err r)

-- The fault is that of a text: the files did not fail, and the file is there.
abbrev pub IsOfText : LoadFault → Type 0
IsOfText (fault.Refused r) = r.code ≢ 1
IsOfText fault.Files = ⊥
IsOfText fault.Memory = Unit {0}

abbrev pub FailsByText : {A : Type 0} → Result A LoadFault → Type 0
FailsByText (Ok a) = Unit {0}
FailsByText (Err e) = IsOfText e

-- What the counts of faults and of absences, each before and after, say of a fault.
abbrev pub IsCaused : ℕ → ℕ → ℕ → ℕ → LoadFault → Type 0
IsCaused faults faults_now absences absences_now (fault.Refused r) = r.code ≡ 1 → Rose absences absences_now
IsCaused faults faults_now absences absences_now fault.Files = Rose faults faults_now
IsCaused faults faults_now absences absences_now fault.Memory = Unit {0}

abbrev pub FailsByCause : {A : Type 0} → ℕ → ℕ → ℕ → ℕ → Result A LoadFault → Type 0
FailsByCause faults faults_now absences absences_now (Ok a) = Unit {0}
FailsByCause faults faults_now absences absences_now (Err e) = IsCaused faults faults_now absences absences_now e

-- What was come to was added to a book: its statements stand behind those of the book.
pub record IsAdded (rule : Result Book Refusal → Type 0) (old new : Book) : Type 0 where
  pub added : List Placed
  pub is : new.statements ≡ old.statements ++ added
  pub comes : rule (Ok (record { files = new.files; statements = added }))

-- what the walk answers of a file or of statements
abbrev pub Walks : (Result Book Refusal → Type 0) → Book → Book → Result (Unit {0}) LoadFault → Type 0
Walks rule old new (Ok done) = IsAdded rule old new
Walks rule old new (Err (fault.Refused r)) = rule (Err r)
Walks rule old new (Err fault.Files) = Unit {0}
Walks rule old new (Err fault.Memory) = Unit {0}

-- What one statement adds to a book: whatever follows it then comes to its part, with this before.
pub record Steps (held : List ℕ → Option (List ℕ)) (at : ℕ) (file : List ℕ) (s : Statement) (old new : Book) : Type 0 where
  pub added : List Placed
  pub is : new.statements ≡ old.statements ++ added
  pub goes_on : (ss : List Statement) (r : Result Book Refusal) → ComeTo held new.files at file ss r → ComeTo held old.files at file (s ∷ ss) (put added r)

abbrev pub StepsTo : (List ℕ → Option (List ℕ)) → ℕ → List ℕ → Statement → Book → Book → Result (Unit {0}) LoadFault → Type 0
StepsTo held at file s old new (Ok done) = Steps held at file s old new
StepsTo held at file s old new (Err (fault.Refused r)) = (ss : List Statement) → ComeTo held old.files at file (s ∷ ss) (Err r)
StepsTo held at file s old new (Err fault.Files) = Unit {0}
StepsTo held at file s old new (Err fault.Memory) = Unit {0}
