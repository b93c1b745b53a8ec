-- The statements of a list of tokens, or its first fault.
use Rattle.std.specs.Prelude.{◌≡◌, ℕ, List, [], ◌∷◌, take, drop, map, Result, Ok, Err, Some, None}
use Rattle.std.specs.declared.vec.Vec.{Vec}
use Rattle.std.specs.declared.alloc.Global.{Global}
use Rattle.ec_lex.specs.declared.token.Token.{Token}
use Rattle.ec_parse.specs.declared.mark.Sign.TheVariants as s
use Rattle.ec_parse.specs.declared.cut.Form.{Form}
use Rattle.ec_parse.specs.declared.cut.Form.TheVariants.{Alone, Line, Sentence}
use Rattle.ec_parse.specs.declared.fault.ParseFault.{ParseFault}
use Rattle.ec_parse.specs.declared.fault.ParseFault.TheVariants.{Syntax, Deep, Memory}
use Rattle.ec_syntax.specs.declared.statement.Statement as rust
use Rattle.ec_syntax.specs.declared.statement.Content as content
use Rattle.ec_syntax.specs.Written.{Formula, Content, Statement}
use Rattle.ec_syntax.specs.Written as w
use Rattle.ec_syntax.specs.View.{content_of, statement_of}
use Rattle.ec_parse.specs.Mark.{Mark, sign, marks}
use Rattle.ec_parse.specs.Mark as m
use Rattle.ec_parse.specs.Formulas.{IsFormula}
use Rattle.ec_parse.specs.Lines.{IsLine, IsAlone}
use Rattle.ec_parse.specs.Cut.{form_of, statement_len, IsDeep}

-- a formula, a stop and nothing behind them
abbrev pub IsStopped : List Mark → Formula → Type 0
IsStopped ms a = IsFormula ms a (sign s.Stop ∷ [])

-- a sentence: a formula and a stop, or a label, a colon, a formula and a stop
pub data IsSentence : List Mark → Content → Type 0 where
  labelled : {l : List ℕ} {ms : List Mark} {a : Formula} → IsStopped ms a → IsSentence (m.upper l ∷ sign s.Colon ∷ ms) (w.sentence (Some l) a)
  unlabelled : {ms : List Mark} {a : Formula} → IsStopped ms a → IsSentence ms (w.sentence None a)

-- all of the marks spell what a statement of this kind says
abbrev pub Spells : Form → List Mark → Content → Type 0
Spells Alone ms c = IsAlone ms c
Spells Line ms c = IsLine ms c
Spells Sentence ms c = IsSentence ms c

-- Only a sentence is nested too deeply.
abbrev pub IsNested : Form → List Mark → Type 0
IsNested Alone ms = ⊥
IsNested Line ms = ⊥
IsNested Sentence ms = IsDeep ms

-- the tokens of the first statement
abbrev pub first : List Token → List Token
first ts = take (statement_len ts) ts

-- those behind it
abbrev pub others : List Token → List Token
others ts = drop (statement_len ts) ts

-- the statements, or the first fault
abbrev pub Found : Type 0
Found = Result (List Statement) ParseFault

-- a statement before what follows it; a fault stays
abbrev pub put : Statement → Found → Found
put s (Ok ss) = Ok (s ∷ ss)
put s (Err e) = Err e

-- These tokens have these statements, or this fault. A constructor says what the first statement is.
pub data AreStatements : List Token → Found → Type 0 where
  none : AreStatements [] (Ok [])
  statement : {t : Token} {ts : List Token} {r : Found} (c : Content) → (IsNested (form_of (marks (t ∷ ts))) (marks (first (t ∷ ts))) → ⊥) → Spells (form_of (marks (t ∷ ts))) (marks (first (t ∷ ts))) c
      → AreStatements (others (t ∷ ts)) r → AreStatements (t ∷ ts) (put (record { line = t.line; content = c }) r)
  deep : {t : Token} {ts : List Token} → IsNested (form_of (marks (t ∷ ts))) (marks (first (t ∷ ts))) → AreStatements (t ∷ ts) (Err (Deep t.line))
  fault : {t : Token} {ts : List Token} → (IsNested (form_of (marks (t ∷ ts))) (marks (first (t ∷ ts))) → ⊥) → ((c : Content) → Spells (form_of (marks (t ∷ ts))) (marks (first (t ∷ ts))) c → ⊥)
      → AreStatements (t ∷ ts) (Err (Syntax t.line t.word))

-- A parser may answer this, or that it has no memory.
abbrev pub Answers : List Token → Found → Type 0
Answers ts (Ok ss) = AreStatements ts (Ok ss)
Answers ts (Err (Syntax line word)) = AreStatements ts (Err (Syntax line word))
Answers ts (Err (Deep line)) = AreStatements ts (Err (Deep line))
Answers ts (Err Memory) = Unit {0}

-- the answer as plain data
abbrev pub read : Result (Vec rust.Statement Global) ParseFault → Found
read (Ok v) = Ok (map statement_of v.items)
read (Err e) = Err e

-- what reading one statement may answer
abbrev pub ReadsContent : Form → Token → List Mark → Result content.Content ParseFault → Type 0
ReadsContent form t ms (Ok c) = (IsNested form ms → ⊥) × Spells form ms (content_of c)
ReadsContent form t ms (Err (Deep line)) = (line ≡ t.line) × IsNested form ms
ReadsContent form t ms (Err (Syntax line word)) = (line ≡ t.line) × (word ≡ t.word) × (IsNested form ms → ⊥) × ((c : Content) → Spells form ms c → ⊥)
ReadsContent form t ms (Err Memory) = Unit {0}
