-- The lines of a log, and how each is spelled.
use Rattle.std.specs.Prelude.{ℕ, ◌^◌, ◌≤◌, ◌<◌, Bool, true, false, List, [], ◌++◌, codes, decimal}
use Rattle.std.specs.List.{flat_map, AllByRecursion}
use Rattle.ec_clause.specs.Literal.{Literal}
use Rattle.ec_clause.specs.declared.ending.Ending.{Ending}
use Rattle.ec_log.specs.Digits.{IsHexDigit}
use Rattle.ec_log.specs.Ending.{ending_text, IsEnding}

-- the first line, with the numbers of variables and of clauses; a derived clause with its hints; a blocked truth by
-- its digits; the last line
pub data LogLine : Type 0 where
  Header : (variables clauses : ℕ) → LogLine
  Derived : (lits : List Literal) (hints : List ℕ) → LogLine
  Blocked : (digits : List ℕ) → LogLine
  End : Ending → LogLine

-- a minus sign where a literal is negative
abbrev pub sign : Bool → List ℕ
sign true = []
sign false = codes "-"

-- a literal: its variable's number, with a minus sign where it is negative
abbrev pub literal_text : Literal → List ℕ
literal_text l = sign l.positive ++ decimal l.variable

-- a literal, or a number, and a blank behind it
abbrev pub literal_word : Literal → List ℕ
literal_word l = literal_text l ++ codes " "

abbrev pub number_word : ℕ → List ℕ
number_word n = decimal n ++ codes " "

-- the bytes of a line, without the byte 10 that ends it
abbrev pub spelled : LogLine → List ℕ
spelled (Header variables clauses) = codes "log 1 " ++ decimal variables ++ codes " " ++ decimal clauses
spelled (Derived lits hints) = codes "d " ++ flat_map literal_word lits ++ codes "0 " ++ flat_map number_word hints ++ codes "0"
spelled (Blocked digits) = codes "b " ++ digits
spelled (End ending) = codes "end " ++ ending_text ending

-- a literal that a line may have
abbrev pub IsLit : Literal → Type 0
IsLit l = (1 ≤ l.variable) × (l.variable < 2 ^ 31)

-- a hint that a line may have
abbrev pub IsHint : ℕ → Type 0
IsHint hint = (1 ≤ hint) × (hint < 2 ^ 32)

-- the values that a line may have
abbrev pub IsLine : LogLine → Type 0
IsLine (Header variables clauses) = (variables < 2 ^ 32) × (clauses < 2 ^ 32)
IsLine (Derived lits hints) = AllByRecursion IsLit lits × AllByRecursion IsHint hints
IsLine (Blocked digits) = AllByRecursion IsHexDigit digits
IsLine (End ending) = IsEnding ending
