-- Where a statement ends, and when a sentence is nested too deeply.
use Rattle.std.specs.Prelude.{ℕ, suc, ◌+◌, ◌<◌, length, take, position, Bool, true, false, ◌||◌, ◌==◌, List, [], ◌∷◌, Option, Some, None, if◌then◌else◌, ◌⊎◌}
use Rattle.ec_lex.specs.declared.token.Token.{Token}
use Rattle.ec_parse.specs.declared.mark.Sign.{Sign}
use Rattle.ec_parse.specs.declared.mark.Sign.TheVariants as s
use Rattle.ec_parse.specs.declared.cut.Form.{Form}
use Rattle.ec_parse.specs.declared.cut.Form.TheVariants.{Alone, Line, Sentence}
use Rattle.ec_parse.specs.Mark.{Mark, sign, mark_of, marks}
use Rattle.ec_parse.specs.Mark as m

abbrev pub begins_upper : List Mark → Bool
begins_upper (m.upper n ∷ ms) = true
begins_upper _ = false

abbrev pub line_or_sentence : Bool → Form
line_or_sentence true = Line
line_or_sentence false = Sentence

-- The kind of a statement, by its first mark. A lower-case word that an upper-case one follows begins a line statement.
abbrev pub form_of : List Mark → Form
form_of [] = Sentence
form_of (m.load w ∷ ms) = Alone
form_of (m.choice w ∷ ms) = Alone
form_of (m.keyword x w ∷ ms) = Line
form_of (m.lower v ∷ ms) = line_or_sentence (begins_upper ms)
form_of (m.upper n ∷ ms) = Sentence
form_of (m.number n ∷ ms) = Sentence
form_of (m.sign x ∷ ms) = Sentence
form_of (m.other ∷ ms) = Sentence

abbrev pub is_comma : Mark → Bool
is_comma (sign s.Comma) = true
is_comma _ = false

abbrev pub is_stop : Mark → Bool
is_stop (sign s.Stop) = true
is_stop _ = false

-- A line statement goes on as long as the next token stands on the line of the token before it, or the token before it is a comma.
abbrev pub line_len : Token → List Token → ℕ
line_len before [] = 0
line_len before (t ∷ ts) = if t.line == before.line || is_comma (mark_of before) then suc (line_len t ts) else 0

-- up to and with the mark at this place, or to the end
abbrev pub up_to : List Mark → Option ℕ → ℕ
up_to ms None = length ms
up_to ms (Some n) = n + 1

-- A sentence goes up to and with the first stop.
abbrev pub sentence_len : List Mark → ℕ
sentence_len ms = up_to ms (position is_stop ms)

abbrev pub len_by : Form → Token → List Token → ℕ
len_by Alone t ts = 1
len_by Line t ts = suc (line_len t ts)
len_by Sentence t ts = sentence_len (marks (t ∷ ts))

-- how many tokens the first statement has
abbrev pub statement_len : List Token → ℕ
statement_len [] = 0
statement_len (t ∷ ts) = len_by (form_of (marks (t ∷ ts))) t ts

-- ---- depth

abbrev pub is_open : Mark → Bool
is_open (sign s.Open) = true
is_open _ = false

abbrev pub is_close : Mark → Bool
is_close (sign s.Close) = true
is_close _ = false

abbrev pub nests : Sign → Bool
nests s.Not = true
nests s.Implies = true
nests s.Iff = true
nests s.CloseBracket = true
nests s.CloseBrace = true
nests s.Plus = true
nests s.Minus = true
nests s.Times = true
nests _ = false

-- a sign that is counted wherever it stands
abbrev pub is_nesting : Mark → Bool
is_nesting (sign x) = nests x
is_nesting _ = false

abbrev pub one_if : Bool → ℕ
one_if true = 1
one_if false = 0

-- how many of the marks pass a test
abbrev pub count : (Mark → Bool) → List Mark → ℕ
count p [] = 0
count p (x ∷ ms) = one_if (p x) + count p ms

-- At some mark over 100 parentheses are open, or over 300 of the counted signs are there in all.
abbrev pub IsDeep : List Mark → Type 0
IsDeep ms = ((n : ℕ) × (count is_close (take n ms) + 100 < count is_open (take n ms))) ⊎ (300 < count is_nesting ms)
