-- What a rule of the grammar sees of a token.
use Rattle.std.specs.Prelude.{◌≡◌, ℕ, List, ◌∷◌, map, Option, Some, None, if◌then◌else◌, codes, nat_le}
use Rattle.std.specs.Str.{bytes_eq}
use Rattle.ec_lex.specs.Bytes.{value}
use Rattle.ec_lex.specs.declared.token.Kind.{Kind}
use Rattle.ec_lex.specs.declared.token.Kind.TheVariants as kind
use Rattle.ec_lex.specs.declared.token.Token.{Token}
use Rattle.ec_parse.specs.declared.mark.Sign.{Sign}
use Rattle.ec_parse.specs.declared.mark.Sign.TheVariants as s
use Rattle.ec_parse.specs.declared.mark.Keyword.{Keyword}
use Rattle.ec_parse.specs.declared.mark.Keyword.TheVariants as k
use Rattle.ec_parse.specs.declared.mark.Mark as rust
use Rattle.ec_parse.specs.declared.mark.Mark.TheVariants as r

-- A lower-case word that is reserved is a keyword. No rule takes `other`.
pub data Mark : Type 0 where
  upper : List ℕ → Mark
  lower : List ℕ → Mark
  keyword : Keyword → List ℕ → Mark
  number : ℕ → Mark
  load : List ℕ → Mark
  choice : List ℕ → Mark
  sign : Sign → Mark
  other : Mark

-- the sign that is spelled so
abbrev pub sign_of : List ℕ → Option Sign
sign_of w =
    if bytes_eq w (codes "<->") then Some s.Iff
    else if bytes_eq w (codes "->") then Some s.Implies
    else if bytes_eq w (codes "<=") then Some s.AtMost
    else if bytes_eq w (codes ">=") then Some s.AtLeast
    else if bytes_eq w (codes "!=") then Some s.Unequal
    else if bytes_eq w (codes "[") then Some s.OpenBracket
    else if bytes_eq w (codes "]") then Some s.CloseBracket
    else if bytes_eq w (codes "{") then Some s.OpenBrace
    else if bytes_eq w (codes "}") then Some s.CloseBrace
    else if bytes_eq w (codes "(") then Some s.Open
    else if bytes_eq w (codes ")") then Some s.Close
    else if bytes_eq w (codes ",") then Some s.Comma
    else if bytes_eq w (codes ".") then Some s.Stop
    else if bytes_eq w (codes ":") then Some s.Colon
    else if bytes_eq w (codes "!") then Some s.Not
    else if bytes_eq w (codes "&") then Some s.And
    else if bytes_eq w (codes "|") then Some s.Or
    else if bytes_eq w (codes "=") then Some s.Equal
    else if bytes_eq w (codes "<") then Some s.Less
    else if bytes_eq w (codes ">") then Some s.More
    else if bytes_eq w (codes "+") then Some s.Plus
    else if bytes_eq w (codes "-") then Some s.Minus
    else if bytes_eq w (codes "*") then Some s.Times
    else None

-- the reserved word that is spelled so
abbrev pub keyword_of : List ℕ → Option Keyword
keyword_of w =
    if bytes_eq w (codes "sort") then Some k.Sort
    else if bytes_eq w (codes "reified") then Some k.Reified
    else if bytes_eq w (codes "function") then Some k.Function
    else if bytes_eq w (codes "event") then Some k.Event
    else if bytes_eq w (codes "fluent") then Some k.Fluent
    else if bytes_eq w (codes "noninertial") then Some k.Noninertial
    else if bytes_eq w (codes "predicate") then Some k.Predicate
    else if bytes_eq w (codes "range") then Some k.Range
    else if bytes_eq w (codes "completion") then Some k.Completion
    else if bytes_eq w (codes "xor") then Some k.Xor
    else if bytes_eq w (codes "mutex") then Some k.Mutex
    else if bytes_eq w (codes "ignore") then Some k.Ignore
    else None

-- the number that the digits spell, at most 1,000,000,000
abbrev pub number_of : List ℕ → Option ℕ
number_of w = if nat_le (value w) 1000000000 then Some (value w) else None

abbrev pub sign_or_other : Option Sign → Mark
sign_or_other None = other
sign_or_other (Some x) = sign x

abbrev pub number_or_other : Option ℕ → Mark
number_or_other None = other
number_or_other (Some n) = number n

abbrev pub keyword_or_lower : List ℕ → Option Keyword → Mark
keyword_or_lower w None = lower w
keyword_or_lower w (Some x) = keyword x w

abbrev pub mark_by : Kind → List ℕ → Mark
mark_by kind.Upper w = upper w
mark_by kind.Lower w = keyword_or_lower w (keyword_of w)
mark_by kind.Number w = number_or_other (number_of w)
mark_by kind.Load w = load w
mark_by kind.Choice w = choice w
mark_by kind.Sign w = sign_or_other (sign_of w)

abbrev pub mark_of : Token → Mark
mark_of t = mark_by t.kind t.word

abbrev pub marks : List Token → List Mark
marks ts = map mark_of ts

-- what a `Mark` of the code stands for
abbrev pub seen : rust.Mark → Mark
seen (r.Upper w) = upper w.now
seen (r.Lower w) = lower w.now
seen (r.Keyword x w) = keyword x w.now
seen (r.Number n) = number n
seen (r.Load w) = load w.now
seen (r.Choice w) = choice w.now
seen (r.Sign x) = sign x
seen r.Other = other

abbrev pub seen_all : List rust.Mark → List Mark
seen_all ms = map seen ms

-- The mark doesn't come first.
abbrev pub Lacks : List Mark → Mark → Type 0
Lacks ms m = (more : List Mark) → ms ≡ m ∷ more → ⊥
