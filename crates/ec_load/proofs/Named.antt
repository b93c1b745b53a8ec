-- The statements of well-formed tokens: what they declare has names, and they count for no more than the tokens.
use Rattle.std.proofs.Common.{◌≡◌, ℕ, ◌+◌, ◌≤◌, ◌<◌, Bool, true, false, List, [], ◌∷◌, length, Option, Some, None, Ok, Err, All, arith}
use Rattle.std.proofs.lemmas.List.{length-take, length-drop, length-map}
use Rattle.std.proofs.lemmas.List.Elements.{All-nil, All-cons, All-head, All-tail, All-take, All-drop}
use Rattle.ec_lex.specs.declared.token.Kind.{Kind}
use Rattle.ec_lex.specs.declared.token.Kind.TheVariants as kind
use Rattle.ec_lex.specs.declared.token.Token.{Token}
use Rattle.ec_lex.specs.Bytes.{has_form}
use Rattle.ec_lex.specs.Lex.{Lexes, IsFormed}
use Rattle.ec_lex.proofs.Forms.{formed}
use Rattle.ec_parse.specs.Mark.{Mark, mark_of, mark_by, marks, sign_of, sign_or_other, number_of, number_or_other, keyword_of, keyword_or_lower}
use Rattle.ec_parse.specs.Mark as m
use Rattle.ec_parse.specs.Cut.{begins_upper, line_or_sentence, form_of, len_by, statement_len, up_to}
use Rattle.ec_parse.specs.Lines.{IsAlone, load, choice, ignored}
use Rattle.ec_parse.specs.Statements.{Found, put, Spells, IsSentence, labelled, unlabelled, first, others, AreStatements, none, statement, deep, fault}
use Rattle.ec_syntax.specs.Written.{Content, Statement}
use Rattle.ec_load.specs.Sound.{IsUpperWord, declared_names, AreNamed, names_count, counted}
use Rattle.ec_load.proofs.Lexed.{few}
use Rattle.ec_load.proofs.Rules.{IsFormedMark, Formed, Each, IsGood, line_good}

-- ---- marks of well-formed tokens

by_option : {A : Type 0} (P : Option A → Type 0) → P None → ((a : A) → P (Some a)) → (o : Option A) → P o
by_option P n s None = n
by_option P n s (Some a) = s a

by_kind : (k : Kind) (w : List ℕ) → has_form k w ≡ true → IsFormedMark (mark_by k w)
by_kind kind.Upper w h = h
by_kind kind.Lower w h = by_option (λ o. IsFormedMark (keyword_or_lower w o)) tt (λ x. tt) (keyword_of w)
by_kind kind.Number w h = by_option (λ o. IsFormedMark (number_or_other o)) tt (λ n. tt) (number_of w)
by_kind kind.Load w h = tt
by_kind kind.Choice w h = tt
by_kind kind.Sign w h = by_option (λ o. IsFormedMark (sign_or_other o)) tt (λ x. tt) (sign_of w)

marks_formed : (ts : List Token) → All IsFormed ts → Formed (marks ts)
marks_formed [] h = tt
marks_formed (t ∷ ts) h = (by_kind t.kind t.word (All-head IsFormed t ts h), marks_formed ts (All-tail IsFormed t ts h))

-- ---- one statement

up_to_moves : (x : Mark) (ms : List Mark) (o : Option ℕ) → 0 < up_to (x ∷ ms) o
up_to_moves x ms None = omega arith
up_to_moves x ms (Some n) = omega arith

-- the kind of a statement, by its marks, decides how long it is
len_moves : (ms : List Mark) (t : Token) (ts : List Token) → 0 < len_by (form_of ms) t ts
len_moves [] t ts = up_to_moves (mark_of t) (marks ts) _
len_moves (m.load w ∷ ms) t ts = omega arith
len_moves (m.choice w ∷ ms) t ts = omega arith
len_moves (m.keyword x w ∷ ms) t ts = omega arith
len_moves (m.lower v ∷ ms) t ts = by_upper (begins_upper ms)
  where
    by_upper : (upper : Bool) → 0 < len_by (line_or_sentence upper) t ts
    by_upper true = omega arith
    by_upper false = up_to_moves (mark_of t) (marks ts) _
len_moves (m.upper n ∷ ms) t ts = up_to_moves (mark_of t) (marks ts) _
len_moves (m.number n ∷ ms) t ts = up_to_moves (mark_of t) (marks ts) _
len_moves (m.sign x ∷ ms) t ts = up_to_moves (mark_of t) (marks ts) _
len_moves (m.other ∷ ms) t ts = up_to_moves (mark_of t) (marks ts) _

first_some : (t : Token) (ts : List Token) → 0 < length (first (t ∷ ts))
first_some t ts = omega (arith, len_moves (marks (t ∷ ts)) t ts, length-take (statement_len (t ∷ ts)) (t ∷ ts))

alone_good : {ms : List Mark} {c : Content} → IsAlone ms c → IsGood ms c
alone_good (load n) = (tt, omega arith)
alone_good (choice a b d) = (tt, omega arith)
alone_good (ignored a b) = (tt, omega arith)

sentence_good : {ms : List Mark} {c : Content} → IsSentence ms c → 0 < length ms → IsGood ms c
sentence_good (labelled s) l = (tt, omega arith)
sentence_good (unlabelled s) l = (tt, omega arith)

spelled_good : (all ms : List Mark) (c : Content) → Spells (form_of all) ms c → Formed ms → 0 < length ms → IsGood ms c
spelled_good [] ms c s f l = sentence_good s l
spelled_good (m.load w ∷ all) ms c s f l = alone_good s
spelled_good (m.choice w ∷ all) ms c s f l = alone_good s
spelled_good (m.keyword x w ∷ all) ms c s f l = line_good s f
spelled_good (m.lower v ∷ all) ms c s f l = by_upper (begins_upper all) s
  where
    by_upper : (upper : Bool) → Spells (line_or_sentence upper) ms c → IsGood ms c
    by_upper true s = line_good s f
    by_upper false s = sentence_good s l
spelled_good (m.upper n ∷ all) ms c s f l = sentence_good s l
spelled_good (m.number n ∷ all) ms c s f l = sentence_good s l
spelled_good (m.sign x ∷ all) ms c s f l = sentence_good s l
spelled_good (m.other ∷ all) ms c s f l = sentence_good s l

-- ---- all statements

all_each : {X : Type 0} (P : X → Type 0) (xs : List X) → Each P xs → All P xs
all_each P [] e = All-nil P
all_each P (x ∷ xs) e = All-cons P x xs e.0 (all_each P xs e.1)

abbrev GoodIn : ℕ → Found → Type 0
GoodIn n (Ok ss) = Each AreNamed ss × (counted ss ≤ n)
GoodIn n (Err e) = Unit {0}

one_more : (m n : ℕ) (s : Statement) (r : Found) → Each IsUpperWord (declared_names s.content) → 1 + names_count s.content + m ≤ n → GoodIn m r → GoodIn n (put s r)
one_more m n s (Ok ss) e l g = ((all_each IsUpperWord (declared_names s.content) e, g.0), omega (arith, g.1))
one_more m n s (Err e) h l g = tt

statements_good : {ts : List Token} {r : Found} → AreStatements ts r → All IsFormed ts → GoodIn (length ts) r
statements_good none f = (tt, omega arith)
statements_good (statement {t = t} {ts = ts} {r = r} c flat spells d) f =
    let size = statement_len (t ∷ ts) in
    let good = spelled_good (marks (t ∷ ts)) (marks (first (t ∷ ts))) c spells (marks_formed (first (t ∷ ts)) (All-take IsFormed size (t ∷ ts) f)) (omega (arith, first_some t ts, length-map (first (t ∷ ts)) mark_of)) in
    let sizes : length (first (t ∷ ts)) + length (others (t ∷ ts)) ≤ length (t ∷ ts) = omega (arith, length-take size (t ∷ ts), length-drop size (t ∷ ts)) in
    one_more (length (others (t ∷ ts))) (length (t ∷ ts)) (record { line = t.line; content = c }) r good.0 (omega (arith, good.1, sizes, length-map (first (t ∷ ts)) mark_of)) (statements_good d (All-drop IsFormed size (t ∷ ts) f))
statements_good (deep n) f = tt
statements_good (fault n s) f = tt

-- what holds of the statements that bytes spell
pub spelled_named : (bytes : List ℕ) (ts : List Token) (ss : List Statement) → Lexes 1 bytes (Ok ts) → AreStatements ts (Ok ss) → All AreNamed ss
spelled_named bytes ts ss l d = all_each AreNamed ss (statements_good d (formed bytes ts l)).0

pub spelled_few : (bytes : List ℕ) (ts : List Token) (ss : List Statement) → Lexes 1 bytes (Ok ts) → AreStatements ts (Ok ss) → counted ss ≤ length bytes
spelled_few bytes ts ss l d = omega (arith, (statements_good d (formed bytes ts l)).1, few bytes ts l)
