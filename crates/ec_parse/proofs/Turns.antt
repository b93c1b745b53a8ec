-- The turns of the loop over the statements, and that tokens have one reading.
use Rattle.std.proofs.Common.{get_or, ◌≡◌, ℕ, ◌+◌, ◌<◌, List, [], ◌∷◌, ◌++◌, length, take, drop, map, Ok, Err, refl, ap, sym, subst, ◌∙◌, arith}
use Rattle.std.proofs.lemmas.List.{drop-drop, drop_more}
use Rattle.ec_lex.specs.declared.token.Token.{Token}
use Rattle.ec_parse.specs.declared.mark.Sign.TheVariants as s
use Rattle.ec_parse.specs.declared.fault.ParseFault.{ParseFault}
use Rattle.ec_parse.specs.declared.fault.ParseFault.TheVariants.{Syntax, Deep, Memory}
use Rattle.ec_parse.specs.declared.cut.Form.{Form}
use Rattle.ec_parse.specs.declared.cut.Form.TheVariants.{Alone, Line, Sentence}
use Rattle.ec_syntax.specs.declared.statement.Statement as rust
use Rattle.ec_syntax.specs.declared.statement.Content as content
use Rattle.ec_syntax.specs.Written.{Formula, Content}
use Rattle.std.specs.Prelude.{Result}
use Rattle.ec_syntax.specs.declared.tree.Tree.{Tree}
use Rattle.ec_syntax.specs.View.{content_of, statement_of, formula_of}
use Rattle.ec_parse.specs.declared.fault.Fault.{Fault}
use Rattle.ec_parse.specs.declared.fault.Fault.TheVariants as F
use Rattle.ec_parse.specs.declared.mark.Mark as mark
use Rattle.ec_parse.specs.Mark.{Mark, sign, marks, seen_all, Lacks}
use Rattle.ec_parse.specs.Reads.{Fails, Unspelled, Whole, IsEnded}
use Rattle.ec_parse.specs.Mark as m
use Rattle.ec_parse.specs.Terms.{bare}
use Rattle.ec_parse.specs.Formulas.{joins, IsFormula, implications, no_side, plain, disjunction, no_disjunct, conjunction, no_conjunct, atomic, predicate}
use Rattle.ec_parse.specs.Lines.{IsAlone, load, choice, ignored}
use Rattle.ec_parse.specs.Cut.{form_of, statement_len}
use Rattle.ec_parse.specs.Statements.{IsStopped, IsSentence, labelled, unlabelled, Spells, first, others, Found, put, AreStatements, none, statement, deep, fault, Answers, ReadsContent}
use Rattle.ec_parse.proofs.OneFormula.{formula_one}
use Rattle.ec_parse.proofs.OneTerm.{tail_of}
use Rattle.ec_parse.proofs.LineSteps.{line_one}
use Rattle.ec_parse.proofs.Marks.{seen_front, seen_behind}

-- ---- one reading

pub alone_one : {ms : List Mark} {a b : Content} → IsAlone ms a → IsAlone ms b → a ≡ b
alone_one (load d) (load e) = refl
alone_one (choice d e f) (choice g h i) = cc
alone_one (choice d e f) (ignored g h) = absurd cc
alone_one (ignored g h) (choice d e f) = absurd cc
alone_one (ignored d e) (ignored f g) = refl

-- a name and a colon begin no formula and stop
pub no_label : {l : List ℕ} {ms : List Mark} {a : Formula} → IsFormula (m.upper l ∷ sign s.Colon ∷ ms) a (sign s.Stop ∷ []) → ⊥
no_label d =
    let name = implications (plain (disjunction (conjunction (atomic (predicate (bare refl) refl)) no_conjunct) no_disjunct)) no_side in
    let h = formula_one d (omega arith) name (omega arith) in cc

pub sentence_one : {ms : List Mark} {a b : Content} → IsSentence ms a → IsSentence ms b → a ≡ b
sentence_one (labelled d) (labelled e) = let h = formula_one d (omega arith) e (omega arith) in cc
sentence_one (labelled d) (unlabelled e) = absurd (no_label e)
sentence_one (unlabelled d) (labelled e) = absurd (no_label d)
sentence_one (unlabelled d) (unlabelled e) = let h = formula_one d (omega arith) e (omega arith) in cc

pub spells_one : (form : Form) (ms : List Mark) (a b : Content) → Spells form ms a → Spells form ms b → a ≡ b
spells_one Alone ms a b d e = alone_one d e
spells_one Line ms a b d e = line_one d e
spells_one Sentence ms a b d e = sentence_one d e

pub statements_one : {ts : List Token} {r s : Found} → AreStatements ts r → AreStatements ts s → r ≡ s
statements_one none none = refl
statements_one (statement {t = t} {ts = ts} c n d ds) (statement b k e es) = let h = spells_one (form_of (marks (t ∷ ts))) _ _ _ d e in let i = statements_one ds es in cc
statements_one (statement c n d ds) (deep k) = absurd (n k)
statements_one (statement c n d ds) (fault k f) = absurd (f c d)
statements_one (deep n) (statement c k e es) = absurd (k n)
statements_one (deep n) (deep k) = refl
statements_one (deep n) (fault k f) = absurd (k n)
statements_one (fault n f) (statement c k e es) = absurd (f c e)
statements_one (fault n f) (deep k) = absurd (n k)
statements_one (fault n f) (fault k g) = refl

-- ---- sentences that aren't there

pub no_stop : {ms mid : List Mark} {a b : Formula} → IsFormula ms a mid → joins mid < 1 → Lacks mid (sign s.Stop) → IsStopped ms b → ⊥
no_stop u l lacks d = lacks [] (formula_one u l d (omega arith)).1

no_stop_end : {ms rest : List Mark} {a b : Formula} → IsFormula ms a (sign s.Stop ∷ rest) → (rest ≡ [] → ⊥) → IsStopped ms b → ⊥
no_stop_end u n d = n (tail_of (formula_one u (omega arith) d (omega arith)).1)

pub stopped_whole : (ms mid rest : List Mark) (read tree : Tree) (result : Result Tree Fault) → IsFormula ms (formula_of read) mid → tree ≡ read → mid ≡ sign s.Stop ∷ rest → IsEnded tree rest result → Whole formula_of IsStopped ms result
stopped_whole ms mid rest read tree (Ok t) u same is h = rw (h.0, same) (subst (λ z. IsFormula ms (formula_of read) z) (is ∙ ap (λ z. sign s.Stop ∷ z) h.1) u)
stopped_whole ms mid rest read tree (Err e) u same is h = rw h.0 (λ x d. no_stop_end (subst (λ z. IsFormula ms (formula_of read) z) is u) h.1 d)

pub stopped_fails : (ms : List Mark) (e : Fault) → Fails IsFormula joins 1 ms e → Unspelled IsStopped ms e
stopped_fails ms F.Memory f = tt
stopped_fails ms F.Syntax f = λ x d. f x (sign s.Stop ∷ []) d (omega arith)

no_labelled : {l : List ℕ} {ms : List Mark} {c : Content} → ((a : Formula) → IsStopped ms a → ⊥) → IsSentence (m.upper l ∷ sign s.Colon ∷ ms) c → ⊥
no_labelled f (labelled d) = f _ d
no_labelled f (unlabelled d) = no_label d

pub labelled_fails : (l : List ℕ) (ms : List Mark) (e : Fault) → Unspelled IsStopped ms e → Unspelled IsSentence (m.upper l ∷ sign s.Colon ∷ ms) e
labelled_fails l ms F.Memory f = tt
labelled_fails l ms F.Syntax f = λ c d. no_labelled f d

no_unlabelled : {ms : List Mark} {c : Content} → ((l : List ℕ) (more : List Mark) → ms ≡ m.upper l ∷ sign s.Colon ∷ more → ⊥) → ((a : Formula) → IsStopped ms a → ⊥) → IsSentence ms c → ⊥
no_unlabelled lacks f (labelled d) = lacks _ _ refl
no_unlabelled lacks f (unlabelled d) = f _ d

pub unlabelled_fails : (ms : List Mark) (e : Fault) → ((l : List ℕ) (more : List Mark) → ms ≡ m.upper l ∷ sign s.Colon ∷ more → ⊥) → Unspelled IsStopped ms e → Unspelled IsSentence ms e
unlabelled_fails ms F.Memory lacks f = tt
unlabelled_fails ms F.Syntax lacks f = λ c d. no_unlabelled lacks f d

-- ---- the loop

-- those found so far, before what is still to come
abbrev pub put_all : List rust.Statement → Found → Found
put_all [] r = r
put_all (t ∷ ts) r = put (statement_of t) (put_all ts r)

pub put_all-push : (ts : List rust.Statement) (t : rust.Statement) (r : Found) → put_all (ts ++ t ∷ []) r ≡ put_all ts (put (statement_of t) r)
put_all-push [] t r = refl
put_all-push (u ∷ ts) t r = ap (put (statement_of u)) (put_all-push ts t r)

pub put_all-end : (ts : List rust.Statement) → put_all ts (Ok []) ≡ Ok (map statement_of ts)
put_all-end [] = refl
put_all-end (u ∷ ts) = ap (put (statement_of u)) (put_all-end ts)

pub put_all-fault : (ts : List rust.Statement) (e : ParseFault) → put_all ts (Err e) ≡ Err e
put_all-fault [] e = refl
put_all-fault (u ∷ ts) e = ap (put (statement_of u)) (put_all-fault ts e)

-- what is left gives the whole
pub record Cut (tokens rest : List Token) (found : List rust.Statement) : Type 0 where
  pub so_far : (r : Found) → AreStatements rest r → AreStatements tokens (put_all found r)

pub cut_begins : (tokens : List Token) → Cut tokens tokens []
cut_begins tokens = record { so_far = λ r d. d }

pub cut_goes : (tokens rest head tail : List Token) (form : Form) (x : Token) (behind : List Token) (c : content.Content) (found new : List rust.Statement) → Cut tokens rest found → rest ≡ x ∷ behind → form ≡ form_of (marks rest)
    → head ≡ first rest → tail ≡ others rest → ReadsContent form x (marks head) (Ok c) → new ≡ found ++ record { line = x.line; content = c } ∷ [] → Cut tokens tail new
cut_goes tokens rest head tail form x behind c found new k e f h t d n = record {
  so_far = λ r g. rw (n, put_all-push) (k.so_far _ (rw e (statement (content_of c) (rw (f, h, e) at d.0) (rw (f, h, e) at d.1) (rw (t, e) at g))));
}

pub cut_ends : (tokens rest : List Token) (found : List rust.Statement) → Cut tokens rest found → rest ≡ [] → AreStatements tokens (Ok (map statement_of found))
cut_ends tokens rest found c e = rw (← put_all-end found) (c.so_far (Ok []) (rw e none))

ends_so : (tokens rest : List Token) (found : List rust.Statement) (e : ParseFault) → Cut tokens rest found → AreStatements rest (Err e) → AreStatements tokens (Err e)
ends_so tokens rest found e c d = rw (← put_all-fault found e) (c.so_far _ d)

pub cut_fails : (tokens rest head : List Token) (form : Form) (x : Token) (behind : List Token) (found : List rust.Statement) (e : ParseFault) → Cut tokens rest found → rest ≡ x ∷ behind → form ≡ form_of (marks rest) → head ≡ first rest
    → ReadsContent form x (marks head) (Err e) → Answers tokens (Err e)
cut_fails tokens rest head form x behind found (Syntax line word) c e f h d = ends_so tokens rest found _ c (rw (e, d.0, d.1) (fault (rw (f, h, e) at d.2) (rw (f, h, e) at d.3)))
cut_fails tokens rest head form x behind found (Deep line) c e f h d = ends_so tokens rest found _ c (rw (e, d.0) (deep (rw (f, h, e) at d.1)))
cut_fails tokens rest head form x behind found Memory c e f h d = tt

-- ---- a turn over the tokens and their marks

-- what is left from a place on, with its marks, and what the first statement there has
pub record Ahead (tokens : List Token) (place : ℕ) (rest : List Token) (ahead : List mark.Mark) (form : Form) (len : ℕ) (own : List mark.Mark) : Type 0 where
  pub is_rest : rest ≡ drop place tokens
  pub is_seen : seen_all ahead ≡ marks rest
  pub is_form : form ≡ form_of (seen_all ahead)
  pub is_len : len ≡ statement_len rest
  pub is_own : own ≡ take len ahead

pub ahead_of : (tokens : List Token) (place : ℕ) (all items : List mark.Mark) (rest : List Token) (ahead : List mark.Mark) (form : Form) (len : ℕ) (own : List mark.Mark) → all ≡ items → seen_all items ≡ marks tokens → rest ≡ drop place tokens
    → ahead ≡ drop place all → form ≡ form_of (seen_all ahead) → len ≡ statement_len rest → own ≡ take len ahead → Ahead tokens place rest ahead form len own
ahead_of tokens place all items rest ahead form len own is seen r a f n o = record {
  is_rest = r;
  is_seen = ap seen_all a ∙ seen_behind all tokens place (ap seen_all is ∙ seen) ∙ ap marks (sym r);
  is_form = f;
  is_len = n;
  is_own = o;
}

own_marks : {tokens rest : List Token} {place len : ℕ} {ahead own : List mark.Mark} {form : Form} → Ahead tokens place rest ahead form len own → seen_all own ≡ marks (first rest)
own_marks {rest = rest} {ahead = ahead} a = ap seen_all a.is_own ∙ seen_front ahead rest _ a.is_seen ∙ ap (λ n. marks (take n rest)) a.is_len

from_place : (tokens : List Token) (place : ℕ) (x : Token) → place < length tokens → x ≡ get_or tokens place x → drop place tokens ≡ x ∷ drop (place + 1) tokens
from_place tokens place x w e = drop_more tokens place x w ∙ ap (λ t. t ∷ drop (place + 1) tokens) (sym e)

pub place_goes : (tokens : List Token) (place : ℕ) (rest : List Token) (ahead : List mark.Mark) (form : Form) (len : ℕ) (own : List mark.Mark) (x : Token) (c : content.Content) (found new : List rust.Statement)
    → Cut tokens (drop place tokens) found → place < length tokens → x ≡ get_or tokens place x → Ahead tokens place rest ahead form len own → ReadsContent form x (seen_all own) (Ok c) → new ≡ found ++ record { line = x.line; content = c } ∷ []
    → Cut tokens (drop (place + len) tokens) new
place_goes tokens place rest ahead form len own x c found new k w e a d n =
    let tail : drop (place + len) tokens ≡ drop (statement_len rest) rest = sym (drop-drop len place tokens) ∙ ap (drop len) (sym a.is_rest) ∙ ap (λ n. drop n rest) a.is_len in
    let reads = subst (λ ms. ReadsContent form x ms (Ok c)) (own_marks a) d in
    cut_goes tokens rest (first rest) (drop (place + len) tokens) form x (drop (place + 1) tokens) c found new (rw a.is_rest k) (a.is_rest ∙ from_place tokens place x w e) (a.is_form ∙ ap form_of a.is_seen) refl tail reads n

pub place_fails : (tokens : List Token) (place : ℕ) (rest : List Token) (ahead : List mark.Mark) (form : Form) (len : ℕ) (own : List mark.Mark) (x : Token) (found : List rust.Statement) (e : ParseFault)
    → Cut tokens (drop place tokens) found → place < length tokens → x ≡ get_or tokens place x → Ahead tokens place rest ahead form len own → ReadsContent form x (seen_all own) (Err e) → Answers tokens (Err e)
place_fails tokens place rest ahead form len own x found e k w g a d =
    cut_fails tokens rest (first rest) form x (drop (place + 1) tokens) found e (rw a.is_rest k) (a.is_rest ∙ from_place tokens place x w g) (a.is_form ∙ ap form_of a.is_seen) refl
    (subst (λ ms. ReadsContent form x ms (Err e)) (own_marks a) d)
