-- The tokens of the sample spell its statements.
use Rattle.std.proofs.Common.{◌≡◌, ℕ, suc, ◌<◌, ◌≤◌, ◌+◌, List, [], ◌∷◌, ◌++◌, length, take, drop, inl, inr, Bool, true, false, ◌∙◌, refl, ap, subst, sym, arith, codes, if◌then◌else◌, Ok, Some, None}
use Rattle.std.specs.Fmt.{decimal}
use Rattle.std.proofs.Math.Seq.{take-append_seam, drop-append_seam}
use Rattle.std.specs.List.{position_or_len}
use Rattle.std.proofs.lemmas.Bool.{lt-ltb}
use Rattle.std.proofs.lemmas.List.{length-take, length-append, length-map}
use Rattle.ec_lex.specs.declared.token.Kind.TheVariants as kind
use Rattle.ec_lex.specs.declared.token.Token.{Token}
use Rattle.ec_syntax.specs.Written.{Content}
use Rattle.ec_parse.specs.Mark.{Mark, mark_by, mark_of, marks}
use Rattle.ec_parse.specs.Mark as m
use Rattle.ec_parse.specs.Cut.{form_of, statement_len, sentence_len, count, line_len, up_to, is_stop, one_if, IsDeep, is_open, is_nesting, is_comma}
use Rattle.ec_parse.specs.Statements.{Spells, IsNested, Found, put, AreStatements, statement, none}
use Rattle.ec_parse.proofs.Turns.{statements_one}
use Rattle.ec_sampled.specs.Tokens.{lower, sign, sort_tokens, steps_tokens, times_tokens, fluent_tokens, event_tokens, effect_tokens, start_tokens, once_tokens, order_tokens, single_tokens, end_tokens, sample_tokens}
use Rattle.ec_sampled.specs.Book.{says, holds, sort_said, steps_said, times_said, fluent_said, event_said, effect, start, once, order, single, end, sample_statements}
use Rattle.ec_sampled.proofs.ParsedNumbers.{number_mark}
use Rattle.ec_sampled.proofs.ParsedLines.{sort_line, steps_line, times_line, fluent_line, event_line, effect_sentence, start_sentence, once_sentence, order_sentence, single_sentence, end_sentence}

-- ---- few marks are never nested too deeply

one_if_le : (b : Bool) → one_if b ≤ 1
one_if_le true = omega arith
one_if_le false = omega arith

count_le : (p : Mark → Bool) (ms : List Mark) → count p ms ≤ length ms
count_le p [] = omega arith
count_le p (x ∷ ms) = omega (arith, one_if_le (p x), count_le p ms)

take_le : (n : ℕ) (ms : List Mark) → length (take n ms) ≤ length ms
take_le n ms = omega (arith, length-take n ms)

pub not_deep : (ms : List Mark) → length ms ≤ 100 → IsDeep ms → ⊥
not_deep ms few (inl (n, l)) = omega (arith, l, few, count_le is_open (take n ms), take_le n ms)
not_deep ms few (inr l) = omega (arith, l, few, count_le is_nesting ms)

-- ---- the first statement of a list of tokens

first_is : (t : Token) (ts rest : List Token) (c : Content) (r : Found) → statement_len (t ∷ (ts ++ rest)) ≡ length (t ∷ ts)
    → (IsNested (form_of (marks (t ∷ (ts ++ rest)))) (marks (t ∷ ts)) → ⊥) → Spells (form_of (marks (t ∷ (ts ++ rest)))) (marks (t ∷ ts)) c
    → AreStatements rest r → AreStatements (t ∷ (ts ++ rest)) (put (says t.line c) r)
first_is t ts rest c r len flat spelled more =
    let first : take (statement_len (t ∷ (ts ++ rest))) (t ∷ (ts ++ rest)) ≡ t ∷ ts = ap (λ n. take n (t ∷ (ts ++ rest))) len ∙ take-append_seam (t ∷ ts) rest in
    let others : drop (statement_len (t ∷ (ts ++ rest))) (t ∷ (ts ++ rest)) ≡ rest = ap (λ n. drop n (t ∷ (ts ++ rest))) len ∙ drop-append_seam (t ∷ ts) rest in
    statement c
    (subst (λ us. IsNested (form_of (marks (t ∷ (ts ++ rest)))) (marks us) → ⊥) (sym first) flat)
    (subst (λ us. Spells (form_of (marks (t ∷ (ts ++ rest)))) (marks us) c) (sym first) spelled)
    (subst (λ us. AreStatements us r) (sym others) more)

abbrev line_of : List Token → ℕ
line_of [] = 0
line_of (t ∷ ts) = t.line

-- the same of all of its tokens
first_of : (front rest : List Token) (c : Content) (r : Found) → 0 < length front → statement_len (front ++ rest) ≡ length front
    → (IsNested (form_of (marks (front ++ rest))) (marks front) → ⊥) → Spells (form_of (marks (front ++ rest))) (marks front) c
    → AreStatements rest r → AreStatements (front ++ rest) (put (says (line_of front) c) r)
first_of [] rest c r some len flat spelled more = absurd (omega arith)
first_of (t ∷ ts) rest c r some len flat spelled more = first_is t ts rest c r len flat spelled more

-- ---- line by line, before the tokens of the next lines

sort_first : (ts : List Token) (r : Found) → AreStatements (lower 2 (codes "range") ∷ ts) r → AreStatements (sort_tokens ++ lower 2 (codes "range") ∷ ts) (put (says 1 sort_said) r)
sort_first ts r more = first_of sort_tokens _ sort_said r (omega arith) refl (λ x. x) sort_line more

-- `range` and its sort and numbers, of which the last isn't computed
range_len : (n : ℕ) (t : Token) (ts : List Token) → n ≤ 1000000000 → suc (suc (suc (suc (if is_comma (mark_by kind.Number (decimal n)) then suc (line_len t ts) else 0)))) ≡ 4
range_len n t ts few = ap (λ x. suc (suc (suc (suc (if is_comma x then suc (line_len t ts) else 0))))) (number_mark n few)

steps_first : (n : ℕ) (ts : List Token) (r : Found) → n ≤ 1000000000 → AreStatements (lower 3 (codes "range") ∷ ts) r
    → AreStatements (steps_tokens n ++ lower 3 (codes "range") ∷ ts) (put (says 2 (steps_said n)) r)
steps_first n ts r few more = first_of (steps_tokens n) _ (steps_said n) r (omega arith) (range_len n _ ts few) (λ x. x) (steps_line n few) more

times_first : (n : ℕ) (ts : List Token) (r : Found) → n < 1000000000 → AreStatements (lower 4 (codes "fluent") ∷ ts) r
    → AreStatements (times_tokens n ++ lower 4 (codes "fluent") ∷ ts) (put (says 3 (times_said n)) r)
times_first n ts r few more = first_of (times_tokens n) _ (times_said n) r (omega arith) (range_len (n + 1) _ ts (omega arith)) (λ x. x) (times_line n few) more

fluent_first : (ts : List Token) (r : Found) → AreStatements (lower 5 (codes "event") ∷ ts) r → AreStatements (fluent_tokens ++ lower 5 (codes "event") ∷ ts) (put (says 4 fluent_said) r)
fluent_first ts r more = first_of fluent_tokens _ fluent_said r (omega arith) refl (λ x. x) fluent_line more

event_first : (ts : List Token) (r : Found) → AreStatements (sign 6 (codes "[") ∷ ts) r → AreStatements (event_tokens ++ sign 6 (codes "[") ∷ ts) (put (says 5 event_said) r)
event_first ts r more = first_of event_tokens _ event_said r (omega arith) refl (λ x. x) event_line more

-- A sentence whose last token is its first stop ends there, whatever follows.
sentence_of : (front rest : List Token) → suc (position_or_len is_stop (marks (front ++ rest))) ≡ length front → sentence_len (marks (front ++ rest)) ≡ length front
sentence_of front rest e =
    let at : ℕ = position_or_len is_stop (marks (front ++ rest)) in
    let long : at < length (marks (front ++ rest)) = omega (arith, e, length-map (front ++ rest) mark_of, length-append front rest) in
    ap (λ b. up_to (marks (front ++ rest)) (if b then Some at else None)) (lt-ltb at (length (marks (front ++ rest))) long) ∙ omega (arith, e)

-- A number isn't the stop.
number_within : (k n at : ℕ) (ms : List Mark) → n ≤ 1000000000 → suc (position_or_len is_stop (take k ms ++ m.number n ∷ drop (suc k) ms)) ≡ at
    → suc (position_or_len is_stop (take k ms ++ mark_by kind.Number (decimal n) ∷ drop (suc k) ms)) ≡ at
number_within k n at ms few e = ap (λ x. suc (position_or_len is_stop (take k ms ++ x ∷ drop (suc k) ms))) (number_mark n few) ∙ e

effect_first : (ts : List Token) (r : Found) → AreStatements ts r → AreStatements (effect_tokens ++ ts) (put (holds 6 effect) r)
effect_first ts r more = first_of effect_tokens ts _ r (omega arith) (sentence_of effect_tokens ts refl) (not_deep _ (omega arith)) effect_sentence more

start_first : (ts : List Token) (r : Found) → AreStatements ts r → AreStatements (start_tokens ++ ts) (put (holds 7 start) r)
start_first ts r more =
    first_of start_tokens ts _ r (omega arith) (sentence_of start_tokens ts (number_within 11 0 14 (marks (start_tokens ++ ts)) (omega arith) refl)) (not_deep _ (omega arith)) start_sentence more

once_first : (ts : List Token) (r : Found) → AreStatements ts r → AreStatements (once_tokens ++ ts) (put (holds 8 once) r)
once_first ts r more = first_of once_tokens ts _ r (omega arith) (sentence_of once_tokens ts refl) (not_deep _ (omega arith)) once_sentence more

order_first : (ts : List Token) (r : Found) → AreStatements ts r → AreStatements (order_tokens ++ ts) (put (holds 9 order) r)
order_first ts r more =
    first_of order_tokens ts _ r (omega arith) (sentence_of order_tokens ts (number_within 11 1 27 (marks (order_tokens ++ ts)) (omega arith) refl)) (not_deep _ (omega arith)) order_sentence more

single_first : (ts : List Token) (r : Found) → AreStatements ts r → AreStatements (single_tokens ++ ts) (put (holds 10 single) r)
single_first ts r more = first_of single_tokens ts _ r (omega arith) (sentence_of single_tokens ts refl) (not_deep _ (omega arith)) single_sentence more

end_first : (n : ℕ) → n < 1000000000 → AreStatements (end_tokens n) (Ok (holds 11 (end n) ∷ []))
end_first n few =
    first_of (end_tokens n) [] _ (Ok []) (omega arith) (sentence_of (end_tokens n) [] (number_within 10 (n + 1) 13 (marks (end_tokens n)) (omega arith) refl)) (not_deep _ (omega arith)) (end_sentence n few) none

-- The tokens of the sample of n steps spell its statements.
pub sample_spells : (n : ℕ) → n < 1000000000 → AreStatements (sample_tokens n) (Ok (sample_statements n))
sample_spells n few =
    sort_first _ _ (steps_first n _ _ (omega arith) (times_first n _ _ few (fluent_first _ _ (event_first _ _ (effect_first _ _ (start_first _ _ (once_first _ _
    (order_first _ _ (single_first _ _ (end_first n few))))))))))

-- They spell nothing else, and no fault.
pub sample_spells_alone : (n : ℕ) → n < 1000000000 → (r : Found) → AreStatements (sample_tokens n) r → r ≡ Ok (sample_statements n)
sample_spells_alone n few r d = statements_one d (sample_spells n few)
