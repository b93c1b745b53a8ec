-- The bytes of lines: none but the last is a byte 10, so a text begins with one line at most, and each note has a line of its own.
use Rattle.std.proofs.Common.{◌≡◌, ◌≢◌, ℕ, ◌+◌, ◌*◌, ◌<◌, ◌≤◌, ◌^◌, Bool, true, false, cond, eqb, List, [], ◌∷◌, ◌++◌, length, get_or, drop, All, nat_lt, refl, sym, ap, ◌∙◌, inl, inr, append_assoc, arith}
use Rattle.std.specs.Prelude.{decimal, codes}
use Rattle.std.specs.List.{flat_map, AllByRecursion}
use Rattle.std.specs.Str.Parse.{AllDigits}
use Rattle.std.proofs.lemmas.Bool.{ltb-true, ltb-false, false≢true, eq-eqb}
use Rattle.std.proofs.lemmas.Fmt.{decimal_is_IsNumeral}
use Rattle.std.proofs.lemmas.List.Elements.{All-contains}
use Rattle.std.proofs.lemmas.Str.Parse.{digit_from_value}
use Rattle.ec_clause.specs.Literal.{Literal}
use Rattle.ec_clause.specs.Note.{Note}
use Rattle.ec_clause.specs.Note as note
use Rattle.ec_clause.specs.declared.ending.Ending.{Ending}
use Rattle.ec_clause.specs.declared.ending.Ending.TheVariants.{Complete, Models, Conflicts}
use Rattle.ec_log.specs.Digits.{IsHexDigit, bit, digit_of, digits_of}
use Rattle.ec_log.specs.Ending.{ending_text, IsEnding}
use Rattle.ec_log.specs.Line.{LogLine, Header, Derived, Blocked, End, spelled, sign, literal_text, literal_word, number_word, IsLine, IsLit, IsHint}
use Rattle.ec_log.specs.Log.{line_text, noted, forbidden}
use Rattle.ec_log.proofs.LinesApart.{spelled_injective}
use Rattle.ec_certificate.specs.Accepted.{forbids, IsListed}
use Rattle.ec_certificate.proofs.Forbidding.{signs-forbids_from}

-- no byte ends a line
abbrev pub NoEnd : List ℕ → Type 0
NoEnd bytes = AllByRecursion (λ b. b ≢ 10) bytes

pub NoEnd-append : (xs ys : List ℕ) → NoEnd xs → NoEnd ys → NoEnd (xs ++ ys)
NoEnd-append [] ys h g = g
NoEnd-append (x ∷ xs) ys h g = (h.0, NoEnd-append xs ys h.1 g)

NoEnd-digits : (ds : List ℕ) → AllDigits 10 ds → NoEnd ds
NoEnd-digits [] h = tt
NoEnd-digits (d ∷ ds) h =
    let range = digit_from_value d h.0 in
    (λ is. absurd (omega (arith, range.0, is)), NoEnd-digits ds h.1)

NoEnd-decimal : (n : ℕ) → n < 2 ^ 64 → NoEnd (decimal n)
NoEnd-decimal n small = NoEnd-digits (decimal n) (decimal_is_IsNumeral n small).0.1

-- a text that is written out has no byte 10 where this test says so
abbrev has_no_end : List ℕ → Bool
has_no_end [] = true
has_no_end (b ∷ bytes) = cond (eqb b 10) false (has_no_end bytes)

no_end_step : (b : ℕ) (bytes : List ℕ) (is : Bool) → eqb b 10 ≡ is → cond is false (has_no_end bytes) ≡ true → (b ≢ 10) × (has_no_end bytes ≡ true)
no_end_step b bytes true e h = absurd (false≢true h)
no_end_step b bytes false e h = (λ is. absurd (false≢true (sym e ∙ eq-eqb b 10 is)), h)

NoEnd-by : (bytes : List ℕ) → has_no_end bytes ≡ true → NoEnd bytes
NoEnd-by [] h = tt
NoEnd-by (b ∷ bytes) h =
    let step = no_end_step b bytes (eqb b 10) refl h in
    (step.0, NoEnd-by bytes step.1)

NoEnd-front : (front bytes : List ℕ) → has_no_end front ≡ true → NoEnd bytes → NoEnd (front ++ bytes)
NoEnd-front front bytes h g = NoEnd-append front bytes (NoEnd-by front h) g

NoEnd-blank : NoEnd (codes " ")
NoEnd-blank = NoEnd-by (codes " ") refl

NoEnd-literal : (positive : Bool) (variable : ℕ) → variable < 2 ^ 31 → NoEnd (sign positive ++ decimal variable)
NoEnd-literal true variable small = NoEnd-decimal variable (omega arith)
NoEnd-literal false variable small = NoEnd-front (codes "-") (decimal variable) refl (NoEnd-decimal variable (omega arith))

NoEnd-literals : (lits : List Literal) → AllByRecursion IsLit lits → NoEnd (flat_map literal_word lits)
NoEnd-literals [] h = tt
NoEnd-literals (l ∷ lits) h = NoEnd-append (literal_word l) (flat_map literal_word lits) (NoEnd-append (literal_text l) (codes " ") (NoEnd-literal l.positive l.variable h.0.1) NoEnd-blank) (NoEnd-literals lits h.1)

NoEnd-hints : (hints : List ℕ) → AllByRecursion IsHint hints → NoEnd (flat_map number_word hints)
NoEnd-hints [] h = tt
NoEnd-hints (n ∷ hints) h = NoEnd-append (number_word n) (flat_map number_word hints) (NoEnd-append (decimal n) (codes " ") (NoEnd-decimal n (omega (arith, h.0.1))) NoEnd-blank) (NoEnd-hints hints h.1)

NoEnd-hex : (ds : List ℕ) → AllByRecursion IsHexDigit ds → NoEnd ds
NoEnd-hex [] h = tt
NoEnd-hex (d ∷ ds) h = ((λ is. elim h.0 [ inl range ↦ omega (arith, range.0, is) | inr range ↦ omega (arith, range.0, is) ]), NoEnd-hex ds h.1)

NoEnd-ending : (ending : Ending) → IsEnding ending → NoEnd (ending_text ending)
NoEnd-ending (Complete n) h = NoEnd-front (codes "complete: ") (decimal n) refl (NoEnd-decimal n h)
NoEnd-ending (Models n) h = NoEnd-front (codes "limit: models ") (decimal n) refl (NoEnd-decimal n h.1)
NoEnd-ending (Conflicts n) h = NoEnd-front (codes "limit: conflicts ") (decimal n) refl (NoEnd-decimal n h.1)

-- a line has no byte 10 before its end
pub NoEnd-spelled : (line : LogLine) → IsLine line → NoEnd (spelled line)
NoEnd-spelled (Header variables clauses) h =
    NoEnd-append (codes "log 1 " ++ decimal variables ++ codes " ") (decimal clauses)
    (NoEnd-append (codes "log 1 " ++ decimal variables) (codes " ") (NoEnd-front (codes "log 1 ") (decimal variables) refl (NoEnd-decimal variables (omega (arith, h.0)))) NoEnd-blank)
    (NoEnd-decimal clauses (omega (arith, h.1)))
NoEnd-spelled (Derived lits hints) h =
    NoEnd-append (codes "d " ++ flat_map literal_word lits ++ codes "0 " ++ flat_map number_word hints) (codes "0")
    (NoEnd-append (codes "d " ++ flat_map literal_word lits ++ codes "0 ") (flat_map number_word hints)
    (NoEnd-append (codes "d " ++ flat_map literal_word lits) (codes "0 ") (NoEnd-front (codes "d ") (flat_map literal_word lits) refl (NoEnd-literals lits h.0)) (NoEnd-by (codes "0 ") refl))
    (NoEnd-hints hints h.1))
    (NoEnd-by (codes "0") refl)
NoEnd-spelled (Blocked digits) h = NoEnd-front (codes "b ") digits refl (NoEnd-hex digits h)
NoEnd-spelled (End ending) h = NoEnd-front (codes "end ") (ending_text ending) refl (NoEnd-ending ending h)

-- what stands before the first byte 10, and what stands behind it
first_end : (xs ys x y : List ℕ) → NoEnd xs → NoEnd ys → xs ++ 10 ∷ x ≡ ys ++ 10 ∷ y → (xs ≡ ys) × (x ≡ y)
first_end [] [] x y h g e = (refl, ap (λ (bs : List ℕ). drop 1 bs) e)
first_end [] (b ∷ ys) x y h g e = absurd (g.0 (sym (ap (λ (bs : List ℕ). get_or bs 0 10) e)))
first_end (a ∷ xs) [] x y h g e = absurd (h.0 (ap (λ (bs : List ℕ). get_or bs 0 10) e))
first_end (a ∷ xs) (b ∷ ys) x y h g e =
    let rest = first_end xs ys x y h.1 g.1 (ap (λ (bs : List ℕ). drop 1 bs) e) in
    (ap (λ c. c ∷ xs) (ap (λ (bs : List ℕ). get_or bs 0 10) e) ∙ ap (λ cs. b ∷ cs) rest.0, rest.1)

-- a text begins with one line at most
pub line_apart : (a b : LogLine) (x y : List ℕ) → IsLine a → IsLine b → line_text a ++ x ≡ line_text b ++ y → (a ≡ b) × (x ≡ y)
line_apart a b x y is_a is_b same =
    let texts : spelled a ++ 10 ∷ x ≡ spelled b ++ 10 ∷ y = sym (append_assoc (spelled a) (10 ∷ []) x) ∙ same ∙ append_assoc (spelled b) (10 ∷ []) y in
    let parts = first_end (spelled a) (spelled b) x y (NoEnd-spelled a is_a) (NoEnd-spelled b is_b) texts in
    (spelled_injective a b is_a is_b parts.0, parts.1)

-- ---- notes

hex_digit-apart : (m n : ℕ) (b c : Bool) → nat_lt m 10 ≡ b → nat_lt n 10 ≡ c → cond b (48 + m) (87 + m) ≡ cond c (48 + n) (87 + n) → m ≡ n
hex_digit-apart m n true true h g e = omega (arith, e)
hex_digit-apart m n false false h g e = omega (arith, e)
hex_digit-apart m n true false h g e = absurd (omega (arith, e, ltb-true m 10 h, ltb-false n 10 g))
hex_digit-apart m n false true h g e = absurd (omega (arith, e, ltb-false m 10 h, ltb-true n 10 g))

bit-le : (b : Bool) → bit b ≤ 1
bit-le true = omega arith
bit-le false = omega arith

bit-apart : (a b : Bool) → bit a ≡ bit b → a ≡ b
bit-apart true true h = refl
bit-apart true false h = absurd (omega (arith, h))
bit-apart false true h = absurd (omega (arith, h))
bit-apart false false h = refl

-- four bits are told by their digit
record AreSame (a b c d a' b' c' d' : Bool) : Type 0 where
  first : a ≡ a'
  second : b ≡ b'
  third : c ≡ c'
  fourth : d ≡ d'

digit_of-apart : (a b c d a' b' c' d' : Bool) → digit_of a b c d ≡ digit_of a' b' c' d' → AreSame a b c d a' b' c' d'
digit_of-apart a b c d a' b' c' d' e =
    let values : 8 * bit a + 4 * bit b + 2 * bit c + bit d ≡ 8 * bit a' + 4 * bit b' + 2 * bit c' + bit d' = hex_digit-apart _ _ _ _ refl refl e in
    record {
      first = bit-apart a a' (omega (arith, values, bit-le a, bit-le b, bit-le c, bit-le d, bit-le a', bit-le b', bit-le c', bit-le d'));
      second = bit-apart b b' (omega (arith, values, bit-le a, bit-le b, bit-le c, bit-le d, bit-le a', bit-le b', bit-le c', bit-le d'));
      third = bit-apart c c' (omega (arith, values, bit-le a, bit-le b, bit-le c, bit-le d, bit-le a', bit-le b', bit-le c', bit-le d'));
      fourth = bit-apart d d' (omega (arith, values, bit-le a, bit-le b, bit-le c, bit-le d, bit-le a', bit-le b', bit-le c', bit-le d'));
    }

-- truths of one length are told by their digits
pub digits_of-apart : (s t : List Bool) → length s ≡ length t → digits_of s ≡ digits_of t → s ≡ t
digits_of-apart [] [] size e = refl
digits_of-apart (a ∷ []) (a' ∷ []) size e =
    let same = digit_of-apart a false false false a' false false false (ap (λ (ds : List ℕ). get_or ds 0 0) e) in
    ap (λ x. x ∷ []) same.first
digits_of-apart (a ∷ b ∷ []) (a' ∷ b' ∷ []) size e =
    let same = digit_of-apart a b false false a' b' false false (ap (λ (ds : List ℕ). get_or ds 0 0) e) in
    ap (λ x. x ∷ b ∷ []) same.first ∙ ap (λ x. a' ∷ x ∷ []) same.second
digits_of-apart (a ∷ b ∷ c ∷ []) (a' ∷ b' ∷ c' ∷ []) size e =
    let same = digit_of-apart a b c false a' b' c' false (ap (λ (ds : List ℕ). get_or ds 0 0) e) in
    ap (λ x. x ∷ b ∷ c ∷ []) same.first ∙ ap (λ x. a' ∷ x ∷ c ∷ []) same.second ∙ ap (λ x. a' ∷ b' ∷ x ∷ []) same.third
digits_of-apart (a ∷ b ∷ c ∷ d ∷ s) (a' ∷ b' ∷ c' ∷ d' ∷ t) size e =
    let same = digit_of-apart a b c d a' b' c' d' (ap (λ (ds : List ℕ). get_or ds 0 0) e) in
    let rest = digits_of-apart s t (omega (arith, size)) (ap (λ (ds : List ℕ). drop 1 ds) e) in
    ap (λ x. x ∷ b ∷ c ∷ d ∷ s) same.first ∙ ap (λ x. a' ∷ x ∷ c ∷ d ∷ s) same.second ∙ ap (λ x. a' ∷ b' ∷ x ∷ d ∷ s) same.third ∙ ap (λ x. a' ∷ b' ∷ c' ∷ x ∷ s) same.fourth ∙ ap (λ x. a' ∷ b' ∷ c' ∷ d' ∷ x) rest
digits_of-apart s t size e = absurd (omega (arith, size))

-- a note blocks a truth of the list, if it blocks one
abbrev pub BlocksListed : List (List Bool) → Note → Type 0
BlocksListed truths (note.Derived lits hints) = Unit {0}
BlocksListed truths (note.Blocked lits) = IsListed truths lits

abbrev pub OfOneLength : ℕ → List (List Bool) → Type 0
OfOneLength visible truths = All (λ truth. length truth ≡ visible) truths

-- the digits of a blocked line are those of the truth
pub blocked_digits : (truth : List Bool) → digits_of (forbidden (forbids truth)) ≡ digits_of truth
blocked_digits truth = ap digits_of (signs-forbids_from 1 truth)

listed-apart : (visible : ℕ) (truths : List (List Bool)) (lits lits' : List Literal) → OfOneLength visible truths → IsListed truths lits → IsListed truths lits' → digits_of (forbidden lits) ≡ digits_of (forbidden lits') → lits ≡ lits'
listed-apart visible truths lits lits' sizes h g e =
    let size : length h.truth ≡ length g.truth = All-contains (λ t. length t ≡ visible) truths h.truth sizes h.listed ∙ sym (All-contains (λ t. length t ≡ visible) truths g.truth sizes g.listed) in
    let digits : digits_of h.truth ≡ digits_of g.truth =
    sym (blocked_digits h.truth) ∙ ap (λ ls. digits_of (forbidden ls)) (sym h.forbidden) ∙ e ∙ ap (λ ls. digits_of (forbidden ls)) g.forbidden ∙ blocked_digits g.truth in
    h.forbidden ∙ ap forbids (digits_of-apart h.truth g.truth size digits) ∙ sym g.forbidden

-- notes have lines of their own
pub noted-apart : (visible : ℕ) (truths : List (List Bool)) (a b : Note) → OfOneLength visible truths → BlocksListed truths a → BlocksListed truths b → noted a ≡ noted b → a ≡ b
noted-apart visible truths (note.Derived lits hints) (note.Derived lits' hints') sizes h g e =
    let same_lits : lits ≡ lits' = cc in
    let same_hints : hints ≡ hints' = cc in
    ap (λ ls. note.Derived ls hints) same_lits ∙ ap (λ hs. note.Derived lits' hs) same_hints
noted-apart visible truths (note.Blocked lits) (note.Blocked lits') sizes h g e =
    let digits : digits_of (forbidden lits) ≡ digits_of (forbidden lits') = cc in
    ap (λ ls. note.Blocked ls) (listed-apart visible truths lits lits' sizes h g digits)
noted-apart visible truths (note.Derived lits hints) (note.Blocked lits') sizes h g e = cc
noted-apart visible truths (note.Blocked lits) (note.Derived lits' hints') sizes h g e = cc

-- no note has the header's line, and none the end line
pub noted-no_header : (note : Note) (variables clauses : ℕ) → noted note ≢ Header variables clauses
noted-no_header (note.Derived lits hints) variables clauses e = cc
noted-no_header (note.Blocked lits) variables clauses e = cc

pub noted-no_end : (note : Note) (ending : Ending) → noted note ≢ End ending
noted-no_end (note.Derived lits hints) ending e = cc
noted-no_end (note.Blocked lits) ending e = cc
