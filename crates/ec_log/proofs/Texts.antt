-- Decimal digits and the texts of literals: no blank in them, not the digit 0 alone, and each of one value.
use Rattle.std.proofs.Common.{◌≡◌, ◌≢◌, ℕ, ◌<◌, ◌≤◌, ◌^◌, Bool, true, false, List, [], ◌∷◌, ◌++◌, refl, sym, ap, subst, ◌∙◌, arith, get_or}
use Rattle.std.specs.Prelude.{decimal, codes}
use Rattle.std.specs.List.{AllByRecursion}
use Rattle.std.specs.Str.Parse.{AllDigits}
use Rattle.std.proofs.lemmas.Fmt.{decimal_is_IsNumeral, decimal_injective, first_decimal}
use Rattle.std.proofs.lemmas.Str.Parse.{digit_from_value}
use Rattle.ec_clause.specs.Literal.{Literal}
use Rattle.ec_log.specs.Line.{sign, literal_text, IsLit, IsHint}

-- no byte is a blank
abbrev pub NoBlank : List ℕ → Type 0
NoBlank bytes = AllByRecursion (λ b. b ≢ 32) bytes

NoBlank-digits : (ds : List ℕ) → AllDigits 10 ds → NoBlank ds
NoBlank-digits [] h = tt
NoBlank-digits (d ∷ ds) h =
    let range = digit_from_value d h.0 in
    (λ is. absurd (omega (arith, range.0, is)), NoBlank-digits ds h.1)

pub NoBlank-decimal : (n : ℕ) → n < 2 ^ 64 → NoBlank (decimal n)
NoBlank-decimal n small = NoBlank-digits (decimal n) (decimal_is_IsNumeral n small).0.1

-- digits don't begin with a minus sign
no_sign-digits : (ds rest : List ℕ) → AllDigits 10 ds → ds ≡ 45 ∷ rest → ⊥
no_sign-digits ds rest h is =
    let all : AllDigits 10 (45 ∷ rest) = subst (AllDigits 10) is h in
    let range = digit_from_value 45 all.0 in
    absurd (omega (arith, range.0))

pub no_sign-decimal : (n : ℕ) (rest : List ℕ) → n < 2 ^ 64 → decimal n ≡ codes "-" ++ rest → ⊥
no_sign-decimal n rest small is = no_sign-digits (decimal n) rest (decimal_is_IsNumeral n small).0.1 is

-- a number from 1 on is not the digit 0
pub not_zero-decimal : (n : ℕ) → 1 ≤ n → n < 2 ^ 64 → decimal n ≢ codes "0"
not_zero-decimal n low small is =
    let first : 48 < get_or (decimal n) 0 0 = first_decimal n low small in
    let zero_first : get_or (decimal n) 0 0 ≡ 48 = ap (λ (ds : List ℕ). get_or ds 0 0) is in
    absurd (omega (arith, first, zero_first))

-- a number that is out of a range is not spelled as one within it
pub outside : (text : List ℕ) (n m low high : ℕ) → text ≡ decimal n → n < 2 ^ 64 → high < 2 ^ 64 → (low ≤ n → n ≤ high → ⊥) → low ≤ m → m ≤ high → text ≡ decimal m → ⊥
outside text n m low high is small top out above below spells =
    let same : n ≡ m = decimal_injective n m small (omega arith) (sym is ∙ spells) in
    out (omega arith) (omega arith)

abbrev literal : Bool → ℕ → Literal
literal positive variable = record { variable = variable; positive = positive }

-- the text of a literal has no blank
NoBlank-signed : (positive : Bool) (n : ℕ) → n < 2 ^ 31 → NoBlank (sign positive ++ decimal n)
NoBlank-signed true n small = NoBlank-decimal n (omega arith)
NoBlank-signed false n small = (λ is. absurd (omega (arith, is)), NoBlank-decimal n (omega arith))

pub NoBlank-literal : (l : Literal) → IsLit l → NoBlank (literal_text l)
NoBlank-literal l h = NoBlank-signed l.positive l.variable h.1

-- it is not the digit 0
not_zero-signed : (positive : Bool) (n : ℕ) → 1 ≤ n → n < 2 ^ 31 → sign positive ++ decimal n ≢ codes "0"
not_zero-signed true n low small is = not_zero-decimal n low (omega arith) is
not_zero-signed false n low small is =
    let heads : 45 ≡ 48 = ap (λ (ds : List ℕ). get_or ds 0 0) is in
    absurd (omega (arith, heads))

pub not_zero-literal : (l : Literal) → IsLit l → literal_text l ≢ codes "0"
not_zero-literal l h = not_zero-signed l.positive l.variable h.0 h.1

-- it is the text of no other literal
literal_injective-signed : (p q : Bool) (m n : ℕ) → m < 2 ^ 31 → n < 2 ^ 31 → sign p ++ decimal m ≡ sign q ++ decimal n → (p ≡ q) × (m ≡ n)
literal_injective-signed true true m n small_m small_n is = (refl, decimal_injective m n (omega arith) (omega arith) is)
literal_injective-signed false false m n small_m small_n is =
    let tails : decimal m ≡ decimal n = cc in
    (refl, decimal_injective m n (omega arith) (omega arith) tails)
literal_injective-signed true false m n small_m small_n is = absurd (no_sign-decimal m (decimal n) (omega arith) is)
literal_injective-signed false true m n small_m small_n is = absurd (no_sign-decimal n (decimal m) (omega arith) (sym is))

pub literal_injective : (k l : Literal) → IsLit k → IsLit l → literal_text k ≡ literal_text l → k ≡ l
literal_injective k l h g is =
    let same = literal_injective-signed k.positive l.positive k.variable l.variable h.1 g.1 is in
    same_literal k.positive l.positive k.variable l.variable same.0 same.1
  where
    same_literal : (p q : Bool) (m n : ℕ) → p ≡ q → m ≡ n → literal p m ≡ literal q n
    same_literal p q m n e f = cc

-- a number of a clause: no blank, not the digit 0, and of one value
pub NoBlank-hint : (n : ℕ) → IsHint n → NoBlank (decimal n)
NoBlank-hint n h = NoBlank-decimal n (omega (arith, h.1))

pub not_zero-hint : (n : ℕ) → IsHint n → decimal n ≢ codes "0"
not_zero-hint n h = not_zero-decimal n h.0 (omega (arith, h.1))

pub hint_injective : (m n : ℕ) → IsHint m → IsHint n → decimal m ≡ decimal n → m ≡ n
hint_injective m n h g is = decimal_injective m n (omega (arith, h.1)) (omega (arith, g.1)) is

-- a number of variables or of clauses has one value
pub count_injective : (m n : ℕ) → m < 2 ^ 32 → n < 2 ^ 32 → decimal m ≡ decimal n → m ≡ n
count_injective m n h g is = decimal_injective m n (omega arith) (omega arith) is

-- behind a minus sign stands no number of a variable
not_negative-signed : (text digits : List ℕ) → text ≡ codes "-" ++ digits → ((n : ℕ) → 1 ≤ n → n ≤ 2147483647 → digits ≢ decimal n) → (positive : Bool) (n : ℕ) → 1 ≤ n → n < 2 ^ 31 → text ≢ sign positive ++ decimal n
not_negative-signed text digits front none true n low high is = absurd (no_sign-decimal n digits (omega arith) (sym is ∙ front))
not_negative-signed text digits front none false n low high is =
    let same : codes "-" ++ digits ≡ codes "-" ++ decimal n = sym front ∙ is in
    none n low (omega arith) cc

pub not_negative : (text digits : List ℕ) → text ≡ codes "-" ++ digits → ((n : ℕ) → 1 ≤ n → n ≤ 2147483647 → digits ≢ decimal n) → (l : Literal) → IsLit l → text ≢ literal_text l
not_negative text digits front none l fits is = not_negative-signed text digits front none l.positive l.variable fits.0 fits.1 is
