-- Each clause has a number in base three, by which its literals are known.
use Rattle.std.proofs.Common.{◌≡◌, ◌≢◌, ℕ, zero, suc, ◌+◌, ◌*◌, ◌^◌, ◌<◌, ◌≤◌, Bool, true, false, cond, eqb, List, [], ◌∷◌, length, get_or, All, AllPairs, Contains, refl, sym, ap, ◌∙◌, inl, inr, arith}
use Rattle.std.proofs.Math.Nat.{pow-succ'}
use Rattle.std.proofs.lemmas.Bool.{cases_eq, eq-eqb, ne_eqb}
use Rattle.ec_clause.specs.Literal.{Literal}
use Rattle.ec_clause.specs.ClauseList.{IsClause}

abbrev pub sign_digit : Bool → ℕ
sign_digit true = 1
sign_digit false = 2

-- how a variable stands in a clause: 0 for not at all, 1 as it is, 2 negated
abbrev pub digit_in : List Literal → ℕ → ℕ
digit_in [] v = 0
digit_in (l ∷ lits) v = cond (eqb l.variable v) (sign_digit l.positive) (digit_in lits v)

-- the number with the digits of the variables from 1 on
abbrev pub code_of : ℕ → List Literal → ℕ
code_of zero lits = 0
code_of (suc n) lits = 3 * code_of n lits + digit_in lits (suc n)

sign_digit-le : (b : Bool) → sign_digit b ≤ 2
sign_digit-le true = omega arith
sign_digit-le false = omega arith

sign_digit-pos : (b : Bool) → 1 ≤ sign_digit b
sign_digit-pos true = omega arith
sign_digit-pos false = omega arith

sign_digit-apart : (a b : Bool) → sign_digit a ≡ sign_digit b → a ≡ b
sign_digit-apart true true h = refl
sign_digit-apart true false h = absurd (omega (arith, h))
sign_digit-apart false true h = absurd (omega (arith, h))
sign_digit-apart false false h = refl

cond-le : (b : Bool) (x y n : ℕ) → x ≤ n → y ≤ n → cond b x y ≤ n
cond-le true x y n h k = h
cond-le false x y n h k = k

digit_in-le : (lits : List Literal) (v : ℕ) → digit_in lits v ≤ 2
digit_in-le [] v = omega arith
digit_in-le (l ∷ lits) v = cond-le (eqb l.variable v) (sign_digit l.positive) (digit_in lits v) 2 (sign_digit-le l.positive) (digit_in-le lits v)

pub code_of-lt : (n : ℕ) (lits : List Literal) → code_of n lits < 3 ^ n
code_of-lt zero lits = omega arith
code_of-lt (suc n) lits =
    let more : 3 ^ suc n ≡ 3 * 3 ^ n = pow-succ' 3 n in
    omega (arith, more, code_of-lt n lits, digit_in-le lits (suc n))

-- clauses with one number have the same digits
code_of-digits : (n : ℕ) (a b : List Literal) → code_of n a ≡ code_of n b → (v : ℕ) → 1 ≤ v → v ≤ n → digit_in a v ≡ digit_in b v
code_of-digits zero a b e v low high = absurd (omega (arith, low, high))
code_of-digits (suc n) a b e v low high =
    let sums : 3 * code_of n a + digit_in a (suc n) ≡ 3 * code_of n b + digit_in b (suc n) = e in
    let here : digit_in a (suc n) ≡ digit_in b (suc n) = omega (arith, sums, digit_in-le a (suc n), digit_in-le b (suc n)) in
    let rest : code_of n a ≡ code_of n b = omega (arith, sums, here) in
    elim (cases_eq v (suc n)) [
      | inl same ↦ ap (digit_in a) same ∙ here ∙ ap (digit_in b) (sym same)
      | inr ne ↦ code_of-digits n a b rest v low (omega (arith, high, ne))
    ]

-- the digit of a literal's variable in its clause
digit_in-own : (lits : List Literal) → AllPairs (λ (j k : Literal). j.variable ≢ k.variable) lits → (k : ℕ) (d : Literal) → k < length lits → digit_in lits (get_or lits k d).variable ≡ sign_digit (get_or lits k d).positive
digit_in-own [] apart k d lt = absurd (omega (arith, lt))
digit_in-own (l ∷ ls) apart zero d lt = ap (λ b. cond b (sign_digit l.positive) (digit_in ls l.variable)) (eq-eqb l.variable l.variable refl)
digit_in-own (l ∷ ls) apart (suc k) d lt =
    let v = (get_or ls k d).variable in
    let other : eqb l.variable v ≡ false = ne_eqb l.variable v (apart 0 (suc k) d (omega arith) lt) in
    ap (λ b. cond b (sign_digit l.positive) (digit_in ls v)) other ∙ digit_in-own ls (λ i j e ij jl. apart (suc i) (suc j) e (omega (arith, ij)) (omega (arith, jl))) k d (omega (arith, lt))

literal_is : (l : Literal) (v : ℕ) (s : Bool) → l.variable ≡ v → l.positive ≡ s → l ≡ record { variable = v; positive = s }
literal_is l v s e f = ap (λ n. record { variable = n; positive = l.positive }) e ∙ ap (λ b. record { variable = v; positive = b }) f

-- a clause has the literal that a digit tells
digit_in-tells : (lits : List Literal) (v : ℕ) (s : Bool) → digit_in lits v ≡ sign_digit s → Contains lits (record { variable = v; positive = s })
digit_in-tells [] v s e = absurd (omega (arith, e, sign_digit-pos s))
digit_in-tells (l ∷ ls) v s e = elim (cases_eq l.variable v) [
  | inl same ↦ (
      let digit : sign_digit l.positive ≡ sign_digit s = ap (λ b. cond b (sign_digit l.positive) (digit_in ls v)) (sym (eq-eqb l.variable v same)) ∙ e in
      (0, omega arith, literal_is l v s same (sign_digit-apart l.positive s digit)))
  | inr ne ↦ (
      let digit : digit_in ls v ≡ sign_digit s = ap (λ b. cond b (sign_digit l.positive) (digit_in ls v)) (sym (ne_eqb l.variable v ne)) ∙ e in
      let rest = digit_in-tells ls v s digit in
      (suc rest.0, omega (arith, rest.1), rest.2))
]

-- of two clauses with one number each has the literals of the other
pub code_of-same : (n : ℕ) (a b : List Literal) → IsClause n a → code_of n a ≡ code_of n b → All (Contains b) a
code_of-same n a b clause e k d lt =
    let l = get_or a k d in
    let range = clause.in_range k d lt in
    digit_in-tells b l.variable l.positive (sym (code_of-digits n a b e l.variable range.0 range.1) ∙ digit_in-own a clause.apart k d lt)

code_of-nil : (n : ℕ) → code_of n [] ≡ 0
code_of-nil zero = refl
code_of-nil (suc n) = let rest = code_of-nil n in omega (arith, rest)

-- a clause with a literal has not the number 0
pub code_of-some : (n : ℕ) (a : List Literal) → IsClause n a → 0 < length a → code_of n a ≢ 0
code_of-some n a clause some e =
    let d : Literal = record { variable = 0; positive = true } in
    let none = code_of-same n a [] clause (e ∙ sym (code_of-nil n)) 0 d some in
    absurd (omega (arith, none.1))
