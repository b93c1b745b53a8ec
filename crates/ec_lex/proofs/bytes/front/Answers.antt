use Rattle.std.proofs.Common.{◌≡◌, length, true, false, ap, sym, arith}
use Rattle.std.proofs.lemmas.Bool.Decides.{nat_tests}
use Rattle.ec_lex.specs.Bytes.{is_upper, is_lower, is_digit}
use Rattle.ec_lex.proofs.Longest.{upper_at, lower_at, number_at, sign_at, none_at}
use Rattle.ec_lex.proofs.bytes.front.Goals as goal

pub overflow_add-result : goal.overflow_add-result
overflow_add-result c = omega (arith, c.word_len.ensures.within, ap length c.in_ok-first.ensures.cases.0)

pub overflow_add-result-then-is_ascii_lowercase : goal.overflow_add-result-then-is_ascii_lowercase
overflow_add-result-then-is_ascii_lowercase c = omega (arith, c.word_len-then-is_ascii_lowercase.ensures.within, ap length c.in_ok-first.ensures.cases.0)

pub overflow_add-result-then-is_ascii_digit : goal.overflow_add-result-then-is_ascii_digit
overflow_add-result-then-is_ascii_digit c = omega (arith, c.digits_len.ensures.within, ap length c.in_ok-first.ensures.cases.0)

pub returns-then-is_ascii_uppercase : goal.returns-then-is_ascii_uppercase
returns-then-is_ascii_uppercase c =
    let u : is_upper c.in_ok-first.first.now ≡ true = grind (arith, nat_tests, c.if-is_ascii_uppercase.true) in
    upper_at _ _ _ _ c.in_ok-first.ensures.cases.0 u c.word_len.ensures.value

pub returns-then-is_ascii_lowercase : goal.returns-then-is_ascii_lowercase
returns-then-is_ascii_lowercase c =
    let u : is_lower c.in_ok-first.first.now ≡ true = grind (arith, nat_tests, c.if-is_ascii_lowercase.true) in
    lower_at _ _ _ _ c.in_ok-first.ensures.cases.0 u c.word_len-then-is_ascii_lowercase.ensures.value

pub returns-then-is_ascii_digit : goal.returns-then-is_ascii_digit
returns-then-is_ascii_digit c =
    let u : is_digit c.in_ok-first.first.now ≡ true = grind (arith, nat_tests, c.if-is_ascii_digit.true) in
    number_at _ _ _ _ c.in_ok-first.ensures.cases.0 u c.digits_len.ensures.value

pub returns-in_ok-len : goal.returns-in_ok-len
returns-in_ok-len c =
    let u : is_upper c.in_ok-first.first.now ≡ false = grind (arith, nat_tests, c.if-is_ascii_uppercase.false) in
    let l : is_lower c.in_ok-first.first.now ≡ false = grind (arith, nat_tests, c.if-is_ascii_lowercase.false) in
    let d : is_digit c.in_ok-first.first.now ≡ false = grind (arith, nat_tests, c.if-is_ascii_digit.false) in
    sign_at _ _ _ _ c.in_ok-first.ensures.cases.0 u l d (sym c.in_ok-len.ensures)

pub returns-in_err-len : goal.returns-in_err-len
returns-in_err-len c =
    let u : is_upper c.in_ok-first.first.now ≡ false = grind (arith, nat_tests, c.if-is_ascii_uppercase.false) in
    let l : is_lower c.in_ok-first.first.now ≡ false = grind (arith, nat_tests, c.if-is_ascii_lowercase.false) in
    let d : is_digit c.in_ok-first.first.now ≡ false = grind (arith, nat_tests, c.if-is_ascii_digit.false) in
    rw c.from_residual-in_err-len.ensures (none_at _ _ _ c.in_ok-first.ensures.cases.0 u l d (sym c.in_err-len.ensures))
