-- The mark of a decimal is its number.
use Rattle.std.proofs.Common.{◌≡◌, ℕ, ◌≤◌, ◌+◌, ◌-◌, ◌*◌, true, List, refl, ap, arith, rules, ◌∙◌, if◌then◌else◌, Some, None, nat_le}
use Rattle.std.specs.Fmt.{decimal}
use Rattle.std.specs.List.{fold}
use Rattle.std.specs.Str.{all_ascii_digits}
use Rattle.std.proofs.lemmas.Str.Parse.{IsNumeralModel, FoldsDigits, numerals_by_fold, tells_all_ascii_digits}
use Rattle.std.proofs.lemmas.Fmt.{digits_value-decimal}
use Rattle.ec_lex.specs.declared.token.Kind.TheVariants as kind
use Rattle.ec_lex.specs.Bytes.{value}
use Rattle.ec_parse.specs.Mark.{Mark, mark_by, number_or_other}
use Rattle.ec_parse.specs.Mark as m

-- the number of digits that follow those of another
abbrev value_behind : ℕ → List ℕ → ℕ
value_behind n ds = fold (λ a d. 10 * a + (d - 48)) n ds

folds_digits : FoldsDigits value_behind
folds_digits = record { empty = λ n. refl; more = λ n c cs k. ap (λ a. value_behind a cs) (omega arith) }

numerals : IsNumeralModel (λ ds. all_ascii_digits ds ≡ true) (value_behind 0)
numerals = numerals_by_fold _ tells_all_ascii_digits value_behind folds_digits

value_decimal : (n : ℕ) → n ≤ 1000000000 → value (decimal n) ≡ n
value_decimal n few = digits_value-decimal numerals n (omega arith)

small_number : (n : ℕ) → n ≤ 1000000000 → number_or_other (if nat_le n 1000000000 then Some n else None) ≡ m.number n
small_number n few = search rules

pub number_mark : (n : ℕ) → n ≤ 1000000000 → mark_by kind.Number (decimal n) ≡ m.number n
number_mark n few = ap (λ v. number_or_other (if nat_le v 1000000000 then Some v else None)) (value_decimal n few) ∙ small_number n few
