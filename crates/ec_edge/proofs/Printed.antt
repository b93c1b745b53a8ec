-- A number that was printed is read again.
use Rattle.std.proofs.Common.{◌≡◌, ℕ, ◌^◌, ◌<◌, Bool, true, false, List, Result, Ok, Err, sym, subst, ◌∙◌, ap}
use Rattle.std.specs.Prelude.{decimal}
use Rattle.std.specs.Str.{IsUtf8, bytes_eq}
use Rattle.std.specs.Str.Parse.{ParsesUnsigned}
use Rattle.std.proofs.lemmas.Fmt.{IsAscii-decimal, parse-decimal}
use Rattle.std.proofs.lemmas.Slice.Eq.{bytes_eq-Decides}
use Rattle.std.proofs.lemmas.Str.{IsUtf8-from_ascii}

-- the two answers of a parse
abbrev refused : Result ℕ (Unit {0})
refused = Err tt

abbrev accepted : ℕ → Result ℕ (Unit {0})
accepted n = Ok n

-- digits are text
pub digits_are_text : (text : List ℕ) (n : ℕ) → n < 2 ^ 64 → text ≡ decimal n → IsUtf8 text
digits_are_text text n small is = subst IsUtf8 (sym is) (IsUtf8-from_ascii (decimal n) (IsAscii-decimal n small))

-- they parse
pub digits_parse : (text digits : List ℕ) (n : ℕ) → n < 2 ^ 64 → text ≡ decimal n → digits ≡ text → ParsesUnsigned {E = Unit {0}} 64 10 digits (Err tt) → ⊥
digits_parse text digits n small is same parsed =
    let r : refused ≡ Ok n = parse-decimal 64 n digits refused small small (same ∙ is) parsed in
    cc

-- and they print back as they stood
pub digits_print_back : (text digits printed : List ℕ) (n read : ℕ) (eq : Bool) → n < 2 ^ 64 → text ≡ decimal n → digits ≡ text → ParsesUnsigned {E = Unit {0}} 64 10 digits (Ok read) → printed ≡ decimal read → eq ≡ bytes_eq printed text → eq ≡ false → ⊥
digits_print_back text digits printed n read eq small is same parsed prints told differs =
    let r : accepted read ≡ Ok n = parse-decimal 64 n digits (accepted read) small small (same ∙ is) parsed in
    let reads : read ≡ n = cc in
    let equal : bytes_eq printed text ≡ true = (bytes_eq-Decides printed text).1 (prints ∙ ap decimal reads ∙ sym is) in
    let clash : true ≡ false = sym equal ∙ sym told ∙ differs in
    cc
