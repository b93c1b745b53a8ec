-- Words that are those of no ending.
use Rattle.std.proofs.Common.{◌≡◌, ◌≢◌, ℕ, List, ◌++◌, drop, ap, arith, get_or}
use Rattle.std.specs.Prelude.{decimal, codes}
use Rattle.std.proofs.lemmas.Fmt.{decimal_injective}
use Rattle.ec_clause.specs.declared.ending.Ending.{Ending}
use Rattle.ec_clause.specs.declared.ending.Ending.TheVariants.{Complete, Models, Conflicts}
use Rattle.ec_log.specs.Ending.{ending_text, IsEnding}

-- a text that begins with none of the three is no ending
pub no_ending : (text : List ℕ) → ((rest : List ℕ) → text ≢ codes "complete: " ++ rest) → ((rest : List ℕ) → text ≢ codes "limit: models " ++ rest) → ((rest : List ℕ) → text ≢ codes "limit: conflicts " ++ rest) → (e : Ending) → IsEnding e → text ≢ ending_text e
no_ending text complete models conflicts (Complete n) fits is = complete (decimal n) is
no_ending text complete models conflicts (Models n) fits is = models (decimal n) is
no_ending text complete models conflicts (Conflicts n) fits is = conflicts (decimal n) is

-- no two endings have the same words
pub ending_injective : (d e : Ending) → IsEnding d → IsEnding e → ending_text d ≡ ending_text e → d ≡ e
ending_injective (Complete m) (Complete n) h g is =
    let digits : decimal m ≡ decimal n = ap (λ (bytes : List ℕ). drop 10 bytes) is in
    let same : m ≡ n = decimal_injective m n h g digits in
    ap Complete same
ending_injective (Complete m) (Models n) h g is =
    let at : 99 ≡ 108 = ap (λ (bytes : List ℕ). get_or bytes 0 0) is in
    absurd (omega (arith, at))
ending_injective (Complete m) (Conflicts n) h g is =
    let at : 99 ≡ 108 = ap (λ (bytes : List ℕ). get_or bytes 0 0) is in
    absurd (omega (arith, at))
ending_injective (Models m) (Complete n) h g is =
    let at : 108 ≡ 99 = ap (λ (bytes : List ℕ). get_or bytes 0 0) is in
    absurd (omega (arith, at))
ending_injective (Models m) (Models n) h g is =
    let digits : decimal m ≡ decimal n = ap (λ (bytes : List ℕ). drop 14 bytes) is in
    let same : m ≡ n = decimal_injective m n h.1 g.1 digits in
    ap Models same
ending_injective (Models m) (Conflicts n) h g is =
    let at : 109 ≡ 99 = ap (λ (bytes : List ℕ). get_or bytes 7 0) is in
    absurd (omega (arith, at))
ending_injective (Conflicts m) (Complete n) h g is =
    let at : 108 ≡ 99 = ap (λ (bytes : List ℕ). get_or bytes 0 0) is in
    absurd (omega (arith, at))
ending_injective (Conflicts m) (Models n) h g is =
    let at : 99 ≡ 109 = ap (λ (bytes : List ℕ). get_or bytes 7 0) is in
    absurd (omega (arith, at))
ending_injective (Conflicts m) (Conflicts n) h g is =
    let digits : decimal m ≡ decimal n = ap (λ (bytes : List ℕ). drop 17 bytes) is in
    let same : m ≡ n = decimal_injective m n h.1 g.1 digits in
    ap Conflicts same
