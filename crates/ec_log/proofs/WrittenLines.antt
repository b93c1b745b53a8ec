-- The lines that a writer writes are lines of a log.
use Rattle.std.proofs.Common.{◌≡◌, ℕ, suc, ◌+◌, ◌<◌, ◌≤◌, ◌^◌, Bool, true, false, List, [], ◌∷◌, ◌++◌, map, length, get_or, nat_lt, subst, below_more, arith, inl, inr, refl}
use Rattle.std.specs.Prelude.{All}
use Rattle.std.specs.List.{AllByRecursion}
use Rattle.std.proofs.lemmas.Bool.{ltb-true, ltb-false}
use Rattle.std.proofs.lemmas.List.{get_or_read}
use Rattle.std.proofs.lemmas.List.Elements.{All-map}
use Rattle.ec_clause.specs.Note.{Note}
use Rattle.ec_clause.specs.Note as note
use Rattle.ec_clause.specs.Ending.{number_of}
use Rattle.ec_clause.specs.declared.ending.Ending.{Ending}
use Rattle.ec_clause.specs.declared.ending.Ending.TheVariants.{Complete, Models, Conflicts}
use Rattle.ec_log.specs.Digits.{bit, hex_digit, digit_of, digits_of, IsHexDigit}
use Rattle.ec_log.specs.Ending.{IsEnding}
use Rattle.ec_log.specs.Kept.{note_of}
use Rattle.ec_log.specs.declared.kept.Kept.{Kept}
use Rattle.ec_log.specs.Line.{LogLine, End, IsLit, IsHint, IsLine}
use Rattle.ec_log.specs.Log.{Log, noted, log_lines, IsNote, HasLimit, HasRange, HasRanges}

-- of each element by its place, so of each in turn
each : {X : Type 0} (P : X → Type 0) (xs : List X) → All P xs → AllByRecursion P xs
each P [] all = tt
each P (x ∷ xs) all = (all 0 x (omega arith), each P xs (λ k d within. all (suc k) d (omega arith)))

IsHexDigit-below : (n : ℕ) (small : Bool) → nat_lt n 10 ≡ small → n < 16 → IsHexDigit (hex_digit n)
IsHexDigit-below n true is below =
    let low : n < 10 = ltb-true n 10 is in
    rw is (inl (omega arith, omega arith))
IsHexDigit-below n false is below =
    let high : 10 ≤ n = ltb-false n 10 is in
    rw is (inr (omega arith, omega arith))

bit-small : (b : Bool) → bit b ≤ 1
bit-small true = omega arith
bit-small false = omega arith

IsHexDigit-digit_of : (a b c d : Bool) → IsHexDigit (digit_of a b c d)
IsHexDigit-digit_of a b c d = IsHexDigit-below _ _ refl (omega (arith, bit-small a, bit-small b, bit-small c, bit-small d))

IsHexDigit-digits_of : (bits : List Bool) → AllByRecursion IsHexDigit (digits_of bits)
IsHexDigit-digits_of [] = tt
IsHexDigit-digits_of (a ∷ []) = (IsHexDigit-digit_of a false false false, tt)
IsHexDigit-digits_of (a ∷ b ∷ []) = (IsHexDigit-digit_of a b false false, tt)
IsHexDigit-digits_of (a ∷ b ∷ c ∷ []) = (IsHexDigit-digit_of a b c false, tt)
IsHexDigit-digits_of (a ∷ b ∷ c ∷ d ∷ bits) = (IsHexDigit-digit_of a b c d, IsHexDigit-digits_of bits)

-- a note more has the ranges of its parts
pub ranges_more : (notes : List Kept) (i : ℕ) (item : Kept) → i < length notes → item ≡ get_or notes i item → ((k : ℕ) (d : Kept) → k < i → HasRange (note_of (get_or notes k d))) → HasRange (note_of item) → (k : ℕ) (d : Kept) → k < i + 1 → HasRange (note_of (get_or notes k d))
ranges_more notes i item within is before range = λ k d below.
    below_more (λ (n : ℕ). HasRange (note_of (get_or notes n d))) i (λ n small. before n d small) (subst (λ (x : Kept). HasRange (note_of x)) (get_or_read notes i item within is d) range) k below

-- so all notes have them
pub all_ranges : (notes : List Kept) (i : ℕ) → length notes ≤ i → ((k : ℕ) (d : Kept) → k < i → HasRange (note_of (get_or notes k d))) → All HasRange (map note_of notes)
all_ranges notes i whole ranges = All-map HasRange note_of notes (λ k d within. ranges k d (omega arith))

IsLine-noted : (n : Note) → IsNote n → HasRange n → IsLine (noted n)
IsLine-noted (note.Derived lits hints) is range = (each IsLit lits range.0, each IsHint hints (λ k d within. (is k d within, range.1 k d within)))
IsLine-noted (note.Blocked lits) is range = IsHexDigit-digits_of _

lines_of_notes : (notes : List Note) (end : LogLine) → AllByRecursion IsNote notes → AllByRecursion HasRange notes → IsLine end → AllByRecursion IsLine (map noted notes ++ end ∷ [])
lines_of_notes [] end are ranges is = (is, tt)
lines_of_notes (n ∷ notes) end are ranges is = (IsLine-noted n are.0 ranges.0, lines_of_notes notes end are.1 ranges.1 is)

IsEnding-from : (e : Ending) → HasLimit e → number_of e < 2 ^ 64 → IsEnding e
IsEnding-from (Complete n) limit small = small
IsEnding-from (Models n) limit small = (limit, small)
IsEnding-from (Conflicts n) limit small = (limit, small)

pub written_lines : (log : Log) (ending : Ending) → All IsNote log.notes → HasLimit ending → HasRanges log ending → AllByRecursion IsLine (log_lines log ending)
written_lines log ending are limit ranges =
    ((ranges.variables, ranges.clauses), lines_of_notes log.notes (End ending) (each IsNote log.notes are) (each HasRange log.notes ranges.notes) (IsEnding-from ending limit ranges.number))
