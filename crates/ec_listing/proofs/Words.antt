-- The first line of a narrative and a list's last line: each is one line, and neither is the other or a line of a slot.
use Rattle.std.proofs.Common.{◌≡◌, ◌≢◌, ℕ, zero, suc, ◌<◌, ◌≤◌, ◌^◌, ◌/◌, ◌%◌, ◌==◌, ◌&&◌, Bool, true, false, not, List, [], ◌∷◌, ◌++◌, drop, get_or, refl, sym, ap, ◌∙◌, arith}
use Rattle.std.specs.Prelude.{codes, decimal, if◌then◌else◌}
use Rattle.std.specs.Fmt.{digits, digits_onto, digit_glyph}
use Rattle.std.proofs.lemmas.Fmt.{decimal_injective}
use Rattle.std.proofs.lemmas.Bool.{eq-eqb, false≢true}
use Rattle.std.proofs.lemmas.Bool.Decides.{nat_tests}
use Rattle.ec_logic.specs.Narrative.{line}
use Rattle.ec_logic.specs.Listing.{Ending, complete, models, conflicts, ending_text}
use Rattle.ec_listing.specs.Reading.{IsLineText, model_text, HasNumber, IsLast}
use Rattle.ec_listing.proofs.TextLines.{HasNoEnd, line_text, same_lines}
use Rattle.ec_listing.proofs.Stepping.{IsNoSlotLine}

-- ---- digits have no byte 10

no_end_append : (a b : List ℕ) → HasNoEnd a → HasNoEnd b → HasNoEnd (a ++ b)
no_end_append [] b h g = g
no_end_append (x ∷ a) b h g = (h.0, no_end_append a b h.1 g)

glyph_apart : (n : ℕ) → digit_glyph false (n % 10) ≢ 10
glyph_apart n is = grind (arith, nat_tests)

digits_end : (k n : ℕ) (acc : List ℕ) → HasNoEnd acc → HasNoEnd (digits_onto k 10 false n acc)
digits_end zero n acc h = h
digits_end (suc k) n acc h = either (n / 10 == 0) (digits_end k (n / 10) (digit_glyph false (n % 10) ∷ acc) (glyph_apart n, h))
  where
    either : (b : Bool) → HasNoEnd (digits_onto k 10 false (n / 10) (digit_glyph false (n % 10) ∷ acc)) → HasNoEnd (if b then digit_glyph false (n % 10) ∷ acc else digits_onto k 10 false (n / 10) (digit_glyph false (n % 10) ∷ acc))
    either true g = (glyph_apart n, h)
    either false g = g

decimal_end : (n : ℕ) → HasNoEnd (decimal n)
unfolding digits
decimal_end n = digits_end 64 n [] tt

-- bytes of words
abbrev are_far : List ℕ → Bool
are_far [] = true
are_far (b ∷ bytes) = not (b == 10) && are_far bytes

far_end : (bytes : List ℕ) → are_far bytes ≡ true → HasNoEnd bytes
far_end [] h = tt
far_end (b ∷ bytes) h = by_test (b == 10) refl h (far_end bytes)
  where
    apart : b == 10 ≡ false → b ≢ 10
    apart e is = let f : true ≡ false = sym (eq-eqb b 10 is) ∙ e in cc

    by_test : (test : Bool) → b == 10 ≡ test → not test && are_far bytes ≡ true → (are_far bytes ≡ true → HasNoEnd bytes) → HasNoEnd (b ∷ bytes)
    by_test true e h rest = absurd (false≢true h)
    by_test false e h rest = (apart e, rest h)

pub model_line : (n : ℕ) → IsLineText (model_text n)
model_line n = line_text (model_text n) (no_end_append (codes "model " ++ decimal n) (codes ":") (no_end_append (codes "model ") (decimal n) (far_end (codes "model ") refl) (decimal_end n)) (far_end (codes ":") refl))

pub ending_line : (e : Ending) → IsLineText (ending_text e)
ending_line (complete n) = line_text (codes "complete: " ++ decimal n) (no_end_append (codes "complete: ") (decimal n) (far_end (codes "complete: ") refl) (decimal_end n))
ending_line (models n) = line_text (codes "limit: models " ++ decimal n) (no_end_append (codes "limit: models ") (decimal n) (far_end (codes "limit: models ") refl) (decimal_end n))
ending_line (conflicts n) = line_text (codes "limit: conflicts " ++ decimal n) (no_end_append (codes "limit: conflicts ") (decimal n) (far_end (codes "limit: conflicts ") refl) (decimal_end n))

-- ---- none is another

small_first : (b : ℕ) (bytes : List ℕ) → 97 ≤ b → IsNoSlotLine (b ∷ bytes)
small_first b bytes high text more line_of is =
    let shown : (b ∷ bytes) ≡ line (line_of.first ∷ line_of.others) ++ more = is ∙ ap (λ t. line t ++ more) line_of.is in
    let e : b ≡ line_of.first = cc in
    omega (arith, high, e, line_of.not_small)

pub ending_no_slot : (e : Ending) (rest : List ℕ) → IsNoSlotLine (line (ending_text e) ++ rest)
ending_no_slot (complete n) rest = small_first 99 _ (omega arith)
ending_no_slot (models n) rest = small_first 108 _ (omega arith)
ending_no_slot (conflicts n) rest = small_first 108 _ (omega arith)

pub model_no_slot : (n : ℕ) (rest : List ℕ) → IsNoSlotLine (line (model_text n) ++ rest)
model_no_slot n rest = small_first 109 _ (omega arith)

pub ending_no_model : (e : Ending) (n : ℕ) (rest more : List ℕ) → line (ending_text e) ++ rest ≡ line (model_text n) ++ more → ⊥
ending_no_model (complete m) n rest more is = let at : 99 ≡ 109 = ap (λ (bytes : List ℕ). get_or bytes 0 0) is in absurd (omega (arith, at))
ending_no_model (models m) n rest more is = let at : 108 ≡ 109 = ap (λ (bytes : List ℕ). get_or bytes 0 0) is in absurd (omega (arith, at))
ending_no_model (conflicts m) n rest more is = let at : 108 ≡ 109 = ap (λ (bytes : List ℕ). get_or bytes 0 0) is in absurd (omega (arith, at))

-- the number of an ending fits
abbrev pub IsSmall : Ending → Type 0
IsSmall (complete n) = n < 2 ^ 64
IsSmall (models n) = n < 2 ^ 64
IsSmall (conflicts n) = n < 2 ^ 64

pub small_number : (count : ℕ) (e : Ending) → HasNumber count e → IsSmall e
small_number count (complete n) h = h.1
small_number count (models n) h = h.2
small_number count (conflicts n) h = h.1

pub ending_injective : (d e : Ending) → IsSmall d → IsSmall e → ending_text d ≡ ending_text e → d ≡ e
ending_injective (complete m) (complete n) h g is = let number : decimal m ≡ decimal n = ap (λ (bytes : List ℕ). drop 10 bytes) is in ap complete (decimal_injective m n h g number)
ending_injective (complete m) (models n) h g is = let at : 99 ≡ 108 = ap (λ (bytes : List ℕ). get_or bytes 0 0) is in absurd (omega (arith, at))
ending_injective (complete m) (conflicts n) h g is = let at : 99 ≡ 108 = ap (λ (bytes : List ℕ). get_or bytes 0 0) is in absurd (omega (arith, at))
ending_injective (models m) (complete n) h g is = let at : 108 ≡ 99 = ap (λ (bytes : List ℕ). get_or bytes 0 0) is in absurd (omega (arith, at))
ending_injective (models m) (models n) h g is = let number : decimal m ≡ decimal n = ap (λ (bytes : List ℕ). drop 14 bytes) is in ap models (decimal_injective m n h g number)
ending_injective (models m) (conflicts n) h g is = let at : 109 ≡ 99 = ap (λ (bytes : List ℕ). get_or bytes 7 0) is in absurd (omega (arith, at))
ending_injective (conflicts m) (complete n) h g is = let at : 108 ≡ 99 = ap (λ (bytes : List ℕ). get_or bytes 0 0) is in absurd (omega (arith, at))
ending_injective (conflicts m) (models n) h g is = let at : 99 ≡ 109 = ap (λ (bytes : List ℕ). get_or bytes 7 0) is in absurd (omega (arith, at))
ending_injective (conflicts m) (conflicts n) h g is = let number : decimal m ≡ decimal n = ap (λ (bytes : List ℕ). drop 17 bytes) is in ap conflicts (decimal_injective m n h g number)

-- bytes have one last line at most at their head
pub one_last : (count : ℕ) (bytes : List ℕ) (d e : Ending) (r s : List ℕ) → IsLast count bytes d r → IsLast count bytes e s → (d ≡ e) × (r ≡ s)
one_last count bytes d e r s h g =
    let same = same_lines (ending_text d) (ending_text e) r s (ending_line d) (ending_line e) (sym h.is ∙ g.is) in
    (ending_injective d e (small_number count d h.number) (small_number count e g.number) same.0, same.1)
