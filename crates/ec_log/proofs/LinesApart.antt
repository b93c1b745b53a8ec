-- Which line a text behind a first word can be, and that no two lines have the same bytes.
use Rattle.std.proofs.Common.{◌≡◌, ◌≢◌, ℕ, ◌<◌, ◌≤◌, ◌^◌, List, [], ◌∷◌, ◌++◌, Some, None, Err, drop, refl, sym, ap, ◌∙◌, arith, get_or, append_assoc}
use Rattle.std.specs.Prelude.{decimal, codes}
use Rattle.std.specs.List.{flat_map, AllByRecursion}
use Rattle.ec_clause.specs.Literal.{Literal}
use Rattle.ec_edge.specs.Lines.{cut_at}
use Rattle.ec_edge.proofs.Cuts.{cut_at-append}
use Rattle.ec_log.specs.Line.{LogLine, Header, Derived, Blocked, End, spelled, literal_text, literal_word, number_word, IsLine, IsLit, IsHint}
use Rattle.ec_log.specs.Reading.{IsRead}
use Rattle.ec_log.specs.declared.line.LineFault.{LineFault}
use Rattle.ec_log.specs.declared.line.LineFault.TheVariants as fault
use Rattle.ec_log.proofs.Texts.{NoBlank-decimal, NoBlank-literal, NoBlank-hint, not_zero-literal, not_zero-hint, literal_injective, hint_injective, count_injective}
use Rattle.ec_log.proofs.Words.{parts, spaced_then, spaced_apart}
use Rattle.ec_log.proofs.EndingWords.{ending_injective}

-- two different bytes at one place
clash : (place a b : ℕ) (x y : List ℕ) → x ≡ y → get_or x place 0 ≡ a → get_or y place 0 ≡ b → a ≢ b → ⊥
clash place a b x y is at_x at_y other = other (sym at_x ∙ ap (λ (bytes : List ℕ). get_or bytes place 0) is ∙ at_y)

-- the text behind `log 1 ` of a header
abbrev HeaderText : List ℕ → Type 0
HeaderText text = (v c : ℕ) × (v < 2 ^ 32) × (c < 2 ^ 32) × (text ≡ decimal v ++ 32 ∷ decimal c)

header_is : (text : List ℕ) (line : LogLine) → IsLine line → codes "log 1 " ++ text ≡ spelled line → HeaderText text
header_is text (Header v c) fits is = (v, c, fits.0, fits.1, ap (λ (bytes : List ℕ). drop 6 bytes) is ∙ append_assoc (decimal v) (codes " ") (decimal c))
header_is text (Derived lits hints) fits is = absurd (clash 0 108 100 _ _ is refl refl (λ e. omega (arith, e)))
header_is text (Blocked digits) fits is = absurd (clash 0 108 98 _ _ is refl refl (λ e. omega (arith, e)))
header_is text (End ending) fits is = absurd (clash 0 108 101 _ _ is refl refl (λ e. omega (arith, e)))

header_cut : (text : List ℕ) (h : HeaderText text) → cut_at 32 text ≡ Some (parts (decimal h.0) (decimal h.1))
header_cut text h = ap (λ (bytes : List ℕ). cut_at 32 bytes) h.4 ∙ cut_at-append 32 (decimal h.0) (decimal h.1) (NoBlank-decimal h.0 (omega (arith, h.2)))

-- a text without a blank is no header's
pub no_header-uncut : (text : List ℕ) → None ≡ cut_at 32 text → (line : LogLine) → IsLine line → codes "log 1 " ++ text ≢ spelled line
no_header-uncut text none line fits is =
    let h = header_is text line fits is in
    let same : None ≡ Some (parts (decimal h.0) (decimal h.1)) = none ∙ header_cut text h in
    cc

header_parts : (text vs cs : List ℕ) → Some (parts vs cs) ≡ cut_at 32 text → (h : HeaderText text) → parts vs cs ≡ parts (decimal h.0) (decimal h.1)
header_parts text vs cs cut h =
    let same : Some (parts vs cs) ≡ Some (parts (decimal h.0) (decimal h.1)) = cut ∙ header_cut text h in
    cc

-- nor one whose first part is no number
pub no_header-variables : (text vs cs : List ℕ) → Some (parts vs cs) ≡ cut_at 32 text → ((n : ℕ) → 0 ≤ n → n ≤ 4294967295 → vs ≢ decimal n) → (line : LogLine) → IsLine line → codes "log 1 " ++ text ≢ spelled line
no_header-variables text vs cs cut none line fits is =
    let h = header_is text line fits is in
    none h.0 (omega arith) (omega (arith, h.2)) (ap (λ (p : List ℕ × List ℕ). p.0) (header_parts text vs cs cut h))

-- nor one whose second part is no number
pub no_header-clauses : (text vs cs : List ℕ) → Some (parts vs cs) ≡ cut_at 32 text → ((n : ℕ) → 0 ≤ n → n ≤ 4294967295 → cs ≢ decimal n) → (line : LogLine) → IsLine line → codes "log 1 " ++ text ≢ spelled line
no_header-clauses text vs cs cut none line fits is =
    let h = header_is text line fits is in
    none h.1 (omega arith) (omega (arith, h.3)) (ap (λ (p : List ℕ × List ℕ). p.1) (header_parts text vs cs cut h))

-- the text behind `d ` of a derived line
abbrev derived_text : List Literal → List ℕ → List ℕ
derived_text lits hints = flat_map literal_word lits ++ (48 ∷ 32 ∷ (flat_map number_word hints ++ codes "0"))

regrouped : (lits : List Literal) (hints : List ℕ) → flat_map literal_word lits ++ codes "0 " ++ flat_map number_word hints ++ codes "0" ≡ derived_text lits hints
regrouped lits hints = simp append_assoc

derived_is : (text : List ℕ) (line : LogLine) → IsLine line → codes "d " ++ text ≡ spelled line → (lits : List Literal) × (hints : List ℕ) × AllByRecursion IsLit lits × AllByRecursion IsHint hints × (text ≡ derived_text lits hints)
derived_is text (Header v c) fits is = absurd (clash 0 100 108 _ _ is refl refl (λ e. omega (arith, e)))
derived_is text (Derived lits hints) fits is = (lits, hints, fits.0, fits.1, ap (λ (bytes : List ℕ). drop 2 bytes) is ∙ regrouped lits hints)
derived_is text (Blocked digits) fits is = absurd (clash 0 100 98 _ _ is refl refl (λ e. omega (arith, e)))
derived_is text (End ending) fits is = absurd (clash 0 100 101 _ _ is refl refl (λ e. omega (arith, e)))

-- where literals were read and no hints behind them, there is no line
pub no_derived : (e : LineFault) (text rest : List ℕ) (lits : List Literal) → AllByRecursion IsLit lits → text ≡ flat_map literal_word lits ++ codes "0 " ++ rest
    → (e ≡ fault.Form → (hints : List ℕ) → AllByRecursion IsHint hints → rest ≢ flat_map number_word hints ++ codes "0") → IsRead (codes "d " ++ text) (Err e)
no_derived fault.Form text rest lits all is none = λ line fits spells.
    let d = derived_is text line fits spells in
    let same : flat_map literal_word lits ++ (48 ∷ 32 ∷ rest) ≡ derived_text d.0 d.1 = sym (append_assoc (flat_map literal_word lits) (codes "0 ") rest) ∙ sym is ∙ d.4 in
    let apart = spaced_apart literal_text IsLit NoBlank-literal not_zero-literal literal_injective lits d.0 rest (flat_map number_word d.1 ++ codes "0") all d.2 same in
    none refl d.1 d.3 apart.1
no_derived fault.Memory text rest lits all is none = tt

header_injective : (v c w d : ℕ) → v < 2 ^ 32 → c < 2 ^ 32 → w < 2 ^ 32 → d < 2 ^ 32 → codes "log 1 " ++ decimal v ++ codes " " ++ decimal c ≡ codes "log 1 " ++ decimal w ++ codes " " ++ decimal d → (v ≡ w) × (c ≡ d)
header_injective v c w d small_v small_c small_w small_d is =
    let left : HeaderText (decimal v ++ 32 ∷ decimal c) = (v, c, small_v, small_c, refl) in
    let tails : decimal v ++ 32 ∷ decimal c ≡ decimal w ++ 32 ∷ decimal d =
    sym (append_assoc (decimal v) (codes " ") (decimal c)) ∙ ap (λ (bytes : List ℕ). drop 6 bytes) is ∙ append_assoc (decimal w) (codes " ") (decimal d) in
    let right : HeaderText (decimal v ++ 32 ∷ decimal c) = (w, d, small_w, small_d, tails) in
    let pair = header_parts _ (decimal v) (decimal c) (sym (header_cut _ left)) right in
    (count_injective v w small_v small_w (ap (λ (p : List ℕ × List ℕ). p.0) pair), count_injective c d small_c small_d (ap (λ (p : List ℕ × List ℕ). p.1) pair))

hints_injective : (hints others : List ℕ) → AllByRecursion IsHint hints → AllByRecursion IsHint others → flat_map number_word hints ++ codes "0" ≡ flat_map number_word others ++ codes "0" → hints ≡ others
hints_injective hints others all every is =
    let more : spaced_then decimal hints (48 ∷ 32 ∷ []) ≡ spaced_then decimal others (48 ∷ 32 ∷ []) =
    sym (append_assoc (flat_map number_word hints) (codes "0") (codes " ")) ∙ ap (λ (bytes : List ℕ). bytes ++ codes " ") is ∙ append_assoc (flat_map number_word others) (codes "0") (codes " ") in
    (spaced_apart decimal IsHint NoBlank-hint not_zero-hint hint_injective hints others [] [] all every more).0

derived_injective : (lits : List Literal) (hints : List ℕ) (others : List Literal) (more : List ℕ) → AllByRecursion IsLit lits → AllByRecursion IsHint hints → AllByRecursion IsLit others → AllByRecursion IsHint more
    → spelled (Derived lits hints) ≡ spelled (Derived others more) → (lits ≡ others) × (hints ≡ more)
derived_injective lits hints others more all_lits all_hints all_others all_more is =
    let tails : derived_text lits hints ≡ derived_text others more = sym (regrouped lits hints) ∙ ap (λ (bytes : List ℕ). drop 2 bytes) is ∙ regrouped others more in
    let apart = spaced_apart literal_text IsLit NoBlank-literal not_zero-literal literal_injective lits others _ _ all_lits all_others tails in
    (apart.0, hints_injective hints more all_hints all_more apart.1)

-- no two lines have the same bytes
pub spelled_injective : (a b : LogLine) → IsLine a → IsLine b → spelled a ≡ spelled b → a ≡ b
spelled_injective (Header v c) (Header w d) h g is =
    let same = header_injective v c w d h.0 h.1 g.0 g.1 is in
    ap (λ n. Header n c) same.0 ∙ ap (λ n. Header w n) same.1
spelled_injective (Derived lits hints) (Derived others more) h g is =
    let same = derived_injective lits hints others more h.0 h.1 g.0 g.1 is in
    ap (λ ls. Derived ls hints) same.0 ∙ ap (λ hs. Derived others hs) same.1
spelled_injective (Blocked digits) (Blocked others) h g is = ap (λ ds. Blocked ds) (ap (λ (bytes : List ℕ). drop 2 bytes) is)
spelled_injective (End ending) (End other) h g is = ap (λ e. End e) (ending_injective ending other h g (ap (λ (bytes : List ℕ). drop 4 bytes) is))
spelled_injective (Header v c) (Derived others more) h g is = absurd (clash 0 108 100 _ _ is refl refl (λ e. omega (arith, e)))
spelled_injective (Header v c) (Blocked others) h g is = absurd (clash 0 108 98 _ _ is refl refl (λ e. omega (arith, e)))
spelled_injective (Header v c) (End other) h g is = absurd (clash 0 108 101 _ _ is refl refl (λ e. omega (arith, e)))
spelled_injective (Derived lits hints) (Header w d) h g is = absurd (clash 0 100 108 _ _ is refl refl (λ e. omega (arith, e)))
spelled_injective (Derived lits hints) (Blocked others) h g is = absurd (clash 0 100 98 _ _ is refl refl (λ e. omega (arith, e)))
spelled_injective (Derived lits hints) (End other) h g is = absurd (clash 0 100 101 _ _ is refl refl (λ e. omega (arith, e)))
spelled_injective (Blocked digits) (Header w d) h g is = absurd (clash 0 98 108 _ _ is refl refl (λ e. omega (arith, e)))
spelled_injective (Blocked digits) (Derived others more) h g is = absurd (clash 0 98 100 _ _ is refl refl (λ e. omega (arith, e)))
spelled_injective (Blocked digits) (End other) h g is = absurd (clash 0 98 101 _ _ is refl refl (λ e. omega (arith, e)))
spelled_injective (End ending) (Header w d) h g is = absurd (clash 0 101 108 _ _ is refl refl (λ e. omega (arith, e)))
spelled_injective (End ending) (Derived others more) h g is = absurd (clash 0 101 100 _ _ is refl refl (λ e. omega (arith, e)))
spelled_injective (End ending) (Blocked others) h g is = absurd (clash 0 101 98 _ _ is refl refl (λ e. omega (arith, e)))
