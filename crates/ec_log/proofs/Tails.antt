-- What stands behind the literals, and behind the hints, of a derived line.
use Rattle.std.proofs.Common.{◌≡◌, ◌≢◌, ℕ, Bool, true, false, not, List, [], ◌∷◌, ◌++◌, Some, None, refl, sym, ap, subst, ◌∙◌, append_assoc}
use Rattle.std.specs.Prelude.{decimal, codes}
use Rattle.std.specs.List.{flat_map, AllByRecursion}
use Rattle.std.specs.Str.{bytes_eq}
use Rattle.std.proofs.lemmas.Grind.{flat_map-append}
use Rattle.std.proofs.lemmas.Slice.Eq.{bytes_eq-Decides}
use Rattle.ec_clause.specs.Literal.{Literal}
use Rattle.ec_edge.specs.Lines.{cut_at}
use Rattle.ec_log.specs.Line.{literal_text, literal_word, number_word, IsLit, IsHint}
use Rattle.ec_log.proofs.Texts.{NoBlank-literal, NoBlank-hint}
use Rattle.ec_log.proofs.Words.{spaced, parts, CanRead, ReadsOn, CanRead-on, CanRead-end}

-- the digit 0, a blank and more
abbrev pub EndsLiterals : List ℕ → Type 0
EndsLiterals tail = (rest : List ℕ) × (tail ≡ codes "0 " ++ rest)

-- the digit 0 alone
abbrev pub EndsHints : List ℕ → Type 0
EndsHints tail = tail ≡ codes "0"

-- a word that is not the digit 0 is the first literal, and the rest can be read on
pub literals_on : (text word after : List ℕ) → cut_at 32 text ≡ Some (parts word after) → word ≢ codes "0" → CanRead literal_text IsLit EndsLiterals text → ReadsOn literal_text IsLit EndsLiterals word after
literals_on text word after cut other can = CanRead-on literal_text IsLit EndsLiterals NoBlank-literal text word after cut (λ tail end at.
    let same : Some (parts (codes "0") end.0) ≡ Some (parts word after) = sym (ap (λ (bytes : List ℕ). cut_at 32 bytes) end.1) ∙ at in
    let pair : parts (codes "0") end.0 ≡ parts word after = cc in
    other (sym (ap (λ (p : List ℕ × List ℕ). p.0) pair))) can

-- literals and the digit 0 behind them have a blank in them
pub literals_cut : (text : List ℕ) → cut_at 32 text ≡ None → CanRead literal_text IsLit EndsLiterals text → ⊥
literals_cut text none can =
    let end = CanRead-end literal_text IsLit EndsLiterals NoBlank-literal text none can in
    let same : Some (parts (codes "0") end.0) ≡ None = sym (ap (λ (bytes : List ℕ). cut_at 32 bytes) end.1) ∙ none in
    cc

-- the same of hints
pub hints_on : (text word after : List ℕ) → cut_at 32 text ≡ Some (parts word after) → CanRead decimal IsHint EndsHints text → ReadsOn decimal IsHint EndsHints word after
hints_on text word after cut can = CanRead-on decimal IsHint EndsHints NoBlank-hint text word after cut (λ tail end at.
    let same : None ≡ Some (parts word after) = sym (ap (λ (bytes : List ℕ). cut_at 32 bytes) end) ∙ at in
    cc) can

pub hints_end : (text : List ℕ) → cut_at 32 text ≡ None → CanRead decimal IsHint EndsHints text → text ≡ codes "0"
hints_end text none can = CanRead-end decimal IsHint EndsHints NoBlank-hint text none can

-- what a clause says of the text, as what can be read
pub can_literals : (text : List ℕ) (more : List Literal) (rest : List ℕ) → AllByRecursion IsLit more → text ≡ flat_map literal_word more ++ codes "0 " ++ rest → CanRead literal_text IsLit EndsLiterals text
can_literals text more rest all is = (more, codes "0 " ++ rest, all, (rest, refl), is ∙ append_assoc (flat_map literal_word more) (codes "0 ") rest)

pub can_hints : (text : List ℕ) (hints : List ℕ) → AllByRecursion IsHint hints → text ≡ flat_map number_word hints ++ codes "0" → CanRead decimal IsHint EndsHints text
can_hints text hints all is = (hints, codes "0", all, refl, is)

-- what a test of a word against the digit 0 has told
pub not_equal : (word zero : List ℕ) (equal : Bool) → zero ≡ codes "0" → equal ≡ bytes_eq word zero → equal ≡ false → word ≢ codes "0"
not_equal word zero equal zero_is told differs is =
    let same : bytes_eq word zero ≡ true = (bytes_eq-Decides word zero).1 (is ∙ sym zero_is) in
    let clash : true ≡ false = sym same ∙ sym told ∙ differs in
    cc

pub is_other : (word zero : List ℕ) (other : Bool) → zero ≡ codes "0" → other ≡ not (bytes_eq word zero) → other ≡ true → word ≢ codes "0"
is_other word zero other zero_is told differs is =
    let same : bytes_eq word zero ≡ true = (bytes_eq-Decides word zero).1 (is ∙ sym zero_is) in
    let clash : false ≡ true = sym (ap not same) ∙ sym told ∙ differs in
    cc

pub is_equal : (word zero : List ℕ) (equal : Bool) → zero ≡ codes "0" → equal ≡ bytes_eq word zero → equal ≡ true → word ≡ codes "0"
is_equal word zero equal zero_is told same = (bytes_eq-Decides word zero).0 (sym told ∙ same) ∙ zero_is

-- one more word was read
words_more : {X : Type 0} (word : X → List ℕ) (start rest front after : List ℕ) (xs new : List X) (x : X) → start ≡ flat_map (spaced word) xs ++ rest → rest ≡ front ++ 32 ∷ after → front ≡ word x → new ≡ xs ++ x ∷ [] → start ≡ flat_map (spaced word) new ++ after
words_more word start rest front after xs new x before cut is pushed =
    let step : flat_map (spaced word) (x ∷ []) ++ after ≡ word x ++ 32 ∷ after = simp append_assoc in
    let all : flat_map (spaced word) (xs ++ x ∷ []) ++ after ≡ flat_map (spaced word) xs ++ (flat_map (spaced word) (x ∷ []) ++ after) = ap (λ (bytes : List ℕ). bytes ++ after) (flat_map-append (spaced word) xs (x ∷ [])) ∙ append_assoc (flat_map (spaced word) xs) (flat_map (spaced word) (x ∷ [])) after in
    before ∙ ap (λ (bytes : List ℕ). flat_map (spaced word) xs ++ bytes) (cut ∙ ap (λ (bytes : List ℕ). bytes ++ 32 ∷ after) is ∙ sym step) ∙ sym all ∙ ap (λ ys. flat_map (spaced word) ys ++ after) (sym pushed)

pub literals_more : (start rest front after : List ℕ) (xs new : List Literal) (x : Literal) → start ≡ flat_map literal_word xs ++ rest → rest ≡ front ++ 32 ∷ after → front ≡ literal_text x → new ≡ xs ++ x ∷ [] → start ≡ flat_map literal_word new ++ after
literals_more = words_more literal_text

pub hints_more : (start rest front after xs new : List ℕ) (x : ℕ) → start ≡ flat_map number_word xs ++ rest → rest ≡ front ++ 32 ∷ after → front ≡ decimal x → new ≡ xs ++ x ∷ [] → start ≡ flat_map number_word new ++ after
hints_more = words_more decimal

each_append : {X : Type 0} (Is : X → Type 0) (xs : List X) (x : X) → AllByRecursion Is xs → Is x → AllByRecursion Is (xs ++ x ∷ [])
each_append Is [] x all is = (is, tt)
each_append Is (y ∷ ys) x all is = (all.0, each_append Is ys x all.1 is)

pub each_more : {X : Type 0} (Is : X → Type 0) (xs new : List X) (x : X) → new ≡ xs ++ x ∷ [] → AllByRecursion Is xs → Is x → AllByRecursion Is new
each_more Is xs new x pushed all is = subst (AllByRecursion Is) (sym pushed) (each_append Is xs x all is)

-- the digit 0 and a blank end the literals
pub literals_ended : (start rest front after : List ℕ) (xs : List Literal) → start ≡ flat_map literal_word xs ++ rest → rest ≡ front ++ 32 ∷ after → front ≡ codes "0" → start ≡ flat_map literal_word xs ++ codes "0 " ++ after
literals_ended start rest front after xs before cut is =
    before ∙ ap (λ (bytes : List ℕ). flat_map literal_word xs ++ bytes) (cut ∙ ap (λ (bytes : List ℕ). bytes ++ 32 ∷ after) is) ∙ sym (append_assoc (flat_map literal_word xs) (codes "0 ") after)
