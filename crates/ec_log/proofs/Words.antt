-- A list of words, each with a blank behind it, and a tail: cut at its first blank it gives its first word.
use Rattle.std.proofs.Common.{◌≡◌, ◌≢◌, ℕ, List, [], ◌∷◌, ◌++◌, Some, None, refl, sym, ap, subst, ◌∙◌, append_assoc}
use Rattle.std.specs.List.{flat_map, AllByRecursion}
use Rattle.ec_edge.specs.Lines.{cut_at}
use Rattle.ec_edge.proofs.Cuts.{cut_at-append}
use Rattle.ec_log.proofs.Texts.{NoBlank}

-- a word and a blank
abbrev pub spaced : {X : Type 0} → (X → List ℕ) → X → List ℕ
spaced word x = word x ++ 32 ∷ []

-- words and a tail
abbrev pub spaced_then : {X : Type 0} → (X → List ℕ) → List X → List ℕ → List ℕ
spaced_then word xs tail = flat_map (spaced word) xs ++ tail

-- what a cut gives
abbrev pub parts : List ℕ → List ℕ → List ℕ × List ℕ
parts front rest = (front, rest)

-- the text is some such words and a tail of a kind
abbrev pub CanRead : {X : Type 0} → (X → List ℕ) → (X → Type 0) → (List ℕ → Type 0) → List ℕ → Type 0
CanRead {X} word Is End text = (xs : List X) × (tail : List ℕ) × AllByRecursion Is xs × End tail × (text ≡ spaced_then word xs tail)

-- the text is such a word, a blank, and more such words and a tail
abbrev pub ReadsOn : {X : Type 0} → (X → List ℕ) → (X → Type 0) → (List ℕ → Type 0) → List ℕ → List ℕ → Type 0
ReadsOn {X} word Is End front rest = (x : X) × Is x × (front ≡ word x) × CanRead word Is End rest

spaced_then-cons : {X : Type 0} (word : X → List ℕ) (x : X) (xs : List X) (tail : List ℕ) → spaced_then word (x ∷ xs) tail ≡ word x ++ 32 ∷ spaced_then word xs tail
spaced_then-cons word x xs tail = append_assoc (word x ++ 32 ∷ []) (flat_map (spaced word) xs) tail ∙ append_assoc (word x) (32 ∷ []) (flat_map (spaced word) xs ++ tail)

-- the first word is cut off
pub cut_at-spaced : {X : Type 0} (word : X → List ℕ) (x : X) (xs : List X) (tail : List ℕ) → NoBlank (word x) → cut_at 32 (spaced_then word (x ∷ xs) tail) ≡ Some (parts (word x) (spaced_then word xs tail))
cut_at-spaced word x xs tail no_blank = ap (λ (text : List ℕ). cut_at 32 text) (spaced_then-cons word x xs tail) ∙ cut_at-append 32 (word x) (spaced_then word xs tail) no_blank

-- where a text is cut and not at its tail, the first part is a word, and the second can be read on
reads_on : {X : Type 0} (word : X → List ℕ) (Is : X → Type 0) (End : List ℕ → Type 0) → ((x : X) → Is x → NoBlank (word x)) → (text front rest : List ℕ) → cut_at 32 text ≡ Some (parts front rest)
    → ((tail : List ℕ) → End tail → cut_at 32 tail ≡ Some (parts front rest) → ⊥) → (xs : List X) (tail : List ℕ) → AllByRecursion Is xs → End tail → text ≡ spaced_then word xs tail → ReadsOn word Is End front rest
reads_on word Is End no_blank text front rest cut not_end [] tail all end is = absurd (not_end tail end (ap (λ (bytes : List ℕ). cut_at 32 bytes) (sym is) ∙ cut))
reads_on word Is End no_blank text front rest cut not_end (x ∷ xs) tail all end is =
    let same : Some (parts front rest) ≡ Some (parts (word x) (spaced_then word xs tail)) = sym cut ∙ ap (λ (bytes : List ℕ). cut_at 32 bytes) is ∙ cut_at-spaced word x xs tail (no_blank x all.0) in
    let pair : parts front rest ≡ parts (word x) (spaced_then word xs tail) = cc in
    (x, all.0, ap (λ (p : List ℕ × List ℕ). p.0) pair, (xs, tail, all.1, end, ap (λ (p : List ℕ × List ℕ). p.1) pair))

pub CanRead-on : {X : Type 0} (word : X → List ℕ) (Is : X → Type 0) (End : List ℕ → Type 0) → ((x : X) → Is x → NoBlank (word x)) → (text front rest : List ℕ) → cut_at 32 text ≡ Some (parts front rest)
    → ((tail : List ℕ) → End tail → cut_at 32 tail ≡ Some (parts front rest) → ⊥) → CanRead word Is End text → ReadsOn word Is End front rest
CanRead-on word Is End no_blank text front rest cut not_end can = reads_on word Is End no_blank text front rest cut not_end can.0 can.1 can.2 can.3 can.4

-- where a text is not cut, it is its tail
only_tail : {X : Type 0} (word : X → List ℕ) (Is : X → Type 0) (End : List ℕ → Type 0) → ((x : X) → Is x → NoBlank (word x)) → (text : List ℕ) → cut_at 32 text ≡ None → (xs : List X) (tail : List ℕ) → AllByRecursion Is xs → End tail → text ≡ spaced_then word xs tail → End text
only_tail word Is End no_blank text none [] tail all end is = subst End (sym is) end
only_tail word Is End no_blank text none (x ∷ xs) tail all end is =
    let clash : None ≡ Some (parts (word x) (spaced_then word xs tail)) = sym none ∙ ap (λ (bytes : List ℕ). cut_at 32 bytes) is ∙ cut_at-spaced word x xs tail (no_blank x all.0) in
    absurd cc

pub CanRead-end : {X : Type 0} (word : X → List ℕ) (Is : X → Type 0) (End : List ℕ → Type 0) → ((x : X) → Is x → NoBlank (word x)) → (text : List ℕ) → cut_at 32 text ≡ None → CanRead word Is End text → End text
CanRead-end word Is End no_blank text none can = only_tail word Is End no_blank text none can.0 can.1 can.2 can.3 can.4

-- words that are followed by the digit 0 are told apart
pub spaced_apart : {X : Type 0} (word : X → List ℕ) (Is : X → Type 0) → ((x : X) → Is x → NoBlank (word x)) → ((x : X) → Is x → word x ≢ 48 ∷ []) → ((x y : X) → Is x → Is y → word x ≡ word y → x ≡ y) → (xs ys : List X) (s t : List ℕ)
    → AllByRecursion Is xs → AllByRecursion Is ys → spaced_then word xs (48 ∷ 32 ∷ s) ≡ spaced_then word ys (48 ∷ 32 ∷ t) → (xs ≡ ys) × (s ≡ t)
spaced_apart word Is no_blank not_zero injective [] [] s t all every is = (refl, cc)
spaced_apart word Is no_blank not_zero injective [] (y ∷ ys) s t all every is =
    let same : Some (parts (48 ∷ []) s) ≡ Some (parts (word y) (spaced_then word ys (48 ∷ 32 ∷ t))) = ap (λ (bytes : List ℕ). cut_at 32 bytes) is ∙ cut_at-spaced word y ys (48 ∷ 32 ∷ t) (no_blank y every.0) in
    let pair : parts (48 ∷ []) s ≡ parts (word y) (spaced_then word ys (48 ∷ 32 ∷ t)) = cc in
    absurd (not_zero y every.0 (sym (ap (λ (p : List ℕ × List ℕ). p.0) pair)))
spaced_apart word Is no_blank not_zero injective (x ∷ xs) [] s t all every is =
    let same : Some (parts (word x) (spaced_then word xs (48 ∷ 32 ∷ s))) ≡ Some (parts (48 ∷ []) t) = sym (cut_at-spaced word x xs (48 ∷ 32 ∷ s) (no_blank x all.0)) ∙ ap (λ (bytes : List ℕ). cut_at 32 bytes) is in
    let pair : parts (word x) (spaced_then word xs (48 ∷ 32 ∷ s)) ≡ parts (48 ∷ []) t = cc in
    absurd (not_zero x all.0 (ap (λ (p : List ℕ × List ℕ). p.0) pair))
spaced_apart word Is no_blank not_zero injective (x ∷ xs) (y ∷ ys) s t all every is =
    let same : Some (parts (word x) (spaced_then word xs (48 ∷ 32 ∷ s))) ≡ Some (parts (word y) (spaced_then word ys (48 ∷ 32 ∷ t))) =
    sym (cut_at-spaced word x xs (48 ∷ 32 ∷ s) (no_blank x all.0)) ∙ ap (λ (bytes : List ℕ). cut_at 32 bytes) is ∙ cut_at-spaced word y ys (48 ∷ 32 ∷ t) (no_blank y every.0) in
    let pair : parts (word x) (spaced_then word xs (48 ∷ 32 ∷ s)) ≡ parts (word y) (spaced_then word ys (48 ∷ 32 ∷ t)) = cc in
    let rest = spaced_apart word Is no_blank not_zero injective xs ys s t all.1 every.1 (ap (λ (p : List ℕ × List ℕ). p.1) pair) in
    let head : x ≡ y = injective x y all.0 every.0 (ap (λ (p : List ℕ × List ℕ). p.0) pair) in
    (cons_same head rest.0, rest.1)
  where
    cons_same : {X : Type 0} {x y : X} {xs ys : List X} → x ≡ y → xs ≡ ys → (x ∷ xs) ≡ (y ∷ ys)
    cons_same e f = cc
