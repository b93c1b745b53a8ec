-- Options read one by one: what those that are left give, after the numbers that were read.
use Rattle.std.proofs.Common.{◌≡◌, ◌≢◌, ℕ, ◌<◌, ◌≤◌, ◌-◌, Bool, true, false, List, [], ◌∷◌, codes, length, take, drop, get_or, map, Option, Some, None, refl, sym, ap, ◌∙◌, arith}
use Rattle.std.specs.Prelude.{option_map, unwrap_or, MatchOption, ◌&&◌, ◌||◌, if◌then◌else◌}
use Rattle.std.specs.Str.{bytes_eq}
use Rattle.std.proofs.lemmas.List.{take_all}
use Rattle.std.proofs.lemmas.Slice.Eq.{bytes_eq-Decides}
use Rattle.std.specs.List.{list_all}
use Rattle.std.specs.Option.{option_and_then}
use Rattle.ec_solve.specs.declared.searching.Bounds.{Bounds}
use Rattle.ec_command.specs.Words.{number_of, pairs_of, is_option, words_behind, setting, bounds_with, bounds_of}

-- the number of an option that may have been read
abbrev pub setting_after : Option ℕ → ℕ → ℕ → List (List ℕ) → Option ℕ
setting_after None usual most words = setting usual most words
setting_after (Some n) usual most [] = Some n
setting_after (Some n) usual most (word ∷ words) = None

abbrev pub models_after : Option ℕ → List (List ℕ × List ℕ) → Option ℕ
models_after models pairs = setting_after models 1000 10000 (words_behind (codes "--models") pairs)

abbrev pub conflicts_after : Option ℕ → List (List ℕ × List ℕ) → Option ℕ
conflicts_after conflicts pairs = setting_after conflicts 200000 2000000000 (words_behind (codes "--conflicts") pairs)

abbrev pub are_options : List (List ℕ × List ℕ) → Bool
are_options pairs = list_all (λ pair. is_option pair.0) pairs

abbrev pub pairs_after : Option ℕ → Option ℕ → List (List ℕ × List ℕ) → Option Bounds
pairs_after models conflicts pairs = if are_options pairs then bounds_with (models_after models pairs) (conflicts_after conflicts pairs) else None

-- the bounds that the words left give, after these numbers
abbrev pub bounds_after : Option ℕ → Option ℕ → List (List ℕ) → Option Bounds
bounds_after models conflicts words = option_and_then (λ pairs. pairs_after models conflicts pairs) (pairs_of words)

abbrev bounds : ℕ → ℕ → Bounds
bounds models conflicts = record { models = models; conflicts = conflicts }

-- ---- the ends

pub none_read : (words : List (List ℕ)) → bounds_after None None words ≡ bounds_of words
none_read words = refl

pub all_read : (models conflicts : Option ℕ) → bounds_after models conflicts [] ≡ Some (bounds (unwrap_or models 1000) (unwrap_or conflicts 200000))
all_read None None = refl
all_read None (Some c) = refl
all_read (Some m) None = refl
all_read (Some m) (Some c) = refl

pub one_left : (models conflicts : Option ℕ) (name : List ℕ) → bounds_after models conflicts (name ∷ []) ≡ None
one_left models conflicts name = refl

-- ---- a pair

abbrev bounds_if : Bool → Option Bounds → Option Bounds
bounds_if known found = if known then found else None

never : (known : Bool) (found : Option Bounds) → found ≡ None → bounds_if known found ≡ None
never true found none = none
never false found none = refl

no_conflicts : (models : Option ℕ) → bounds_with models None ≡ None
no_conflicts None = refl
no_conflicts (Some m) = refl

-- What holds of each list of pairs holds of the words.
paired : (m c m' c' : Option ℕ) (name number : List ℕ) (words : List (List ℕ)) → ((pairs : List (List ℕ × List ℕ)) → pairs_after m c ((name, number) ∷ pairs) ≡ pairs_after m' c' pairs) → bounds_after m c (name ∷ number ∷ words) ≡ bounds_after m' c' words
paired m c m' c' name number words each = by_pairs (pairs_of words)
  where
    by_pairs : (found : Option (List (List ℕ × List ℕ))) → option_and_then (λ pairs. pairs_after m c pairs) (option_map (λ pairs. (name, number) ∷ pairs) found) ≡ option_and_then (λ pairs. pairs_after m' c' pairs) found
    by_pairs None = refl
    by_pairs (Some pairs) = each pairs

unpaired : (m c : Option ℕ) (name number : List ℕ) (words : List (List ℕ)) → ((pairs : List (List ℕ × List ℕ)) → pairs_after m c ((name, number) ∷ pairs) ≡ None) → bounds_after m c (name ∷ number ∷ words) ≡ None
unpaired m c name number words each = by_pairs (pairs_of words)
  where
    by_pairs : (found : Option (List (List ℕ × List ℕ))) → option_and_then (λ pairs. pairs_after m c pairs) (option_map (λ pairs. (name, number) ∷ pairs) found) ≡ None
    by_pairs None = refl
    by_pairs (Some pairs) = each pairs

first_setting : (usual most n : ℕ) (number : List ℕ) (words : List (List ℕ)) → number_of most number ≡ Some n → setting usual most (number ∷ words) ≡ setting_after (Some n) usual most words
first_setting usual most n number [] is = is
first_setting usual most n number (word ∷ words) is = refl

bad_setting : (usual most : ℕ) (number : List ℕ) (words : List (List ℕ)) → number_of most number ≡ None → setting usual most (number ∷ words) ≡ None
bad_setting usual most number [] is = is
bad_setting usual most number (word ∷ words) is = refl

-- ---- the pair of an option

pub models_read : (conflicts : Option ℕ) (name number : List ℕ) (words : List (List ℕ)) (n : ℕ) → name ≡ codes "--models" → number_of 10000 number ≡ Some n
    → bounds_after None conflicts (name ∷ number ∷ words) ≡ bounds_after (Some n) conflicts words
models_read conflicts name number words n is reads =
    ap (λ (w : List ℕ). bounds_after None conflicts (w ∷ number ∷ words)) is
    ∙ paired None conflicts (Some n) conflicts (codes "--models") number words (λ pairs.
    ap (λ (models : Option ℕ). bounds_if (are_options pairs) (bounds_with models (conflicts_after conflicts pairs))) (first_setting 1000 10000 n number (words_behind (codes "--models") pairs) reads))

pub conflicts_read : (models : Option ℕ) (name number : List ℕ) (words : List (List ℕ)) (n : ℕ) → name ≡ codes "--conflicts" → number_of 2000000000 number ≡ Some n
    → bounds_after models None (name ∷ number ∷ words) ≡ bounds_after models (Some n) words
conflicts_read models name number words n is reads =
    ap (λ (w : List ℕ). bounds_after models None (w ∷ number ∷ words)) is
    ∙ paired models None models (Some n) (codes "--conflicts") number words (λ pairs.
    ap (λ (conflicts : Option ℕ). bounds_if (are_options pairs) (bounds_with (models_after models pairs) conflicts)) (first_setting 200000 2000000000 n number (words_behind (codes "--conflicts") pairs) reads))

-- ---- the refusals

pub bad_models : (conflicts : Option ℕ) (name number : List ℕ) (words : List (List ℕ)) → name ≡ codes "--models" → number_of 10000 number ≡ None → bounds_after None conflicts (name ∷ number ∷ words) ≡ None
bad_models conflicts name number words is bad =
    ap (λ (w : List ℕ). bounds_after None conflicts (w ∷ number ∷ words)) is
    ∙ unpaired None conflicts (codes "--models") number words (λ pairs.
    never (are_options pairs) _ (ap (λ (models : Option ℕ). bounds_with models (conflicts_after conflicts pairs)) (bad_setting 1000 10000 number (words_behind (codes "--models") pairs) bad)))

pub bad_conflicts : (models : Option ℕ) (name number : List ℕ) (words : List (List ℕ)) → name ≡ codes "--conflicts" → number_of 2000000000 number ≡ None → bounds_after models None (name ∷ number ∷ words) ≡ None
bad_conflicts models name number words is bad =
    ap (λ (w : List ℕ). bounds_after models None (w ∷ number ∷ words)) is
    ∙ unpaired models None (codes "--conflicts") number words (λ pairs.
    never (are_options pairs) _ (ap (λ (conflicts : Option ℕ). bounds_with (models_after models pairs) conflicts) (bad_setting 200000 2000000000 number (words_behind (codes "--conflicts") pairs) bad) ∙ no_conflicts (models_after models pairs)))

pub models_twice : (n : ℕ) (conflicts : Option ℕ) (name number : List ℕ) (words : List (List ℕ)) → name ≡ codes "--models" → bounds_after (Some n) conflicts (name ∷ number ∷ words) ≡ None
models_twice n conflicts name number words is =
    ap (λ (w : List ℕ). bounds_after (Some n) conflicts (w ∷ number ∷ words)) is
    ∙ unpaired (Some n) conflicts (codes "--models") number words (λ pairs. never (are_options pairs) _ refl)

pub conflicts_twice : (n : ℕ) (models : Option ℕ) (name number : List ℕ) (words : List (List ℕ)) → name ≡ codes "--conflicts" → bounds_after models (Some n) (name ∷ number ∷ words) ≡ None
conflicts_twice n models name number words is =
    ap (λ (w : List ℕ). bounds_after models (Some n) (w ∷ number ∷ words)) is
    ∙ unpaired models (Some n) (codes "--conflicts") number words (λ pairs. never (are_options pairs) _ (no_conflicts (models_after models pairs)))

pub unknown_option : (models conflicts : Option ℕ) (name number : List ℕ) (words : List (List ℕ)) → is_option name ≡ false → bounds_after models conflicts (name ∷ number ∷ words) ≡ None
unknown_option models conflicts name number words is =
    unpaired models conflicts name number words (λ pairs. by_known (is_option name) pairs is)
  where
    by_known : (known : Bool) (pairs : List (List ℕ × List ℕ)) → known ≡ false
        → bounds_if (known && are_options pairs) (bounds_with (models_after models ((name, number) ∷ pairs)) (conflicts_after conflicts ((name, number) ∷ pairs))) ≡ None
    by_known true pairs e = absurd (cc)
    by_known false pairs e = refl

-- ---- the two words at the front of those that are left

-- two words, and those behind them
pub two_words : {A : Type 0} (text : A → List ℕ) (rest : List A) (a b : A) → 2 ≤ length rest → a ≡ get_or rest 0 a → b ≡ get_or rest 1 b
    → map text rest ≡ text a ∷ text b ∷ map text (take (length rest - 2) (drop 2 rest))
two_words text [] a b two first second = absurd (omega (arith, two))
two_words text (x ∷ []) a b two first second = absurd (omega (arith, two))
two_words {A} text (x ∷ y ∷ ys) a b two first second =
    let more : take (length (x ∷ y ∷ ys) - 2) ys ≡ ys = take_all (length (x ∷ y ∷ ys) - 2) ys (omega arith) in
    let front : x ∷ y ∷ ys ≡ a ∷ b ∷ ys = rw (first, second) refl in
    ap (map text) front ∙ ap (λ (zs : List A). text a ∷ text b ∷ map text zs) (sym more)

-- a word alone is no pair
pub left_over : {A : Type 0} (text : A → List ℕ) (rest : List A) (models conflicts : Option ℕ) → length rest < 2 → 0 < length rest → bounds_after models conflicts (map text rest) ≡ None
left_over text [] models conflicts few some = absurd (omega (arith, some))
left_over text (x ∷ []) models conflicts few some = refl
left_over text (x ∷ y ∷ ys) models conflicts few some = absurd (omega (arith, few))

-- ---- an option that is read at most once

-- what reading an option's number gives, where a number may have been read before
abbrev pub IsReadOnce : Option ℕ → ℕ → List ℕ → Option ℕ → Type 0
IsReadOnce known most number read = MatchOption known (read ≡ number_of most number) (λ _. read ≡ None)

pub models_once : (models conflicts read : Option ℕ) (name number : List ℕ) (words : List (List ℕ)) (n : ℕ) → name ≡ codes "--models" → IsReadOnce models 10000 number read → read ≡ Some n
    → bounds_after models conflicts (name ∷ number ∷ words) ≡ bounds_after (Some n) conflicts words
models_once None conflicts read name number words n is once reads = models_read conflicts name number words n is (sym once ∙ reads)
models_once (Some m) conflicts read name number words n is once reads =
    let clash : Some n ≡ None = sym reads ∙ once in
    absurd (cc)

pub models_refused : (models conflicts read : Option ℕ) (name number : List ℕ) (words : List (List ℕ)) → name ≡ codes "--models" → IsReadOnce models 10000 number read → read ≡ None
    → bounds_after models conflicts (name ∷ number ∷ words) ≡ None
models_refused None conflicts read name number words is once none = bad_models conflicts name number words is (sym once ∙ none)
models_refused (Some m) conflicts read name number words is once none = models_twice m conflicts name number words is

pub conflicts_once : (models conflicts read : Option ℕ) (name number : List ℕ) (words : List (List ℕ)) (n : ℕ) → name ≡ codes "--conflicts" → IsReadOnce conflicts 2000000000 number read → read ≡ Some n
    → bounds_after models conflicts (name ∷ number ∷ words) ≡ bounds_after models (Some n) words
conflicts_once models None read name number words n is once reads = conflicts_read models name number words n is (sym once ∙ reads)
conflicts_once models (Some m) read name number words n is once reads =
    let clash : Some n ≡ None = sym reads ∙ once in
    absurd (cc)

pub conflicts_refused : (models conflicts read : Option ℕ) (name number : List ℕ) (words : List (List ℕ)) → name ≡ codes "--conflicts" → IsReadOnce conflicts 2000000000 number read → read ≡ None
    → bounds_after models conflicts (name ∷ number ∷ words) ≡ None
conflicts_refused models None read name number words is once none = bad_conflicts models name number words is (sym once ∙ none)
conflicts_refused models (Some m) read name number words is once none = conflicts_twice m models name number words is

-- a word that is neither name is no option's
pub no_option : (name : List ℕ) → name ≢ codes "--models" → name ≢ codes "--conflicts" → is_option name ≡ false
no_option name models conflicts =
    by_tests (bytes_eq name (codes "--models")) (bytes_eq name (codes "--conflicts")) (λ t. models ((bytes_eq-Decides name (codes "--models")).0 t)) (λ t. conflicts ((bytes_eq-Decides name (codes "--conflicts")).0 t))
  where
    by_tests : (m c : Bool) → (m ≡ true → ⊥) → (c ≡ true → ⊥) → m || c ≡ false
    by_tests true c x y = absurd (x refl)
    by_tests false true x y = absurd (y refl)
    by_tests false false x y = refl

-- ---- a turn of the loop

module _ {A : Type 0} (text : A → List ℕ) (rest : List A) (a b : A) (two : 2 ≤ length rest) (first : a ≡ get_or rest 0 a) (second : b ≡ get_or rest 1 b) where
  front : (models conflicts : Option ℕ) → bounds_after models conflicts (map text rest) ≡ bounds_after models conflicts (text a ∷ text b ∷ map text (take (length rest - 2) (drop 2 rest)))
  front models conflicts = ap (λ (all : List (List ℕ)). bounds_after models conflicts all) (two_words text rest a b two first second)

  pub models_turn : (models conflicts read : Option ℕ) (n : ℕ) → text a ≡ codes "--models" → IsReadOnce models 10000 (text b) read → read ≡ Some n
      → bounds_after (Some n) conflicts (map text (take (length rest - 2) (drop 2 rest))) ≡ bounds_after models conflicts (map text rest)
  models_turn models conflicts read n is once reads = sym (front models conflicts ∙ models_once models conflicts read (text a) (text b) (map text (take (length rest - 2) (drop 2 rest))) n is once reads)

  pub conflicts_turn : (models conflicts read : Option ℕ) (n : ℕ) → text a ≡ codes "--conflicts" → IsReadOnce conflicts 2000000000 (text b) read → read ≡ Some n
      → bounds_after models (Some n) (map text (take (length rest - 2) (drop 2 rest))) ≡ bounds_after models conflicts (map text rest)
  conflicts_turn models conflicts read n is once reads = sym (front models conflicts ∙ conflicts_once models conflicts read (text a) (text b) (map text (take (length rest - 2) (drop 2 rest))) n is once reads)

  pub models_end : (models conflicts read : Option ℕ) → text a ≡ codes "--models" → IsReadOnce models 10000 (text b) read → read ≡ None → bounds_after models conflicts (map text rest) ≡ None
  models_end models conflicts read is once none = front models conflicts ∙ models_refused models conflicts read (text a) (text b) (map text (take (length rest - 2) (drop 2 rest))) is once none

  pub conflicts_end : (models conflicts read : Option ℕ) → text a ≡ codes "--conflicts" → IsReadOnce conflicts 2000000000 (text b) read → read ≡ None → bounds_after models conflicts (map text rest) ≡ None
  conflicts_end models conflicts read is once none = front models conflicts ∙ conflicts_refused models conflicts read (text a) (text b) (map text (take (length rest - 2) (drop 2 rest))) is once none

  pub unknown_end : (models conflicts : Option ℕ) → text a ≢ codes "--models" → text a ≢ codes "--conflicts" → bounds_after models conflicts (map text rest) ≡ None
  unknown_end models conflicts m c = front models conflicts ∙ unknown_option models conflicts (text a) (text b) (map text (take (length rest - 2) (drop 2 rest))) (no_option (text a) m c)
