-- Which words a text is made of.
use Rattle.std.specs.Prelude.{◌≡◌, ◌≤◌, ℕ, ◌+◌, ◌-◌, ◌*◌, Bool, true, false, ◌&&◌, ◌||◌, ◌==◌, nat_le, nat_lt, List, [], ◌∷◌, length, take, drop, find, not, fold, codes, Option, Some, None, if◌then◌else◌, nat_eq}
use Rattle.std.specs.List.{list_all, list_any, starts_with, prefix_len, suffix_len}
use Rattle.std.specs.Str.{bytes_eq}
use Rattle.ec_lex.specs.declared.token.Kind.{Kind}
use Rattle.ec_lex.specs.declared.token.Kind.TheVariants.{Upper, Lower, Number, Load, Choice, Sign}

-- a blank within a line; byte 10, the other one, ends the line
abbrev pub is_blank : ℕ → Bool
is_blank b = b == 32 || b == 9 || b == 13

abbrev pub is_upper : ℕ → Bool
is_upper b = nat_le 65 b && nat_le b 90

abbrev pub is_lower : ℕ → Bool
is_lower b = nat_le 97 b && nat_le b 122

abbrev pub is_digit : ℕ → Bool
is_digit b = nat_le 48 b && nat_le b 57

-- a letter, a digit or `_`
abbrev pub is_word : ℕ → Bool
is_word b = is_upper b || is_lower b || is_digit b || b == 95

-- where one begins with another, the longer stands first
abbrev pub signs : List (List ℕ)
signs =
    codes "<->" ∷ codes "->" ∷ codes "<=" ∷ codes ">=" ∷ codes "!=" ∷ codes "[" ∷ codes "]" ∷ codes "{" ∷ codes "}" ∷ codes "(" ∷ codes ")" ∷ codes "," ∷ codes "." ∷ codes ":"
    ∷ codes "!" ∷ codes "&" ∷ codes "|" ∷ codes "=" ∷ codes "<" ∷ codes ">" ∷ codes "+" ∷ codes "-" ∷ codes "*" ∷ []

-- one byte of the first class, and then any of the second
abbrev pub is_run : (ℕ → Bool) → (ℕ → Bool) → List ℕ → Bool
is_run first other [] = false
is_run first other (b ∷ bs) = first b && list_all other bs

-- Whether the bytes are a token of the kind. What `load` and `option` take with them is none by its shape.
abbrev pub is_token : Kind → List ℕ → Bool
is_token Upper bs = is_run is_upper is_word bs
is_token Lower bs = is_run is_lower is_word bs
is_token Number bs = is_run is_digit is_digit bs
is_token Load bs = false
is_token Choice bs = false
is_token Sign bs = list_any (λ s. bytes_eq s bs) signs

-- the front of the bytes of this length is a token of the kind, and no longer front is a token of any
pub record IsLongest (bytes : List ℕ) (kind : Kind) (len : ℕ) : Type 0 where
  pub within : len ≤ length bytes
  pub token : is_token kind (take len bytes) ≡ true
  pub longest : (k : Kind) (n : ℕ) → n ≤ length bytes → is_token k (take n bytes) ≡ true → n ≤ len

-- no front of the bytes is a token
abbrev pub BeginsNone : List ℕ → Type 0
BeginsNone bytes = (k : Kind) (n : ℕ) → n ≤ length bytes → is_token k (take n bytes) ≡ false

-- the number of the digits
abbrev pub value : List ℕ → ℕ
value = fold (λ n d. 10 * n + (d - 48)) 0

-- a number over 1,000,000,000
abbrev pub is_large : Kind → List ℕ → Bool
is_large Upper bs = false
is_large Lower bs = false
is_large Number bs = nat_lt 1000000000 (value bs)
is_large Load bs = false
is_large Choice bs = false
is_large Sign bs = false

-- the length of the first of the words that the bytes begin with
abbrev pub first_prefix : List (List ℕ) → List ℕ → Option ℕ
first_prefix [] bytes = None
first_prefix (s ∷ ss) bytes = if starts_with nat_eq bytes s then Some (length s) else first_prefix ss bytes

-- ---- the words that take the rest of their line

-- of the rest of a line up to a `;`
abbrev pub is_in_line : ℕ → Bool
is_in_line b = not (b == 59 || b == 10)

-- without the blanks at both ends
abbrev pub trimmed : List ℕ → List ℕ
trimmed t = let u = drop (prefix_len is_blank t) t in take (length u - suffix_len is_blank u) u

-- the text behind the word
abbrev pub line_text : List ℕ → List ℕ
line_text bytes = trimmed (take (prefix_len is_in_line bytes) bytes)

-- what follows the text
abbrev pub line_rest : List ℕ → List ℕ
line_rest bytes = drop (prefix_len is_in_line bytes) bytes

-- a byte that may stand in such a text
abbrev pub is_text : ℕ → Bool
is_text b = b == 9 || (nat_le 32 b && nat_le b 126)

-- the first byte that may not
abbrev pub bad_in : List ℕ → Option ℕ
bad_in t = find (λ b. not (is_text b)) t

-- the kind of token that the word begins, where it is one of the two
abbrev pub line_kind : List ℕ → Option Kind
line_kind w = if bytes_eq w (codes "load") then Some Load else if bytes_eq w (codes "option") then Some Choice else None

-- ---- the form of a word

-- Whether a word has the form of its kind.
abbrev pub has_form : Kind → List ℕ → Bool
has_form Upper w = is_token Upper w
has_form Lower w = is_token Lower w
has_form Number w = is_token Number w && nat_le (value w) 1000000000
has_form Load w = list_all is_text w
has_form Choice w = list_all is_text w
has_form Sign w = is_token Sign w
