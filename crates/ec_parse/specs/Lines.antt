-- What a line statement says, and a load or an option. Here a rule takes all marks of the statement.
use Rattle.std.specs.Prelude.{◌≡◌, ◌≢◌, ℕ, ℤ, pos, neg_ℤ, Bool, true, false, ◌||◌, ◌==◌, not, List, [], ◌∷◌, Option, Some, None, take, drop, codes, if◌then◌else◌}
use Rattle.std.specs.List.{prefix_len}
use Rattle.std.specs.Str.{bytes_eq}
use Rattle.ec_parse.specs.declared.mark.Sign.TheVariants as s
use Rattle.ec_parse.specs.declared.mark.Keyword.{Keyword}
use Rattle.ec_parse.specs.declared.mark.Keyword.TheVariants as k
use Rattle.ec_syntax.specs.declared.statement.SortItem.{SortItem}
use Rattle.ec_syntax.specs.Written.{Content, Shape}
use Rattle.ec_syntax.specs.Written as w
use Rattle.ec_parse.specs.Mark.{Mark, sign}
use Rattle.ec_parse.specs.Mark as m
use Rattle.ec_parse.specs.Terms.{opens}
use Rattle.ec_parse.specs.Lists.{IsName, IsVariable, AreParted}

-- a whole number: digits, with an optional `-` before them
pub data IsWhole : List Mark → ℤ → List Mark → Type 0 where
  positive : {n : ℕ} {rest : List Mark} → IsWhole (m.number n ∷ rest) (pos n) rest
  negative : {n : ℕ} {rest : List Mark} → IsWhole (sign s.Minus ∷ m.number n ∷ rest) (neg_ℤ (pos n)) rest

-- a symbol: a name, and behind it nothing, `()`, or sorts in parentheses
pub data IsShape : List Mark → Shape → List Mark → Type 0 where
  bare : {n : List ℕ} {ms : List Mark} → opens ms ≡ false → IsShape (m.upper n ∷ ms) (record { name = n; sorts = [] }) ms
  empty : {n : List ℕ} {rest : List Mark} → IsShape (m.upper n ∷ sign s.Open ∷ sign s.Close ∷ rest) (record { name = n; sorts = [] }) rest
  full : {n : List ℕ} {ms : List Mark} {sorts : List (List ℕ)} {rest : List Mark} → AreParted IsVariable ms sorts (sign s.Close ∷ rest) → IsShape (m.upper n ∷ sign s.Open ∷ ms) (record { name = n; sorts = sorts }) rest

abbrev pub colons : List Mark → Bool
colons (sign s.Colon ∷ ms) = true
colons _ = false

-- a sort, or a sort and its parent
pub data IsSortItem : List Mark → SortItem → List Mark → Type 0 where
  orphan : {v : List ℕ} {ms : List Mark} → colons ms ≡ false → IsSortItem (m.lower v ∷ ms) (record { name = v; parent = None }) ms
  child : {v p : List ℕ} {rest : List Mark} → IsSortItem (m.lower v ∷ sign s.Colon ∷ m.lower p ∷ rest) (record { name = v; parent = Some p }) rest

-- the word of a lower-case token, reserved or not
abbrev pub lower_of : Mark → Option (List ℕ)
lower_of (m.lower v) = Some v
lower_of (m.keyword x v) = Some v
lower_of _ = None

-- the statements that are left out
abbrev pub is_left_out : Keyword → Bool
is_left_out k.Function = true
is_left_out k.Xor = true
is_left_out k.Mutex = true
is_left_out k.Ignore = true
is_left_out _ = false

pub data IsLine : List Mark → Content → Type 0 where
  sorts : {u : List ℕ} {ms : List Mark} {items : List SortItem} → AreParted IsSortItem ms items [] → IsLine (m.keyword k.Sort u ∷ ms) (w.sorts items)
  reified : {u v z : List ℕ} {x : Mark} → lower_of x ≡ Some z → IsLine (m.keyword k.Reified u ∷ m.keyword k.Sort v ∷ x ∷ []) (w.reified z)
  constants : {v : List ℕ} {ms : List Mark} {names : List (List ℕ)} → AreParted IsName ms names [] → IsLine (m.lower v ∷ ms) (w.constants v names)
  events : {u : List ℕ} {ms : List Mark} {shapes : List Shape} → AreParted IsShape ms shapes [] → IsLine (m.keyword k.Event u ∷ ms) (w.events shapes)
  fluents : {u : List ℕ} {ms : List Mark} {shapes : List Shape} → AreParted IsShape ms shapes [] → IsLine (m.keyword k.Fluent u ∷ ms) (w.fluents shapes)
  predicates : {u : List ℕ} {ms : List Mark} {shapes : List Shape} → AreParted IsShape ms shapes [] → IsLine (m.keyword k.Predicate u ∷ ms) (w.predicates shapes)
  noninertial : {u : List ℕ} {ms : List Mark} {names : List (List ℕ)} → AreParted IsName ms names [] → IsLine (m.keyword k.Noninertial u ∷ ms) (w.noninertial names)
  range : {u v : List ℕ} {ms mid : List Mark} {low high : ℤ} → IsWhole ms low mid → IsWhole mid high [] → IsLine (m.keyword k.Range u ∷ m.lower v ∷ ms) (w.range v low high)
  completion : {u p : List ℕ} → IsLine (m.keyword k.Completion u ∷ m.upper p ∷ []) (w.completion None p)
  labelled_completion : {u l p : List ℕ} → IsLine (m.keyword k.Completion u ∷ m.upper l ∷ m.upper p ∷ []) (w.completion (Some l) p)
  left_out : {x : Keyword} {u : List ℕ} {ms : List Mark} → is_left_out x ≡ true → IsLine (m.keyword x u ∷ ms) (w.left_out u)

-- ---- loads and options

-- a blank
abbrev pub is_space : ℕ → Bool
is_space b = b == 32 || b == 9 || b == 13 || b == 10

abbrev pub is_inside : ℕ → Bool
is_inside b = not (is_space b)

abbrev pub past_spaces : List ℕ → List ℕ
past_spaces text = drop (prefix_len is_space text) text

-- the first word of a text that is cut at blanks, or nothing
abbrev pub first_word : List ℕ → List ℕ
first_word text = let t = past_spaces text in take (prefix_len is_inside t) t

-- what stands behind the first word
abbrev pub after_word : List ℕ → List ℕ
after_word text = let t = past_spaces text in drop (prefix_len is_inside t) t

-- the options that have an effect
abbrev pub is_choice : List ℕ → Bool
is_choice word = bytes_eq word (codes "manualrelease") || bytes_eq word (codes "timediff")

abbrev pub switch_of : List ℕ → Option Bool
switch_of word = if bytes_eq word (codes "on") then Some true else if bytes_eq word (codes "off") then Some false else None

pub data IsAlone : List Mark → Content → Type 0 where
  load : {text : List ℕ} → text ≢ [] → IsAlone (m.load text ∷ []) (w.load text)
  choice : {text : List ℕ} {on : Bool} → is_choice (first_word text) ≡ true → switch_of (first_word (after_word text)) ≡ Some on → first_word (after_word (after_word text)) ≡ []
      → IsAlone (m.choice text ∷ []) (w.choice (first_word text) on)
  ignored : {text : List ℕ} → first_word text ≢ [] → is_choice (first_word text) ≡ false → IsAlone (m.choice text ∷ []) w.ignored
