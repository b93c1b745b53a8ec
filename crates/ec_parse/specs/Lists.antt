-- Lists whose items are parted by commas.
use Rattle.std.specs.Prelude.{◌≡◌, ℕ, List, [], ◌∷◌, Some}
use Rattle.ec_parse.specs.declared.mark.Sign.TheVariants as s
use Rattle.ec_parse.specs.Mark.{Mark, sign}
use Rattle.ec_parse.specs.Mark as m
use Rattle.ec_parse.specs.Terms.{variable_of}

-- a name: an upper-case word
pub data IsName : List Mark → List ℕ → List Mark → Type 0 where
  name : {n : List ℕ} {rest : List Mark} → IsName (m.upper n ∷ rest) n rest

-- A variable, and the sort of an argument: a lower-case word that isn't reserved, or `event` or `fluent`.
pub data IsVariable : List Mark → List ℕ → List Mark → Type 0 where
  variable : {x : Mark} {v : List ℕ} {rest : List Mark} → variable_of x ≡ Some v → IsVariable (x ∷ rest) v rest

-- items of the rule, each behind its comma
pub data AreMore {X : Type 0} (R : List Mark → X → List Mark → Type 0) : List Mark → List X → List Mark → Type 0 where
  no_more : {ms : List Mark} → AreMore R ms [] ms
  one_more : {ms mid : List Mark} {a : X} {bs : List X} {rest : List Mark} → R ms a mid → AreMore R mid bs rest → AreMore R (sign s.Comma ∷ ms) (a ∷ bs) rest

-- one item of the rule or more, parted by commas
pub data AreParted {X : Type 0} (R : List Mark → X → List Mark → Type 0) : List Mark → List X → List Mark → Type 0 where
  parted : {ms mid : List Mark} {a : X} {bs : List X} {rest : List Mark} → R ms a mid → AreMore R mid bs rest → AreParted R ms (a ∷ bs) rest

-- 1 where a comma comes next
abbrev pub commas : List Mark → ℕ
commas (sign s.Comma ∷ ms) = 1
commas _ = 0
