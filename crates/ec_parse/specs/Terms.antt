-- Which term a list of marks spells. `IsTerm ms a rest` says that the marks of ms before rest spell a.
use Rattle.std.specs.Prelude.{◌≡◌, ℕ, Bool, true, false, List, ◌∷◌, Option, Some, None}
use Rattle.ec_parse.specs.declared.mark.Sign.{Sign}
use Rattle.ec_parse.specs.declared.mark.Sign.TheVariants as s
use Rattle.ec_parse.specs.declared.mark.Keyword.TheVariants as k
use Rattle.ec_syntax.specs.Written.{Term, Terms, no_terms, term, variable, sum, difference, product, negative}
use Rattle.ec_syntax.specs.Written as w
use Rattle.ec_parse.specs.Mark.{Mark, sign}
use Rattle.ec_parse.specs.Mark as m

-- How tightly a sign joins what stands before it to what follows, within terms.
abbrev pub binding : Sign → ℕ
binding s.Comma = 1
binding s.Plus = 2
binding s.Minus = 2
binding s.Times = 3
binding _ = 0

-- how tightly the next mark joins, or 0
abbrev pub binds : List Mark → ℕ
binds (sign x ∷ ms) = binding x
binds _ = 0

abbrev pub opens : List Mark → Bool
opens (sign s.Open ∷ ms) = true
opens _ = false

-- A variable is a lower-case word that isn't reserved, or `event` or `fluent`.
abbrev pub variable_of : Mark → Option (List ℕ)
variable_of (m.lower v) = Some v
variable_of (m.keyword k.Event v) = Some v
variable_of (m.keyword k.Fluent v) = Some v
variable_of _ = None

mutual
  pub data IsFactor : List Mark → Term → List Mark → Type 0 where
    minus : {ms : List Mark} {a : Term} {rest : List Mark} → IsFactor ms a rest → IsFactor (sign s.Minus ∷ ms) (negative a) rest
    digits : {n : ℕ} {rest : List Mark} → IsFactor (m.number n ∷ rest) (w.number n) rest
    variable_alone : {x : Mark} {v : List ℕ} {rest : List Mark} → variable_of x ≡ Some v → IsFactor (x ∷ rest) (variable v) rest
    application : {n : List ℕ} {ms : List Mark} {bs : Terms} {rest : List Mark} → AreArguments ms bs rest → IsFactor (m.upper n ∷ ms) (w.name n bs) rest
    group : {ms : List Mark} {a : Term} {rest : List Mark} → IsTerm ms a (sign s.Close ∷ rest) → IsFactor (sign s.Open ∷ ms) a rest

  -- what stands behind a name: nothing of it, `()`, or terms in parentheses
  pub data AreArguments : List Mark → Terms → List Mark → Type 0 where
    bare : {ms : List Mark} → opens ms ≡ false → AreArguments ms no_terms ms
    empty : {rest : List Mark} → AreArguments (sign s.Open ∷ sign s.Close ∷ rest) no_terms rest
    full : {ms : List Mark} {bs : Terms} {rest : List Mark} → AreTerms ms bs (sign s.Close ∷ rest) → AreArguments (sign s.Open ∷ ms) bs rest

  -- one term or more, parted by commas
  pub data AreTerms : List Mark → Terms → List Mark → Type 0 where
    terms : {ms mid : List Mark} {a : Term} {bs : Terms} {rest : List Mark} → IsTerm ms a mid → AreMoreTerms mid bs rest → AreTerms ms (term a bs) rest

  -- each behind its comma
  pub data AreMoreTerms : List Mark → Terms → List Mark → Type 0 where
    no_more : {ms : List Mark} → AreMoreTerms ms no_terms ms
    one_more : {ms mid : List Mark} {a : Term} {bs : Terms} {rest : List Mark} → IsTerm ms a mid → AreMoreTerms mid bs rest → AreMoreTerms (sign s.Comma ∷ ms) (term a bs) rest

  pub data IsProduct : List Mark → Term → List Mark → Type 0 where
    factors : {ms mid : List Mark} {a b : Term} {rest : List Mark} → IsFactor ms a mid → Multiplies mid a b rest → IsProduct ms b rest

  -- what stands before is the first term, and with the factors that follow it is the second
  pub data Multiplies : List Mark → Term → Term → List Mark → Type 0 where
    no_factor : {ms : List Mark} {a : Term} → Multiplies ms a a ms
    times : {ms mid : List Mark} {a b c : Term} {rest : List Mark} → IsFactor ms b mid → Multiplies mid (product a b) c rest → Multiplies (sign s.Times ∷ ms) a c rest

  pub data IsTerm : List Mark → Term → List Mark → Type 0 where
    products : {ms mid : List Mark} {a b : Term} {rest : List Mark} → IsProduct ms a mid → Adds mid a b rest → IsTerm ms b rest

  -- the same of the products that are added and taken away
  pub data Adds : List Mark → Term → Term → List Mark → Type 0 where
    no_product : {ms : List Mark} {a : Term} → Adds ms a a ms
    plus : {ms mid : List Mark} {a b c : Term} {rest : List Mark} → IsProduct ms b mid → Adds mid (sum a b) c rest → Adds (sign s.Plus ∷ ms) a c rest
    less_by : {ms mid : List Mark} {a b c : Term} {rest : List Mark} → IsProduct ms b mid → Adds mid (difference a b) c rest → Adds (sign s.Minus ∷ ms) a c rest
