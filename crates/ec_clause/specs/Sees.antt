-- what a look at a clause says
use Rattle.std.specs.Prelude.{◌≡◌, Bool, true, false, List, Option, Some, None, Contains, slice_index_or}
use Rattle.ec_clause.specs.Literal.{Literal}
use Rattle.ec_clause.specs.Truth.{Truth, IsFalse, IsUnit, is_false, unit_literal}
use Rattle.ec_clause.specs.declared.look.Look.{Look}
use Rattle.ec_clause.specs.declared.look.Look.TheVariants.{False, OneLeft, Other}

-- a look answers False at a false clause, OneLeft at a unit one, and Other at all others
abbrev pub Means : Truth → List Literal → Look → Type 0
Means p c False = IsFalse p c
Means p c (OneLeft l) = IsUnit p c l
Means p c Other = (IsFalse p c → ⊥) × ((l : Literal) → IsUnit p c l → ⊥)

-- whether a look answers that the clause is false
abbrev pub is_false_look : Look → Bool
is_false_look False = true
is_false_look (OneLeft l) = false
is_false_look Other = false

-- the literal that a look answers
abbrev pub left_of : Look → Option Literal
left_of False = None
left_of (OneLeft l) = Some l
left_of Other = None

-- a look answers what is computed
pub record Sees (p : Truth) (c : List Literal) (look : Look) : Type 0 where
  pub each_false : is_false p c ≡ is_false_look look
  pub one_left : unit_literal p c ≡ left_of look

-- the one literal left is in the clause, and its variable has no value
abbrev pub IsLeft : Truth → List Literal → Look → Type 0
IsLeft p c False = Unit {0}
IsLeft p c (OneLeft l) = Contains c l × (slice_index_or p l.variable None ≡ None)
IsLeft p c Other = Unit {0}
