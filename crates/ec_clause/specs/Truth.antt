-- partial truths, and what clauses are under them
use Rattle.std.specs.Prelude.{◌≡◌, ◌≢◌, ℕ, ◌<◌, Bool, true, false, not, cond, List, [], ◌∷◌, length, Option, Some, None, option_map, All, Any, slice_index_or, slice_set}
use Rattle.ec_clause.specs.Literal.{Literal}

-- one place for each number up to the largest variable; place 0 stands for no variable
abbrev pub Truth : Type 0
Truth = List (Option Bool)

-- the value of a literal of this sign, where its variable has this value
abbrev pub agree : Bool → Bool → Bool
agree true b = b
agree false b = not b

-- what a partial truth gives a literal
abbrev pub literal_value : Truth → Literal → Option Bool
literal_value p l = option_map (agree l.positive) (slice_index_or p l.variable None)

-- the partial truth with one literal made true
abbrev pub with_true : Truth → Literal → Truth
with_true p l = slice_set p l.variable (Some l.positive)

-- a clause is satisfied where one of its literals is true
abbrev pub IsSatisfied : Truth → List Literal → Type 0
IsSatisfied p c = Any (λ (l : Literal). literal_value p l ≡ Some true) c

-- a clause is false where all its literals are
abbrev pub IsFalse : Truth → List Literal → Type 0
IsFalse p c = All (λ (l : Literal). literal_value p l ≡ Some false) c

-- a clause is unit where exactly one of its literals has no value, this one, and all others are false
pub record IsUnit (p : Truth) (c : List Literal) (l : Literal) : Type 0 where
  pub place : ℕ
  pub within : place < length c
  pub there : slice_index_or c place l ≡ l
  pub no_value : literal_value p l ≡ None
  pub others : (k : ℕ) (d : Literal) → k < length c → k ≢ place → literal_value p (slice_index_or c k d) ≡ Some false

-- 'false' where a literal is not false, and what holds of the rest where it is
abbrev pub false_step : Option Bool → Bool → Bool
false_step None rest = false
false_step (Some true) rest = false
false_step (Some false) rest = rest

-- whether a clause is false, computed
abbrev pub is_false : Truth → List Literal → Bool
is_false p [] = true
is_false p (l ∷ ls) = false_step (literal_value p l) (is_false p ls)

-- what is left of a literal, by its value, and of the rest
abbrev pub unit_step : Option Bool → Literal → Bool → Option Literal → Option Literal
unit_step None l rest_false rest = cond rest_false (Some l) None
unit_step (Some true) l rest_false rest = None
unit_step (Some false) l rest_false rest = rest

-- the one literal without a value, where the clause is unit, computed
abbrev pub unit_literal : Truth → List Literal → Option Literal
unit_literal p [] = None
unit_literal p (l ∷ ls) = unit_step (literal_value p l) l (is_false p ls) (unit_literal p ls)
