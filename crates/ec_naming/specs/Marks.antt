-- A clause read literal by literal, where a partial truth marks the literals seen so far.
use Rattle.std.specs.Prelude.{ℕ, ◌+◌, ◌≤◌, Bool, true, false, Option, Some, None, replicate, slice_set, List, [], ◌∷◌}
use Rattle.ec_clause.specs.Literal.{Literal}
use Rattle.ec_clause.specs.Truth.{Truth, literal_value, with_true}

-- no marks, over the variables up to a number
abbrev pub blank : ℕ → Truth
blank n = replicate (n + 1) None

-- literals over the variables from 1 up to a number
abbrev pub AreInRange : ℕ → List Literal → Type 0
AreInRange n [] = Unit {0}
AreInRange n (l ∷ ls) = (1 ≤ l.variable) × (l.variable ≤ n) × AreInRange n ls

-- what is kept with a literal of this value
abbrev pub kept_step : Option Bool → Literal → List Literal → List Literal → List Literal
kept_step None l new rest = l ∷ new
kept_step (Some b) l new rest = rest

-- the literals whose variables are not marked before them
abbrev pub kept_after : Truth → List Literal → List Literal
kept_after p [] = []
kept_after p (l ∷ ls) = kept_step (literal_value p l) l (kept_after (with_true p l) ls) (kept_after p ls)

-- whether there is a clash with a literal of this value
abbrev pub clash_step : Option Bool → Bool → Bool → Bool
clash_step None new rest = new
clash_step (Some true) new rest = rest
clash_step (Some false) new rest = true

-- whether a literal comes whose opposite is marked
abbrev pub clash_after : Truth → List Literal → Bool
clash_after p [] = false
clash_after p (l ∷ ls) = clash_step (literal_value p l) (clash_after (with_true p l) ls) (clash_after p ls)

-- the marks with a literal of this value
abbrev pub mark_step : Option Bool → Literal → Truth → Truth
mark_step None l p = with_true p l
mark_step (Some b) l p = p

-- the marks after these literals: each is marked unless its variable is
abbrev pub marks_after : Truth → List Literal → Truth
marks_after p [] = p
marks_after p (l ∷ ls) = marks_after (mark_step (literal_value p l) l p) ls

-- the marks of these literals' variables taken away
abbrev pub unmarked : Truth → List Literal → Truth
unmarked p [] = p
unmarked p (l ∷ ls) = unmarked (slice_set p l.variable None) ls
