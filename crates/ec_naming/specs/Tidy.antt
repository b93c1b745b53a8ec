-- Clauses with no literal twice, and none with two opposite literals.
use Rattle.std.specs.Prelude.{◌==◌, Bool, true, false, not, ◌&&◌, ◌||◌, List, [], ◌∷◌, map, filter}
use Rattle.std.specs.List.{list_any}
use Rattle.ec_clause.specs.Literal.{Literal, opposite}

-- whether two signs are the same
abbrev pub same_sign : Bool → Bool → Bool
same_sign true b = b
same_sign false b = not b

-- whether two literals are the same
abbrev pub same : Literal → Literal → Bool
same k l = k.variable == l.variable && same_sign k.positive l.positive

-- each literal at its first place alone
abbrev pub distinct : List Literal → List Literal
distinct [] = []
distinct (l ∷ ls) = l ∷ filter (λ k. not (same k l)) (distinct ls)

-- whether two of the literals are opposite
abbrev pub has_opposites : List Literal → Bool
has_opposites [] = false
has_opposites (l ∷ ls) = list_any (same (opposite l)) ls || has_opposites ls

-- the clauses with repeated literals dropped, those with opposite literals left out
abbrev pub tidied : List (List Literal) → List (List Literal)
tidied cs = map distinct (filter (λ c. not (has_opposites c)) cs)
