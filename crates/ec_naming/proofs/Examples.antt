-- Clause lists worked by hand, against the definitions.
use Rattle.std.proofs.Common.{◌≡◌, ℕ, true, false, List, [], ◌∷◌, refl}
use Rattle.ec_clause.specs.Literal.{Literal}
use Rattle.ec_folding.specs.Tree.{Tree, always, never, literal, all_of, any_of, as_trees}
use Rattle.ec_naming.specs.Listing.{clause_list}
use Rattle.ec_naming.specs.Variables.{variable_of}

-- an atom, and its negation
abbrev is : ℕ → Tree
is a = literal a true

abbrev is_not : ℕ → Tree
is_not a = literal a false

abbrev both : List Tree → Tree
both ts = all_of (as_trees ts)

abbrev one : List Tree → Tree
one ts = any_of (as_trees ts)

abbrev plus : ℕ → Literal
plus n = record { variable = n; positive = true }

abbrev minus : ℕ → Literal
minus n = record { variable = n; positive = false }

-- p where and only where q and r: both folded implications asserted
equivalence :
    clause_list (variable_of (0 ∷ 1 ∷ 2 ∷ [])) 4 (
    both (one (is_not 0 ∷ both (is 1 ∷ is 2 ∷ []) ∷ []) ∷ one (is 0 ∷ is_not 1 ∷ is_not 2 ∷ []) ∷ []) ∷
    []) ([]) ≡
    (minus 4 ∷ plus 2 ∷ []) ∷
    (minus 4 ∷ plus 3 ∷ []) ∷
    (plus 4 ∷ minus 2 ∷ minus 3 ∷ []) ∷
    (minus 1 ∷ plus 4 ∷ []) ∷
    (plus 1 ∷ minus 2 ∷ minus 3 ∷ []) ∷
    []
equivalence = refl

-- p implies q
implication :
    clause_list (variable_of (0 ∷ 1 ∷ [])) 3 (
    one (is_not 0 ∷ is 1 ∷ []) ∷
    []) ([]) ≡
    (minus 1 ∷ plus 2 ∷ []) ∷
    []
implication = refl

-- a fluent, its release and an event at two times, the event given: atoms 0 and 1 are the fluent, 2 and 3 its release, 4 and 5 the event
one_fluent_predicted :
    clause_list (variable_of (0 ∷ 1 ∷ 2 ∷ 3 ∷ 4 ∷ 5 ∷ [])) 7 (
    is_not 0 ∷
    one (is_not 0 ∷ is 3 ∷ is 1 ∷ []) ∷
    one (is 0 ∷ is 3 ∷ is 4 ∷ is_not 1 ∷ []) ∷
    one (is_not 2 ∷ is 4 ∷ is 3 ∷ []) ∷
    one (is 2 ∷ is_not 3 ∷ []) ∷
    one (is_not 4 ∷ is 1 ∷ []) ∷
    one (is_not 4 ∷ is_not 3 ∷ []) ∷
    is_not 2 ∷
    []) (record { atom = 4; scope = always } ∷ record { atom = 5; scope = never } ∷ []) ≡
    (minus 1 ∷ []) ∷
    (minus 1 ∷ plus 4 ∷ plus 2 ∷ []) ∷
    (plus 1 ∷ plus 4 ∷ plus 5 ∷ minus 2 ∷ []) ∷
    (minus 3 ∷ plus 5 ∷ plus 4 ∷ []) ∷
    (plus 3 ∷ minus 4 ∷ []) ∷
    (minus 5 ∷ plus 2 ∷ []) ∷
    (minus 5 ∷ minus 4 ∷ []) ∷
    (minus 3 ∷ []) ∷
    (plus 5 ∷ []) ∷
    (minus 6 ∷ []) ∷
    []
one_fluent_predicted = refl

-- the same with the fluent given at both times and the event free
one_fluent_explained :
    clause_list (variable_of (0 ∷ 1 ∷ 2 ∷ 3 ∷ 4 ∷ 5 ∷ [])) 7 (
    is_not 0 ∷
    is 1 ∷
    one (is_not 0 ∷ is 3 ∷ is 1 ∷ []) ∷
    one (is 0 ∷ is 3 ∷ is 4 ∷ is_not 1 ∷ []) ∷
    one (is_not 2 ∷ is 4 ∷ is 3 ∷ []) ∷
    one (is 2 ∷ is_not 3 ∷ []) ∷
    one (is_not 4 ∷ is 1 ∷ []) ∷
    one (is_not 4 ∷ is_not 3 ∷ []) ∷
    is_not 2 ∷
    []) ([]) ≡
    (minus 1 ∷ []) ∷
    (plus 2 ∷ []) ∷
    (minus 1 ∷ plus 4 ∷ plus 2 ∷ []) ∷
    (plus 1 ∷ plus 4 ∷ plus 5 ∷ minus 2 ∷ []) ∷
    (minus 3 ∷ plus 5 ∷ plus 4 ∷ []) ∷
    (plus 3 ∷ minus 4 ∷ []) ∷
    (minus 5 ∷ plus 2 ∷ []) ∷
    (minus 5 ∷ minus 4 ∷ []) ∷
    (minus 3 ∷ []) ∷
    []
one_fluent_explained = refl

-- each kind of tree asserted
asserted :
    clause_list (variable_of (0 ∷ 1 ∷ 2 ∷ [])) 4 (
    always ∷
    never ∷
    is_not 1 ∷
    both (is 0 ∷ one (is 1 ∷ is 2 ∷ []) ∷ []) ∷
    one (both (is 0 ∷ is 1 ∷ []) ∷ both (is 1 ∷ is 2 ∷ []) ∷ []) ∷
    one (is 0 ∷ both (is 1 ∷ one (is 2 ∷ is_not 0 ∷ []) ∷ []) ∷ []) ∷
    []) ([]) ≡
    [] ∷
    (minus 2 ∷ []) ∷
    (plus 1 ∷ []) ∷
    (plus 2 ∷ plus 3 ∷ []) ∷
    (minus 4 ∷ plus 1 ∷ []) ∷
    (minus 4 ∷ plus 2 ∷ []) ∷
    (plus 4 ∷ minus 1 ∷ minus 2 ∷ []) ∷
    (minus 5 ∷ plus 2 ∷ []) ∷
    (minus 5 ∷ plus 3 ∷ []) ∷
    (plus 5 ∷ minus 2 ∷ minus 3 ∷ []) ∷
    (plus 4 ∷ plus 5 ∷ []) ∷
    (minus 6 ∷ plus 3 ∷ minus 1 ∷ []) ∷
    (plus 6 ∷ minus 3 ∷ []) ∷
    (plus 6 ∷ plus 1 ∷ []) ∷
    (minus 7 ∷ plus 2 ∷ []) ∷
    (minus 7 ∷ plus 6 ∷ []) ∷
    (plus 7 ∷ minus 2 ∷ minus 6 ∷ []) ∷
    (plus 1 ∷ plus 7 ∷ []) ∷
    []
asserted = refl

-- each kind of tree given to an atom, the last to one that is not among the first
defined :
    clause_list (variable_of (0 ∷ 1 ∷ 2 ∷ 3 ∷ 4 ∷ 9 ∷ [])) 7 ([]) (record { atom = 2; scope = always } ∷ record { atom = 3; scope = never } ∷ record { atom = 4; scope = is_not 0 } ∷ record { atom = 1; scope = both (is 0 ∷ is 2 ∷ []) } ∷ record { atom = 9; scope = one (is 0 ∷ both (is 1 ∷ is_not 2 ∷ []) ∷ []) } ∷ []) ≡
    (plus 3 ∷ []) ∷
    (minus 4 ∷ []) ∷
    (minus 5 ∷ minus 1 ∷ []) ∷
    (plus 5 ∷ plus 1 ∷ []) ∷
    (minus 2 ∷ plus 1 ∷ []) ∷
    (minus 2 ∷ plus 3 ∷ []) ∷
    (plus 2 ∷ minus 1 ∷ minus 3 ∷ []) ∷
    (minus 7 ∷ plus 2 ∷ []) ∷
    (minus 7 ∷ minus 3 ∷ []) ∷
    (plus 7 ∷ minus 2 ∷ plus 3 ∷ []) ∷
    (minus 6 ∷ plus 1 ∷ plus 7 ∷ []) ∷
    (plus 6 ∷ minus 1 ∷ []) ∷
    (plus 6 ∷ minus 7 ∷ []) ∷
    []
defined = refl

-- a repeated literal, two opposite ones, both, and in a name and a definition
tidied_list :
    clause_list (variable_of (0 ∷ 1 ∷ [])) 3 (
    one (is 0 ∷ is 1 ∷ is 0 ∷ []) ∷
    one (is 0 ∷ is_not 0 ∷ []) ∷
    one (is 0 ∷ is 1 ∷ is 0 ∷ is_not 1 ∷ []) ∷
    one (both (is 0 ∷ is 0 ∷ []) ∷ is 1 ∷ []) ∷
    []) (record { atom = 0; scope = one (is 0 ∷ is 1 ∷ []) } ∷ []) ≡
    (plus 1 ∷ plus 2 ∷ []) ∷
    (minus 3 ∷ plus 1 ∷ []) ∷
    (minus 3 ∷ plus 1 ∷ []) ∷
    (plus 3 ∷ minus 1 ∷ []) ∷
    (plus 3 ∷ plus 2 ∷ []) ∷
    (plus 1 ∷ minus 2 ∷ []) ∷
    []
tidied_list = refl
