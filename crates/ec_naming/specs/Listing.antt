-- The clauses of asserted trees and of definitions, and the whole list of a grounded theory.
use Rattle.std.specs.Prelude.{ℕ, ◌+◌, List, [], ◌∷◌, ◌++◌}
use Rattle.ec_folding.specs.Tree.{Tree, always, never, literal, all_of, any_of, Trees, no_trees, tree, as_trees}
use Rattle.ec_folding.specs.Definition.{Definition}
use Rattle.ec_clause.specs.Literal.{Literal, opposite}
use Rattle.ec_naming.specs.Naming.{names_taken_each, named_each, positive, name_of, names_of, and_clauses, or_clauses, naming_each}
use Rattle.ec_naming.specs.Tidy.{tidied}

-- ---- assertions

abbrev mutual
  -- the trees that an assertion names: the parts of an Or
  pub named_asserting : Tree → List Tree
  named_asserting always = []
  named_asserting never = []
  named_asserting (literal a sign) = []
  named_asserting (all_of ts) = named_asserting_each ts
  named_asserting (any_of ts) = named_each ts

  -- the same for these trees
  pub named_asserting_each : Trees → List Tree
  named_asserting_each no_trees = []
  named_asserting_each (tree t ts) = named_asserting t ++ named_asserting_each ts

abbrev mutual
  -- how many they are
  pub names_taken_asserting : Tree → ℕ
  names_taken_asserting always = 0
  names_taken_asserting never = 0
  names_taken_asserting (literal a sign) = 0
  names_taken_asserting (all_of ts) = names_taken_asserting_each ts
  names_taken_asserting (any_of ts) = names_taken_each ts

  -- the same for these trees
  pub names_taken_asserting_each : Trees → ℕ
  names_taken_asserting_each no_trees = 0
  names_taken_asserting_each (tree t ts) = names_taken_asserting t + names_taken_asserting_each ts

abbrev mutual
  -- the naming clauses of an assertion
  pub naming_asserting : (ℕ → ℕ) → ℕ → Tree → List (List Literal)
  naming_asserting at n always = []
  naming_asserting at n never = []
  naming_asserting at n (literal a sign) = []
  naming_asserting at n (all_of ts) = naming_asserting_each at n ts
  naming_asserting at n (any_of ts) = naming_each at n ts

  -- the same for these trees
  pub naming_asserting_each : (ℕ → ℕ) → ℕ → Trees → List (List Literal)
  naming_asserting_each at n no_trees = []
  naming_asserting_each at n (tree t ts) = naming_asserting at n t ++ naming_asserting_each at (n + names_taken_asserting t) ts

abbrev mutual
  -- the clauses that make a tree true: none for True, the empty clause for False, a literal's own clause, those of each part of an And, and for an Or the clause of its parts' names behind their naming
  pub asserting : (ℕ → ℕ) → ℕ → Tree → List (List Literal)
  asserting at n always = []
  asserting at n never = [] ∷ []
  asserting at n (literal a sign) = (name_of at n (literal a sign) ∷ []) ∷ []
  asserting at n (all_of ts) = asserting_each at n ts
  asserting at n (any_of ts) = naming_each at n ts ++ names_of at n ts ∷ []

  -- the clauses that make each of these true
  pub asserting_each : (ℕ → ℕ) → ℕ → Trees → List (List Literal)
  asserting_each at n no_trees = []
  asserting_each at n (tree t ts) = asserting at n t ++ asserting_each at (n + names_taken_asserting t) ts

-- ---- definitions

-- the trees that a definition names: the parts of its scope
abbrev pub named_defining : Tree → List Tree
named_defining always = []
named_defining never = []
named_defining (literal a sign) = []
named_defining (all_of ts) = named_each ts
named_defining (any_of ts) = named_each ts

-- the same for these definitions
abbrev pub named_defining_each : List Definition → List Tree
named_defining_each [] = []
named_defining_each (d ∷ ds) = named_defining d.scope ++ named_defining_each ds

-- how many they are
abbrev pub names_taken_defining : Tree → ℕ
names_taken_defining always = 0
names_taken_defining never = 0
names_taken_defining (literal a sign) = 0
names_taken_defining (all_of ts) = names_taken_each ts
names_taken_defining (any_of ts) = names_taken_each ts

-- the same for these definitions
abbrev pub names_taken_defining_each : List Definition → ℕ
names_taken_defining_each [] = 0
names_taken_defining_each (d ∷ ds) = names_taken_defining d.scope + names_taken_defining_each ds

-- the naming clauses of a definition
abbrev pub naming_defining : (ℕ → ℕ) → ℕ → Tree → List (List Literal)
naming_defining at n always = []
naming_defining at n never = []
naming_defining at n (literal a sign) = []
naming_defining at n (all_of ts) = naming_each at n ts
naming_defining at n (any_of ts) = naming_each at n ts

-- the same for these definitions
abbrev pub naming_defining_each : (ℕ → ℕ) → ℕ → List Definition → List (List Literal)
naming_defining_each at n [] = []
naming_defining_each at n (d ∷ ds) = naming_defining at n d.scope ++ naming_defining_each at (n + names_taken_defining d.scope) ds

-- the clauses that give l the truth of a tree, with l in the place of the tree's name
abbrev pub defining : (ℕ → ℕ) → ℕ → Literal → Tree → List (List Literal)
defining at n l always = (l ∷ []) ∷ []
defining at n l never = (opposite l ∷ []) ∷ []
defining at n l (literal a sign) = (opposite l ∷ name_of at n (literal a sign) ∷ []) ∷ (l ∷ opposite (name_of at n (literal a sign)) ∷ []) ∷ []
defining at n l (all_of ts) = naming_each at n ts ++ and_clauses l (names_of at n ts)
defining at n l (any_of ts) = naming_each at n ts ++ or_clauses l (names_of at n ts)

-- the clauses that give each defined atom the truth of its scope
abbrev pub defining_each : (ℕ → ℕ) → ℕ → List Definition → List (List Literal)
defining_each at n [] = []
defining_each at n (d ∷ ds) = defining at n (positive (at d.atom)) d.scope ++ defining_each at (n + names_taken_defining d.scope) ds

-- ---- the whole list

-- all trees that are named, in the order of their names
abbrev pub named_whole : List Tree → List Definition → List Tree
named_whole ss ds = named_asserting_each (as_trees ss) ++ named_defining_each ds

-- how many they are
abbrev pub names_taken_whole : List Tree → List Definition → ℕ
names_taken_whole ss ds = names_taken_asserting_each (as_trees ss) + names_taken_defining_each ds

-- all naming clauses, before they are tidied
abbrev pub naming_whole : (ℕ → ℕ) → ℕ → List Tree → List Definition → List (List Literal)
naming_whole at n ss ds = naming_asserting_each at n (as_trees ss) ++ naming_defining_each at (n + names_taken_asserting_each (as_trees ss)) ds

-- all clauses, before they are tidied: the sentences are asserted, then the definitions are given
abbrev pub clauses_of : (ℕ → ℕ) → ℕ → List Tree → List Definition → List (List Literal)
clauses_of at n ss ds = asserting_each at n (as_trees ss) ++ defining_each at (n + names_taken_asserting_each (as_trees ss)) ds

-- the clause list
abbrev pub clause_list : (ℕ → ℕ) → ℕ → List Tree → List Definition → List (List Literal)
clause_list at n ss ds = tidied (clauses_of at n ss ds)
