-- The names of trees, and the clauses that say what they stand for. Variables are given to atoms by a function and to names in order.
use Rattle.std.specs.Prelude.{◌≡◌, ℕ, ◌+◌, ◌<◌, Bool, true, List, [], ◌∷◌, ◌++◌, map, length, slice_index_or}
use Rattle.ec_folding.specs.Tree.{Tree, always, never, literal, all_of, any_of, Trees, no_trees, tree, true_in}
use Rattle.ec_clause.specs.Literal.{Literal, opposite}

abbrev mutual
  -- how many variables the naming of a tree takes: one for each And and Or; a constant would be named as an And or an Or of nothing
  pub names_taken : Tree → ℕ
  names_taken always = 1
  names_taken never = 1
  names_taken (literal a sign) = 0
  names_taken (all_of ts) = names_taken_each ts + 1
  names_taken (any_of ts) = names_taken_each ts + 1

  -- how many the naming of these takes, one after the other
  pub names_taken_each : Trees → ℕ
  names_taken_each no_trees = 0
  names_taken_each (tree t ts) = names_taken t + names_taken_each ts

abbrev mutual
  -- the trees that are named, in the order of their names: parts before the tree that they are parts of
  pub named : Tree → List Tree
  named always = always ∷ []
  named never = never ∷ []
  named (literal a sign) = []
  named (all_of ts) = named_each ts ++ all_of ts ∷ []
  named (any_of ts) = named_each ts ++ any_of ts ∷ []

  -- the same for these trees, one after the other
  pub named_each : Trees → List Tree
  named_each no_trees = []
  named_each (tree t ts) = named t ++ named_each ts

-- a variable as it is
abbrev pub positive : ℕ → Literal
positive n = record { variable = n; positive = true }

-- the literal that names a tree, where the next free variable is n: a literal names itself
abbrev pub name_of : (ℕ → ℕ) → ℕ → Tree → Literal
name_of at n always = positive n
name_of at n never = positive n
name_of at n (literal a sign) = record { variable = at a; positive = sign }
name_of at n (all_of ts) = positive (n + names_taken_each ts)
name_of at n (any_of ts) = positive (n + names_taken_each ts)

-- the names of these trees, named in order
abbrev pub names_of : (ℕ → ℕ) → ℕ → Trees → List Literal
names_of at n no_trees = []
names_of at n (tree t ts) = name_of at n t ∷ names_of at (n + names_taken t) ts

-- l stands for all of these: where l is true each is, and where each is l is
abbrev pub and_clauses : Literal → List Literal → List (List Literal)
and_clauses l cs = map (λ c. opposite l ∷ c ∷ []) cs ++ (l ∷ map opposite cs) ∷ []

-- l stands for one of these: where l is true one is, and where one is l is
abbrev pub or_clauses : Literal → List Literal → List (List Literal)
or_clauses l cs = (opposite l ∷ cs) ∷ map (λ c. l ∷ opposite c ∷ []) cs

abbrev mutual
  -- the clauses of naming a tree: those of its parts in order, then those of its own name
  pub naming : (ℕ → ℕ) → ℕ → Tree → List (List Literal)
  naming at n always = and_clauses (positive n) []
  naming at n never = or_clauses (positive n) []
  naming at n (literal a sign) = []
  naming at n (all_of ts) = naming_each at n ts ++ and_clauses (positive (n + names_taken_each ts)) (names_of at n ts)
  naming at n (any_of ts) = naming_each at n ts ++ or_clauses (positive (n + names_taken_each ts)) (names_of at n ts)

  -- the clauses of naming these trees in order
  pub naming_each : (ℕ → ℕ) → ℕ → Trees → List (List Literal)
  naming_each at n no_trees = []
  naming_each at n (tree t ts) = naming at n t ++ naming_each at (n + names_taken t) ts

-- the variables from n on have the truths of these trees
abbrev pub Agrees : (ℕ → ℕ) → (ℕ → Bool) → ℕ → List Tree → Type 0
Agrees at w n ts = (i : ℕ) (d : Tree) → i < length ts → w (n + i) ≡ true_in (λ a. w (at a)) (slice_index_or ts i d)
