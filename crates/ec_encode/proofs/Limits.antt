-- What a grounded theory comes to is within the limits.
use Rattle.std.proofs.Common.{ℕ, ◌^◌, ◌≤◌, List, [], ◌∷◌, length, map, subst, arith}
use Rattle.std.specs.Prelude.{All}
use Rattle.std.proofs.Math.ListN.{get_or-map}
use Rattle.std.proofs.lemmas.List.{length-map}
use Rattle.std.proofs.lemmas.List.Elements.{All-head, All-tail}
use Rattle.ec_folding.specs.Tree.{Tree, as_trees, EachAtom, EachAtomOf}
use Rattle.ec_folding.specs.Definition.{Definition}
use Rattle.ec_naming.specs.Listing.{names_taken_whole, clauses_of}
use Rattle.ec_naming.proofs.Sizes.{whole_names_few, clauses_few, list_few, atoms_few, definitions_few}
use Rattle.ec_prop.specs.Grounded.{IsGrounded, sentences_of, definitions_of, defined_atoms_of}
use Rattle.ec_prop.specs.declared.ground.Grounded.{Grounded}
use Rattle.ec_encode.specs.Cnf.{variable_in, first_name, variables_of, clauses_of_theory}

-- each atom of each tree, as one fact over the trees
pub each_atom : (P : ℕ → Type 0) (ts : List Tree) → All (EachAtom P) ts → EachAtomOf P (as_trees ts)
each_atom P [] h = tt
each_atom P (t ∷ ts) h = (All-head (EachAtom P) t ts h, each_atom P ts (All-tail (EachAtom P) t ts h))

-- what holds of each image holds of what it is the image of
pub All-from_map : {X Y : Type 0} (P : Y → Type 0) (f : X → Y) (xs : List X) → All P (map f xs) → All (λ x. P (f x)) xs
All-from_map P f xs h = λ i d lt. subst P (get_or-map f xs i d) (h i (f d) (omega (arith, lt, length-map xs f)))

module _ (g : Grounded) (visible : ℕ) (h : IsGrounded g visible) where
  -- all names together
  pub names_fit : names_taken_whole (sentences_of g) (definitions_of g.definitions.items) ≤ 134217728
  names_fit = omega (arith, whole_names_few (sentences_of g) (definitions_of g.definitions.items), h.few_nodes)

  pub atoms_fit : length g.variables.items ≤ 134479872
  atoms_fit = omega (arith, atoms_few g.variables.items visible (defined_atoms_of g) h.rises h.others_defined, length-map (definitions_of g.definitions.items) (λ (d : Definition). d.atom), definitions_few (definitions_of g.definitions.items), h.few_nodes, h.few_visible)

  pub variables_fit : variables_of g ≤ 2 ^ 29
  variables_fit = omega (arith, names_fit, atoms_fit)

  pub raw_clauses_fit : length (clauses_of (variable_in g) (first_name g) (sentences_of g) (definitions_of g.definitions.items)) ≤ 268435456
  raw_clauses_fit = omega (arith, clauses_few (variable_in g) (first_name g) (sentences_of g) (definitions_of g.definitions.items), h.few_nodes)

  pub clauses_fit : length (clauses_of_theory g) ≤ 2 ^ 29
  clauses_fit = omega (arith, list_few (variable_in g) (first_name g) (sentences_of g) (definitions_of g.definitions.items), h.few_nodes)
