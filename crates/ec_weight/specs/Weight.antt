-- The weight of a theory: a bound on the work of grounding it, from the trees and the sizes of the sorts alone.
use Rattle.std.specs.Prelude.{ℕ, ◌+◌, ◌*◌, List, [], ◌∷◌}
use Rattle.ec_logic.specs.Tree.{Formula, verum, falsum, atom, equal, less, negation, all_of, any_of, implies, iff, for_all, exists, Formulas, no_formulas, formula}
use Rattle.ec_logic.specs.TreeList.{formulas_of}
use Rattle.ec_logic.specs.Extent.{size_of}
use Rattle.ec_logic.specs.Universe.{Universe, universe_of, extent_at}
use Rattle.ec_logic.specs.Axiom.{dec_axioms, release_axioms}
use Rattle.ec_logic.specs.Theory.{Group, Theory}

-- how many values a sort has
abbrev pub size : Universe → ℕ → ℕ
size universe s = size_of (extent_at universe s)

-- The sides of an iff are copied once more, and a scope for each value of its binder's sort.
abbrev mutual
  pub weight : Universe → Formula → ℕ
  weight universe verum = 1
  weight universe falsum = 1
  weight universe (atom p ts) = 1
  weight universe (equal a b) = 1
  weight universe (less a b) = 1
  weight universe (negation f) = 1 + weight universe f
  weight universe (all_of fs) = 1 + weights universe fs
  weight universe (any_of fs) = 1 + weights universe fs
  weight universe (implies f g) = 1 + (weight universe f + weight universe g)
  weight universe (iff f g) = 1 + 2 * (weight universe f + weight universe g)
  weight universe (for_all s f) = 1 + size universe s * weight universe f
  weight universe (exists s f) = 1 + size universe s * weight universe f

  -- what formulas weigh together
  pub weights : Universe → Formulas → ℕ
  weights universe no_formulas = 0
  weights universe (formula f fs) = weight universe f + weights universe fs

-- ---- clause trees

-- how many instances the heads of a clause tree have
abbrev mutual
  pub head_instances : Universe → Formula → ℕ
  head_instances universe (atom p ts) = 1
  head_instances universe (implies f g) = head_instances universe g
  head_instances universe (all_of fs) = head_instances_of universe fs
  head_instances universe (for_all s f) = size universe s * head_instances universe f
  head_instances universe _ = 0

  pub head_instances_of : Universe → Formulas → ℕ
  head_instances_of universe no_formulas = 0
  head_instances_of universe (formula f fs) = head_instances universe f + head_instances_of universe fs

-- The weight of a clause tree: a body is copied to each instance of a head below it. Where there is no clause tree, all weighs as elsewhere.
abbrev mutual
  pub clause_weight : Universe → Formula → ℕ
  clause_weight universe (atom p ts) = 1
  clause_weight universe (implies f g) = 1 + (head_instances universe g * weight universe f + clause_weight universe g)
  clause_weight universe (all_of fs) = 1 + clause_weights universe fs
  clause_weight universe (for_all s f) = 1 + size universe s * clause_weight universe f
  clause_weight universe f = weight universe f

  pub clause_weights : Universe → Formulas → ℕ
  clause_weights universe no_formulas = 0
  clause_weights universe (formula f fs) = clause_weight universe f + clause_weights universe fs

-- ---- theories

-- what the sentences of groups weigh together, each as a clause tree
abbrev pub group_weights : Universe → List Group → ℕ
group_weights universe [] = 0
group_weights universe (group ∷ groups) = clause_weights universe (formulas_of group.sentences) + group_weights universe groups

-- what the axioms DEC5 to DEC12 and the release axioms weigh together
abbrev pub axiom_weights : Theory → ℕ
axiom_weights theory = weights (universe_of theory.signature) (formulas_of dec_axioms) + weights (universe_of theory.signature) (formulas_of (release_axioms theory.signature))

-- the weight of a theory: that of the remaining sentences, of the sentences of all groups, and of the axioms
abbrev pub weight_of : Theory → ℕ
weight_of theory = weights (universe_of theory.signature) (formulas_of theory.remaining) + group_weights (universe_of theory.signature) theory.groups + axiom_weights theory
