-- The trees of a theory have at most twice its weight of nodes, and one more for each atom; the effect atoms are fewer than its weight.
use Rattle.std.proofs.Common.{◌≡◌, ℕ, suc, ◌+◌, ◌*◌, ◌≤◌, ◌==◌, Bool, true, false, ◌&&◌, List, [], ◌∷◌, ◌++◌, length, map, filter, ℤ, Option, Some, None, slice_get, refl, ap, sym, subst, ◌∙◌, arith, if◌then◌else◌, mul-le-mul_right}
use Rattle.std.specs.List.{flat_map}
use Rattle.ec_logic.specs.Tree.{Formula}
use Rattle.ec_logic.specs.TreeList.{formulas_of}
use Rattle.ec_logic.specs.Universe.{Universe, universe_of}
use Rattle.ec_logic.specs.Value.{values, same_values}
use Rattle.ec_logic.specs.Atom.{GroundAtom, all_atoms, number_of}
use Rattle.ec_logic.specs.Axiom.{dec_axioms, release_axioms}
use Rattle.ec_logic.specs.Theory.{Group, Theory, is_in_group}
use Rattle.ec_logic.specs.Paths.{Path, paths, instances}
use Rattle.ec_logic.specs.Valid.{IsSignature}
use Rattle.ec_logic.proofs.Tests.{and_parts, test_cases, same_number, same_values_same}
use Rattle.ec_folding.specs.Tree.{Tree, nodes}
use Rattle.ec_folding.specs.Definition.{Definition, scope_nodes}
use Rattle.ec_grounding.specs.Folded.{Leaf, fixed, numbered, Reading, folded}
use Rattle.ec_grounding.specs.Scope.{is_head, instance_tree, path_trees, scope_of}
use Rattle.ec_grounding.specs.Grounded.{read_by_number, is_effect, group_with, reading_of, asserted, sentence_trees, atom_scope, definition_of}
use Rattle.ec_grounding.specs.WellFormed.{AreNumbered}
use Rattle.ec_grounding.proofs.Readings.{scope-effect, scope-other, group_of_scope}
use Rattle.ec_weight.specs.Weight.{weights, weight_of}
use Rattle.ec_nodes.specs.Nodes.{ground_nodes, HasFewNodes}
use Rattle.ec_nodes.proofs.EffectAtoms.{all_atoms_few}
use Rattle.ec_nodes.proofs.FoldedNodes.{nodes_in, nodes_in-append, nodes_in-trees, few_joined, few_folded}
use Rattle.ec_nodes.proofs.Sums.{sum_over, one, sum_over-append, sum_over_times, sum_over_swap, sum_over_less, passed_once}
use Rattle.ec_nodes.proofs.PathWeights.{most_instances, bodies_weight, path_weight, few_instances, few_instance, group_paths, few_groups}

mapped_nodes : {A : Type 0} (made : A → Tree) (n : ℕ) → ((x : A) → nodes (made x) ≤ n) → (xs : List A) → nodes_in (map made xs) ≤ length xs * n
mapped_nodes made n h [] = omega arith
mapped_nodes made n h (x ∷ xs) =
    let first = h x in
    let rest = mapped_nodes made n h xs in
    let more : length (x ∷ xs) * n ≡ n + length xs * n = omega arith in
    omega (arith, first, rest, more)

scope_nodes-append : (ds es : List Definition) → scope_nodes (ds ++ es) ≡ scope_nodes ds + scope_nodes es
scope_nodes-append [] es = omega arith
scope_nodes-append (d ∷ ds) es = let h = scope_nodes-append ds es in omega (arith, h)

module _ (universe : Universe) where
  -- ---- the tree of one atom

  -- how many instances of a path have an atom as their head
  abbrev matched : ℕ → List ℤ → Path → ℕ
  matched p vs q = length (filter (is_head universe p vs q) (instances universe [] q.steps))

  abbrev share : ℕ → List ℤ → Path → ℕ
  share p vs q = matched p vs q * bodies_weight universe q.steps

  module _ (reading : Reading) (p : ℕ) (vs : List ℤ) where
    path_nodes : (qs : List Path) → nodes_in (flat_map (path_trees universe reading p vs) qs) ≤ sum_over (share p vs) qs
    path_nodes [] = omega arith
    path_nodes (q ∷ qs) =
        let split = nodes_in-append (path_trees universe reading p vs q) (flat_map (path_trees universe reading p vs) qs) in
        let first = mapped_nodes (instance_tree universe reading q) (bodies_weight universe q.steps) (few_instance universe reading q) (filter (is_head universe p vs q) (instances universe [] q.steps)) in
        let rest = path_nodes qs in
        omega (arith, split, first, rest)

    scope_few : (sentences : List Formula) → nodes (scope_of universe reading sentences p vs) ≤ 1 + sum_over (share p vs) (flat_map paths sentences)
    scope_few sentences =
        let whole = few_joined false (flat_map (path_trees universe reading p vs) (flat_map paths sentences)) in
        let parts = path_nodes (flat_map paths sentences) in
        omega (arith, whole, parts)

  -- one group's paths are among those of all groups
  of_one_group : (f : Path → ℕ) (p : ℕ) (group : Group) (groups : List Group) → group_with groups p ≡ Some group → sum_over f (flat_map paths group.sentences) ≤ sum_over f (flat_map (group_paths universe) groups)
  of_one_group f p group [] e = absurd cc
  of_one_group f p group (x ∷ xs) e = by_test (is_in_group x p) e (of_one_group f p group xs)
    where
      split : sum_over f (flat_map (group_paths universe) (x ∷ xs)) ≡ sum_over f (flat_map paths x.sentences) + sum_over f (flat_map (group_paths universe) xs)
      split = sum_over-append f (group_paths universe x) (flat_map (group_paths universe) xs)

      by_test : (b : Bool) → (if b then Some x else group_with xs p) ≡ Some group → (group_with xs p ≡ Some group → sum_over f (flat_map paths group.sentences) ≤ sum_over f (flat_map (group_paths universe) xs)) → sum_over f (flat_map paths group.sentences) ≤ sum_over f (flat_map (group_paths universe) (x ∷ xs))
      by_test true h rest =
          let same : x ≡ group = cc in
          let A : Group → Type 0 = λ g. sum_over f (flat_map paths g.sentences) ≤ sum_over f (flat_map (group_paths universe) (x ∷ xs)) in
          subst A same (omega (arith, split))
      by_test false h rest = let later = rest h in omega (arith, split, later)

  -- ---- an instance's head is at most one atom

  abbrev is_atom : ℕ → List ℤ → GroundAtom → Bool
  is_atom q us atom = (q == atom.predicate) && same_values us atom.args

  no_other : (test : GroundAtom → Bool) (atoms : List GroundAtom) → ((k : ℕ) (atom : GroundAtom) → slice_get atoms k ≡ Some atom → test atom ≡ true → ⊥) → sum_over (λ atom. one (test atom)) atoms ≡ 0
  no_other test [] h = refl
  no_other test (x ∷ xs) h =
      let first : test x ≡ false = test_cases (test x ≡ false) (test x) (λ t. absurd (h 0 x refl t)) (λ t. t) in
      let rest = no_other test xs (λ k atom e t. h (suc k) atom e t) in
      rw first (omega (arith, rest))

  one_atom : (q : ℕ) (us : List ℤ) (low : ℕ) (atoms : List GroundAtom) → ((k : ℕ) (atom : GroundAtom) → slice_get atoms k ≡ Some atom → number_of universe atom.predicate atom.args ≡ Some (low + k)) → sum_over (λ atom. one (is_atom q us atom)) atoms ≤ 1
  one_atom q us low [] h = omega arith
  one_atom q us low (x ∷ xs) h =
      test_cases (sum_over (λ atom. one (is_atom q us atom)) (x ∷ xs) ≤ 1) (is_atom q us x)
      (λ t. let rest = no_other (is_atom q us) xs (different t) in rw t (omega (arith, rest)))
      (λ t. let rest = one_atom q us (suc low) xs (λ k atom e. let next : low + suc k ≡ suc low + k = omega arith in rw (← next) (h (suc k) atom e)) in rw t (omega (arith, rest)))
    where
      different : is_atom q us x ≡ true → (k : ℕ) (atom : GroundAtom) → slice_get xs k ≡ Some atom → is_atom q us atom ≡ true → ⊥
      different t k atom e s =
          let here = and_parts (q == x.predicate) (same_values us x.args) t in
          let there = and_parts (q == atom.predicate) (same_values us atom.args) s in
          let p-here = same_number q x.predicate here.0 in
          let p-there = same_number q atom.predicate there.0 in
          let v-here = same_values_same us x.args here.1 in
          let v-there = same_values_same us atom.args there.1 in
          let first : number_of universe q us ≡ Some (low + 0) = rw (p-here, v-here) (h 0 x refl) in
          let later : number_of universe q us ≡ Some (low + suc k) = rw (p-there, v-there) (h (suc k) atom e) in
          let same : low + 0 ≡ low + suc k = cc in
          omega (arith, same)

  module _ (places : AreNumbered universe) where
    matched_once : (q : Path) → sum_over (λ (atom : GroundAtom). matched atom.predicate atom.args q) (all_atoms universe) ≤ most_instances universe q.steps
    matched_once q =
        let all = passed_once (λ (atom : GroundAtom) env. is_head universe atom.predicate atom.args q env) (all_atoms universe)
        (λ env. one_atom q.predicate (values universe env q.args) 0 (all_atoms universe) (λ k atom e. let none_more : 0 + k ≡ k = omega arith in rw none_more (places k atom e))) (instances universe [] q.steps) in
        let most = few_instances universe [] q.steps in
        omega (arith, all, most)

    -- all atoms' shares of all paths
    all_shares : (qs : List Path) → sum_over (λ (atom : GroundAtom). sum_over (share atom.predicate atom.args) qs) (all_atoms universe) ≤ sum_over (path_weight universe) qs
    all_shares qs =
        let swap = sum_over_swap (λ (atom : GroundAtom) q. share atom.predicate atom.args q) (all_atoms universe) qs in
        let each = sum_over_less (λ q. sum_over (λ (atom : GroundAtom). share atom.predicate atom.args q) (all_atoms universe)) (path_weight universe) of_path qs in
        omega (arith, swap, each)
      where
        of_path : (q : Path) → sum_over (λ (atom : GroundAtom). share atom.predicate atom.args q) (all_atoms universe) ≤ path_weight universe q
        of_path q =
            let out = sum_over_times (λ (atom : GroundAtom). matched atom.predicate atom.args q) (bodies_weight universe q.steps) (all_atoms universe) in
            let most : sum_over (λ (atom : GroundAtom). matched atom.predicate atom.args q) (all_atoms universe) * bodies_weight universe q.steps ≤ most_instances universe q.steps * bodies_weight universe q.steps = mul-le-mul_right (bodies_weight universe q.steps) (matched_once q) in
            omega (arith, out, most)

module _ (theory : Theory) where
  abbrev over : Universe
  over = universe_of theory.signature

  abbrev all_paths : List Path
  all_paths = flat_map (group_paths over) theory.groups

  abbrev all_of_shares : GroundAtom → ℕ
  all_of_shares atom = sum_over (share over atom.predicate atom.args) all_paths

  tree_few : (p : ℕ) (vs : List ℤ) (tree : Tree) → atom_scope theory p vs ≡ Some tree → nodes tree ≤ 1 + sum_over (share over p vs) all_paths
  tree_few p vs tree e = test_cases (nodes tree ≤ 1 + sum_over (share over p vs) all_paths) (is_effect p)
      (λ t. group_of_scope theory p vs (nodes tree ≤ 1 + sum_over (share over p vs) all_paths) (read_by_number over) tree (sym (scope-effect theory p vs t) ∙ e) (λ group found same. of_group (read_by_number over) group found same))
      (λ t. group_of_scope theory p vs (nodes tree ≤ 1 + sum_over (share over p vs) all_paths) (reading_of theory) tree (sym (scope-other theory p vs t) ∙ e) (λ group found same. of_group (reading_of theory) group found same))
    where
      of_group : (reading : Reading) (group : Group) → group_with theory.groups p ≡ Some group → scope_of over reading group.sentences p vs ≡ tree → nodes tree ≤ 1 + sum_over (share over p vs) all_paths
      of_group reading group found same =
          let here = scope_few over reading p vs group.sentences in
          let among = of_one_group over (share over p vs) p group theory.groups found in
          let is = ap nodes same in
          omega (arith, here, among, is)

  definition_few : (p : ℕ) (vs : List ℤ) (leaf : Leaf) (o : Option Tree) → atom_scope theory p vs ≡ o → scope_nodes (definition_of leaf o) ≤ 1 + sum_over (share over p vs) all_paths
  definition_few p vs (fixed b) o e = omega arith
  definition_few p vs (numbered k) None e = omega arith
  definition_few p vs (numbered k) (Some tree) e = let h = tree_few p vs tree e in omega (arith, h)

  abbrev definition_at : GroundAtom → List Definition
  definition_at atom = definition_of (reading_of theory atom.predicate atom.args) (atom_scope theory atom.predicate atom.args)

  definitions_few : (atoms : List GroundAtom) → scope_nodes (flat_map definition_at atoms) ≤ length atoms + sum_over all_of_shares atoms
  definitions_few [] = omega arith
  definitions_few (x ∷ xs) =
      let split = scope_nodes-append (definition_at x) (flat_map definition_at xs) in
      let first = definition_few x.predicate x.args (reading_of theory x.predicate x.args) (atom_scope theory x.predicate x.args) refl in
      let rest = definitions_few xs in
      omega (arith, split, first, rest)

  abbrev tree_of : Formula → Tree
  tree_of f = folded over (reading_of theory) [] true f

  trees_few : (fs : List Formula) → nodes_in (map tree_of fs) ≤ 2 * weights over (formulas_of fs)
  trees_few [] = omega arith
  trees_few (f ∷ fs) = let first = few_folded over (reading_of theory) [] true f in let rest = trees_few fs in omega (arith, first, rest)

  weights-append : (fs gs : List Formula) → weights over (formulas_of (fs ++ gs)) ≡ weights over (formulas_of fs) + weights over (formulas_of gs)
  weights-append [] gs = omega arith
  weights-append (f ∷ fs) gs = let h = weights-append fs gs in omega (arith, h)

  nodes_by_atoms : AreNumbered over → ground_nodes theory ≤ 2 * weight_of theory + length (all_atoms over)
  nodes_by_atoms places =
      let sentences = trees_few (asserted theory) in
      let listed = nodes_in-trees (sentence_trees theory) in
      let front = weights-append theory.remaining dec_axioms in
      let whole = weights-append (theory.remaining ++ dec_axioms) (release_axioms theory.signature) in
      let defined = definitions_few (all_atoms over) in
      let shares = all_shares over places all_paths in
      let groups = few_groups over theory.groups in
      omega (arith, sentences, listed, front, whole, defined, shares, groups)

  pub few_nodes : IsSignature theory.signature → AreNumbered over → HasFewNodes theory
  few_nodes valid places =
      let nodes = nodes_by_atoms places in
      let atoms = all_atoms_few theory.signature valid in
      omega (arith, nodes, atoms)
