-- The paths of a clause tree, with their instances, weigh at most what the clause tree does.
use Rattle.std.proofs.Common.{◌≡◌, ℕ, suc, ◌+◌, ◌*◌, ◌≤◌, true, List, [], ◌∷◌, length, map, ℤ, refl, ap, ◌∙◌, arith, mul-le-mul_right, mul-le-mul_left}
use Rattle.std.specs.List.{flat_map}
use Rattle.std.proofs.lemmas.List.{length-append}
use Rattle.ec_logic.specs.Tree.{Formula, verum, falsum, atom, equal, less, negation, all_of, any_of, implies, iff, for_all, exists, Formulas, no_formulas, formula}
use Rattle.ec_logic.specs.TreeList.{formulas_of}
use Rattle.ec_logic.specs.Universe.{Universe}
use Rattle.ec_logic.specs.Place.{kept_values}
use Rattle.ec_logic.specs.Shift.{shifted, shifted_each}
use Rattle.ec_logic.specs.Paths.{Step, binder, body, Path, under, paths, paths_of, instances, binders, bodies}
use Rattle.ec_logic.specs.Theory.{Group}
use Rattle.ec_grounding.specs.Folded.{Reading, folded}
use Rattle.ec_grounding.specs.Scope.{instance_tree}
use Rattle.ec_folding.specs.Tree.{nodes}
use Rattle.ec_weight.specs.Weight.{size, weight, weights, head_instances, head_instances_of, clause_weight, clause_weights, group_weights}
use Rattle.ec_nodes.proofs.FoldedNodes.{nodes_in, few_joined, few_folded, few_values}
use Rattle.ec_nodes.proofs.Sums.{sum_over, sum_over-append}

module _ (universe : Universe) where
  -- the greatest number of instances
  abbrev pub most_instances : List Step → ℕ
  most_instances [] = 1
  most_instances (binder s f ∷ steps) = size universe s * most_instances steps
  most_instances (body f ∷ steps) = most_instances steps

  -- twice what the bodies weigh, and one
  abbrev pub bodies_weight : List Step → ℕ
  bodies_weight [] = 1
  bodies_weight (binder s f ∷ steps) = bodies_weight steps
  bodies_weight (body f ∷ steps) = 2 * weight universe f + bodies_weight steps

  abbrev pub path_weight : Path → ℕ
  path_weight path = most_instances path.steps * bodies_weight path.steps

  abbrev pub path_instances : Path → ℕ
  path_instances path = most_instances path.steps

  each_length : (made : ℤ → List (List ℤ)) (n : ℕ) → ((x : ℤ) → length (made x) ≤ n) → (xs : List ℤ) → length (flat_map made xs) ≤ length xs * n
  each_length made n h [] = omega arith
  each_length made n h (x ∷ xs) =
      let split = length-append (made x) (flat_map made xs) in
      let first = h x in
      let rest = each_length made n h xs in
      let more : length (x ∷ xs) * n ≡ n + length xs * n = omega arith in
      omega (arith, split, first, rest, more)

  pub few_instances : (env : List ℤ) (steps : List Step) → length (instances universe env steps) ≤ most_instances steps
  few_instances env [] = omega arith
  few_instances env (binder s f ∷ steps) =
      let all = each_length (λ v. instances universe (v ∷ env) steps) (most_instances steps) (λ v. few_instances (v ∷ env) steps) (kept_values universe env s f) in
      let most : length (kept_values universe env s f) * most_instances steps ≤ size universe s * most_instances steps = mul-le-mul_right (most_instances steps) (few_values universe env s f) in
      omega (arith, all, most)
  few_instances env (body f ∷ steps) = few_instances env steps

  mutual
    weight-shifted : (from by : ℕ) (f : Formula) → weight universe (shifted from by f) ≡ weight universe f
    weight-shifted from by verum = refl
    weight-shifted from by falsum = refl
    weight-shifted from by (atom p ts) = refl
    weight-shifted from by (equal a b) = refl
    weight-shifted from by (less a b) = refl
    weight-shifted from by (negation f) = ap (λ n. 1 + n) (weight-shifted from by f)
    weight-shifted from by (all_of fs) = ap (λ n. 1 + n) (weights-shifted from by fs)
    weight-shifted from by (any_of fs) = ap (λ n. 1 + n) (weights-shifted from by fs)
    weight-shifted from by (implies f g) = rw (weight-shifted from by f, weight-shifted from by g) refl
    weight-shifted from by (iff f g) = rw (weight-shifted from by f, weight-shifted from by g) refl
    weight-shifted from by (for_all s f) = ap (λ n. 1 + size universe s * n) (weight-shifted (suc from) by f)
    weight-shifted from by (exists s f) = ap (λ n. 1 + size universe s * n) (weight-shifted (suc from) by f)

    weights-shifted : (from by : ℕ) (fs : Formulas) → weights universe (shifted_each from by fs) ≡ weights universe fs
    weights-shifted from by no_formulas = refl
    weights-shifted from by (formula f fs) = rw (weight-shifted from by f, weights-shifted from by fs) refl

  module _ (reading : Reading) where
    few_bodies : (env : List ℤ) (steps : List Step) → 1 + nodes_in (map (folded universe reading env true) (bodies steps)) ≤ bodies_weight steps
    few_bodies env [] = omega arith
    few_bodies env (binder s f ∷ steps) = few_bodies env steps
    few_bodies env (body f ∷ steps) =
        let first = few_folded universe reading env true (shifted 0 (binders steps) f) in
        let same = weight-shifted 0 (binders steps) f in
        let rest = few_bodies env steps in
        omega (arith, first, same, rest)

    pub few_instance : (path : Path) (env : List ℤ) → nodes (instance_tree universe reading path env) ≤ bodies_weight path.steps
    few_instance path env =
        let whole = few_joined true (map (folded universe reading env true) (bodies path.steps)) in
        let parts = few_bodies env path.steps in
        omega (arith, whole, parts)

  -- ---- all paths of a clause tree

  under_body : (f : Formula) (qs : List Path) → sum_over path_weight (map (under (body f)) qs) ≡ 2 * (sum_over path_instances qs * weight universe f) + sum_over path_weight qs
  under_body f [] = omega arith
  under_body f (q ∷ qs) =
      let rest = under_body f qs in
      let first : most_instances q.steps * (2 * weight universe f + bodies_weight q.steps) ≡ 2 * (most_instances q.steps * weight universe f) + most_instances q.steps * bodies_weight q.steps = omega arith in
      let more : (most_instances q.steps + sum_over path_instances qs) * weight universe f ≡ most_instances q.steps * weight universe f + sum_over path_instances qs * weight universe f = omega arith in
      omega (arith, rest, first, more)

  body_instances : (f : Formula) (qs : List Path) → sum_over path_instances (map (under (body f)) qs) ≡ sum_over path_instances qs
  body_instances f [] = refl
  body_instances f (q ∷ qs) = ap (λ n. most_instances q.steps + n) (body_instances f qs)

  under_binder : (s : ℕ) (f : Formula) (qs : List Path) → sum_over path_weight (map (under (binder s f)) qs) ≡ size universe s * sum_over path_weight qs
  under_binder s f [] = omega arith
  under_binder s f (q ∷ qs) =
      let rest = under_binder s f qs in
      let first : size universe s * most_instances q.steps * bodies_weight q.steps ≡ size universe s * (most_instances q.steps * bodies_weight q.steps) = omega arith in
      let more : size universe s * (most_instances q.steps * bodies_weight q.steps + sum_over path_weight qs) ≡ size universe s * (most_instances q.steps * bodies_weight q.steps) + size universe s * sum_over path_weight qs = omega arith in
      omega (arith, rest, first, more)

  binder_instances : (s : ℕ) (f : Formula) (qs : List Path) → sum_over path_instances (map (under (binder s f)) qs) ≡ size universe s * sum_over path_instances qs
  binder_instances s f [] = omega arith
  binder_instances s f (q ∷ qs) =
      let rest = binder_instances s f qs in
      let more : size universe s * (most_instances q.steps + sum_over path_instances qs) ≡ size universe s * most_instances q.steps + size universe s * sum_over path_instances qs = omega arith in
      omega (arith, rest, more)

  mutual
    all_instances : (f : Formula) → sum_over path_instances (paths f) ≡ head_instances universe f
    all_instances verum = refl
    all_instances falsum = refl
    all_instances (atom p ts) = refl
    all_instances (equal a b) = refl
    all_instances (less a b) = refl
    all_instances (negation f) = refl
    all_instances (all_of fs) = all_of_instances fs
    all_instances (any_of fs) = refl
    all_instances (implies f g) = body_instances f (paths g) ∙ all_instances g
    all_instances (iff f g) = refl
    all_instances (for_all s f) = binder_instances s f (paths f) ∙ ap (λ n. size universe s * n) (all_instances f)
    all_instances (exists s f) = refl

    all_of_instances : (fs : Formulas) → sum_over path_instances (paths_of fs) ≡ head_instances_of universe fs
    all_of_instances no_formulas = refl
    all_of_instances (formula f fs) = sum_over-append path_instances (paths f) (paths_of fs) ∙ (rw (all_instances f, all_of_instances fs) refl)

  mutual
    few_paths : (f : Formula) → sum_over path_weight (paths f) ≤ 2 * clause_weight universe f
    few_paths verum = omega arith
    few_paths falsum = omega arith
    few_paths (atom p ts) = omega arith
    few_paths (equal a b) = omega arith
    few_paths (less a b) = omega arith
    few_paths (negation f) = omega arith
    few_paths (all_of fs) = let h = few_paths_of fs in omega (arith, h)
    few_paths (any_of fs) = omega arith
    few_paths (implies f g) =
        let h = under_body f (paths g) in
        let heads : sum_over path_instances (paths g) * weight universe f ≡ head_instances universe g * weight universe f = ap (λ n. n * weight universe f) (all_instances g) in
        let rest = few_paths g in
        omega (arith, h, heads, rest)
    few_paths (iff f g) = omega arith
    few_paths (for_all s f) =
        let h = under_binder s f (paths f) in
        let most : size universe s * sum_over path_weight (paths f) ≤ size universe s * (2 * clause_weight universe f) = mul-le-mul_left (size universe s) (few_paths f) in
        let twice : size universe s * (2 * clause_weight universe f) ≡ 2 * (size universe s * clause_weight universe f) = omega arith in
        omega (arith, h, most, twice)
    few_paths (exists s f) = omega arith

    few_paths_of : (fs : Formulas) → sum_over path_weight (paths_of fs) ≤ 2 * clause_weights universe fs
    few_paths_of no_formulas = omega arith
    few_paths_of (formula f fs) =
        let split = sum_over-append path_weight (paths f) (paths_of fs) in
        let first = few_paths f in
        let rest = few_paths_of fs in
        omega (arith, split, first, rest)

  few_sentences : (fs : List Formula) → sum_over path_weight (flat_map paths fs) ≤ 2 * clause_weights universe (formulas_of fs)
  few_sentences [] = omega arith
  few_sentences (f ∷ fs) =
      let split = sum_over-append path_weight (paths f) (flat_map paths fs) in
      let first = few_paths f in
      let rest = few_sentences fs in
      omega (arith, split, first, rest)

  abbrev pub group_paths : Group → List Path
  group_paths group = flat_map paths group.sentences

  pub few_groups : (groups : List Group) → sum_over path_weight (flat_map group_paths groups) ≤ 2 * group_weights universe groups
  few_groups [] = omega arith
  few_groups (group ∷ groups) =
      let split = sum_over-append path_weight (group_paths group) (flat_map group_paths groups) in
      let first = few_sentences group.sentences in
      let rest = few_groups groups in
      omega (arith, split, first, rest)
