-- The trees of effect atoms are of visible atoms alone, and no two definitions are of one atom.
use Rattle.std.proofs.Common.{◌≡◌, ℕ, suc, ◌+◌, ◌<◌, ◌≤◌, ◌==◌, Bool, true, false, not, List, [], ◌∷◌, ◌++◌, length, ℤ, All, Option, Some, None, slice_get, refl, ap, sym, subst, ◌∙◌, arith}
use Rattle.std.specs.List.{list_any, flat_map}
use Rattle.std.proofs.lemmas.List.Elements.{All-nil, All-cons, All-append, All-weaker}
use Rattle.std.proofs.lemmas.Option.{slice_get-get_or, slice_get_within}
use Rattle.ec_logic.specs.Universe.{Universe, universe_of}
use Rattle.ec_logic.specs.Atom.{GroundAtom, visible_atoms, all_atoms, number_of}
use Rattle.ec_logic.specs.Truth.{Structure}
use Rattle.ec_logic.specs.Theory.{Group, Theory, is_in_group}
use Rattle.ec_logic.specs.ClauseTree.{any_predicate}
use Rattle.ec_logic.specs.ValidTheory.{IsValidTheory, IsValidGroup}
use Rattle.ec_logic.proofs.Tests.{and_parts, not_true}
use Rattle.ec_folding.specs.Tree.{Tree, true_in}
use Rattle.ec_folding.specs.Definition.{Definition}
use Rattle.ec_grounding.specs.Folded.{Leaf, fixed, numbered, leaf_truth}
use Rattle.ec_grounding.specs.Scope.{scope_of}
use Rattle.ec_grounding.specs.Grounded.{leaf_of, read_by_number, is_effect, group_with, reading_of, atom_scope, definition_of, definitions}
use Rattle.ec_grounding.specs.WellFormed.{AreNumbered, visible_count}
use Rattle.ec_grounding.proofs.Groups.{found_group, effect_group}
use Rattle.ec_grounding.proofs.KnownPredicates.{is_known, known_below}
use Rattle.ec_grounding.proofs.KnownTheory.{group_known}
use Rattle.ec_grounding.proofs.Readings.{scope-effect, group_of_scope}
use Rattle.ec_grounding.proofs.TruthWhere.{true_in-scope_where, both_tests, both_sentences}
use Rattle.ec_audit.specs.Fillable.{Rises, ReadsVisible}
use Rattle.ec_cnf.proofs.AtomsRead.{numbered_is, each_numbered, effect_atoms, parts, visible_others, effects_are, in_front, all_at, all_joined_each}

module _ (theory : Theory) (valid : IsValidTheory theory) (places : AreNumbered (universe_of theory.signature)) where
  abbrev universe : Universe
  universe = universe_of theory.signature

  abbrev IsVisible : ℕ → Type 0
  IsVisible a = a < visible_count theory

  -- ---- an atom that is of no effect predicate has the number of a visible one

  abbrev Seen : GroundAtom → Type 0
  Seen atom = is_effect atom.predicate ≡ false → (k : ℕ) → number_of universe atom.predicate atom.args ≡ Some k → IsVisible k

  seen_here : (i : ℕ) (atom : GroundAtom) → slice_get (visible_atoms universe) i ≡ Some atom → Seen atom
  seen_here i atom e other k number =
      let place = places i atom (ap (λ xs. slice_get xs i) (parts theory) ∙ in_front (visible_atoms universe) (effect_atoms theory) i atom e) in
      let same : i ≡ k = cc in
      let low = slice_get_within (visible_atoms universe) i atom e in
      omega (arith, low, same)

  all_seen : All Seen (all_atoms universe)
  all_seen =
      let front : All Seen (visible_atoms universe) = λ k d l. seen_here k _ (slice_get-get_or (visible_atoms universe) k d l) in
      let behind = All-weaker (λ (atom : GroundAtom). is_effect atom.predicate ≡ true) Seen (λ atom effect other. absurd cc) (effect_atoms theory) (effects_are theory) in
      subst (All Seen) (sym (parts theory)) (All-append Seen (visible_atoms universe) (effect_atoms theory) front behind)

  seen_number : (p k : ℕ) (vs : List ℤ) → p < length theory.signature.predicates → is_effect p ≡ false → number_of universe p vs ≡ Some k → IsVisible k
  seen_number p k vs known other number = each_numbered theory Seen all_seen p k vs known number other k number

  -- ---- the tree of an effect atom

  -- two truths of the atoms that are the same at the visible ones
  module _ (v w : ℕ → Bool) (same : (a : ℕ) → a < visible_count theory → v a ≡ w a) where
    leaf_same : (o : Option ℕ) → ((k : ℕ) → o ≡ Some k → IsVisible k) → leaf_truth v (leaf_of o) ≡ leaf_truth w (leaf_of o)
    leaf_same None low = refl
    leaf_same (Some k) low = same k (low k refl)

    -- give the tree of an effect atom the same truth: it has no atom of an effect predicate
    effect_tree_same : (p : ℕ) (vs : List ℤ) (group : Group) → is_effect p ≡ true → group_with theory.groups p ≡ Some group
        → true_in v (scope_of universe (read_by_number universe) group.sentences p vs) ≡ true_in w (scope_of universe (read_by_number universe) group.sentences p vs)
    effect_tree_same p vs group e found =
        let both = found_group p group (IsValidGroup theory.signature) theory.groups valid.groups found in
        let is = effect_group p group theory.groups valid.effects_first e found in
        let free : ℕ → Bool = λ q. not (is_in_group group q) in
        let test = both_tests free (is_known theory.signature) in
        let m : Structure = λ q us. leaf_truth w (read_by_number universe q us) in
        let clauses = both_sentences free (is_known theory.signature) (is_in_group group) any_predicate group.sentences both.0.clause_form (group_known theory valid group both.0) in
        let by_v = true_in-scope_where universe m (read_by_number universe) v test
        (λ q us t. (
        let tests = and_parts (free q) (is_known theory.signature q) t in
        let other : is_effect q ≡ false = sym (ap (list_any (λ r. r == q)) is) ∙ not_true (is_in_group group q) tests.0 in
        leaf_same (number_of universe q us) (λ k number. seen_number q k us (known_below theory.signature q tests.1) other number)))
        (is_in_group group) group.sentences p vs clauses in
        let by_w = true_in-scope_where universe m (read_by_number universe) w test (λ q us t. refl) (is_in_group group) group.sentences p vs clauses in
        by_v ∙ sym by_w

    scope_same_at : (p : ℕ) (vs : List ℤ) (tree : Tree) → is_effect p ≡ true → atom_scope theory p vs ≡ Some tree → true_in v tree ≡ true_in w tree
    scope_same_at p vs tree effect e =
        group_of_scope theory p vs (true_in v tree ≡ true_in w tree) (read_by_number universe) tree (sym (scope-effect theory p vs effect) ∙ e)
        (λ group found is. subst (λ (t : Tree). true_in v t ≡ true_in w t) is (effect_tree_same p vs group effect found))

  -- ---- all definitions

  of_definition : (P : Definition → Type 0) (leaf : Leaf) (o : Option Tree) → ((k : ℕ) (tree : Tree) → leaf ≡ numbered k → o ≡ Some tree → P (record { atom = k; scope = tree })) → All P (definition_of leaf o)
  of_definition P (fixed b) o go = All-nil P
  of_definition P (numbered k) None go = All-nil P
  of_definition P (numbered k) (Some tree) go = All-cons P (record { atom = k; scope = tree }) [] (go k tree refl refl) (All-nil P)

  abbrev definition_at : GroundAtom → List Definition
  definition_at atom = definition_of (reading_of theory atom.predicate atom.args) (atom_scope theory atom.predicate atom.args)

  abbrev Right : GroundAtom → Type 0
  Right atom = All (ReadsVisible (visible_count theory)) (definition_at atom)

  right_here : (i : ℕ) (atom : GroundAtom) → slice_get (visible_atoms universe) i ≡ Some atom → Right atom
  right_here i atom e = of_definition (ReadsVisible (visible_count theory)) (reading_of theory atom.predicate atom.args) (atom_scope theory atom.predicate atom.args)
      (λ k tree r h far v w same. (
      let other = all_at (λ (x : GroundAtom). is_effect x.predicate ≡ false) (visible_atoms universe) (visible_others theory) i atom e in
      let low = seen_here i atom e other k (numbered_is theory atom.predicate k atom.args r) in
      absurd (omega (arith, low, far))))

  pub visible_scopes : All (ReadsVisible (visible_count theory)) (definitions theory)
  visible_scopes =
      let front : All Right (visible_atoms universe) = λ k d l. right_here k _ (slice_get-get_or (visible_atoms universe) k d l) in
      let behind : All Right (effect_atoms theory) = All-weaker (λ (atom : GroundAtom). is_effect atom.predicate ≡ true) Right
      (λ atom effect. of_definition (ReadsVisible (visible_count theory)) (reading_of theory atom.predicate atom.args) (atom_scope theory atom.predicate atom.args)
      (λ k tree r h far v w same. scope_same_at v w same atom.predicate atom.args tree effect h)) (effect_atoms theory) (effects_are theory) in
      all_joined_each (ReadsVisible (visible_count theory)) definition_at (all_atoms universe) (subst (All Right) (sym (parts theory)) (All-append Right (visible_atoms universe) (effect_atoms theory) front behind))

  -- ---- the atoms of definitions rise

  rises_weaker : (low high : ℕ) (ds : List Definition) → low ≤ high → Rises high ds → Rises low ds
  rises_weaker low high [] l h = tt
  rises_weaker low high (d ∷ ds) l h = let first = h.0 in (omega (arith, l, first), h.1)

  rising : (low : ℕ) (atoms : List GroundAtom) → ((k : ℕ) (atom : GroundAtom) → slice_get atoms k ≡ Some atom → number_of universe atom.predicate atom.args ≡ Some (low + k)) → Rises low (flat_map definition_at atoms)
  rising low [] h = tt
  rising low (x ∷ xs) h = with_first (reading_of theory x.predicate x.args) refl (atom_scope theory x.predicate x.args) (rising (suc low) xs (λ k atom e. let next : low + suc k ≡ suc low + k = omega arith in rw (← next) (h (suc k) atom e)))
    where
      with_first : (leaf : Leaf) → reading_of theory x.predicate x.args ≡ leaf → (o : Option Tree) → Rises (suc low) (flat_map definition_at xs) → Rises low (definition_of leaf o ++ flat_map definition_at xs)
      with_first (fixed b) e o rest = rises_weaker low (suc low) (flat_map definition_at xs) (omega arith) rest
      with_first (numbered k) e None rest = rises_weaker low (suc low) (flat_map definition_at xs) (omega arith) rest
      with_first (numbered k) e (Some tree) rest =
          let number = numbered_is theory x.predicate k x.args e in
          let place = h 0 x refl in
          let zero_more : low + 0 ≡ low = omega arith in
          let here : number_of universe x.predicate x.args ≡ Some low = rw zero_more at place in
          let same : low ≡ k = cc in
          let A : ℕ → Type 0 = λ n. Rises low (record { atom = n; scope = tree } ∷ flat_map definition_at xs) in
          subst A same (omega arith, rest)

  pub atoms_rise : Rises 0 (definitions theory)
  atoms_rise = rising 0 (all_atoms universe) (λ k atom e. let none_more : 0 + k ≡ k = omega arith in rw none_more (places k atom e))
