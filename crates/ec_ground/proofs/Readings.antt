-- What the constants that are found among the effect atoms make of atoms: what a theory's atoms are read as.
use Rattle.std.proofs.Common.{◌≡◌, ℕ, zero, suc, ◌<◌, Bool, true, false, List, [], ◌∷◌, length, ℤ, Option, Some, None, option_map, slice_get, take, drop, refl, ap, sym, ◌∙◌, arith}
use Rattle.std.proofs.Math.Path.{fun_ext}
use Rattle.std.specs.List.{slice_index_or}
use Rattle.std.specs.Option.{option_or}
use Rattle.ec_logic.specs.Universe.{Universe, universe_of}
use Rattle.ec_logic.specs.Atom.{GroundAtom, all_atoms, number_of}
use Rattle.ec_logic.specs.Theory.{Group, Theory}
use Rattle.ec_logic.specs.ValidTheory.{IsValidTheory, IsValidGroup}
use Rattle.ec_logic.specs.ClauseTree.{any_predicate}
use Rattle.ec_logic.proofs.Tests.{test_cases}
use Rattle.ec_logic.proofs.Extents.{arguments_length}
use Rattle.ec_logic.proofs.FewAtoms.{six_predicates}
use Rattle.ec_atom.proofs.AtomLaws.{atom_there, all_numbered}
use Rattle.ec_folding.specs.Tree.{Tree, always, never, literal, all_of, any_of}
use Rattle.ec_prop.specs.declared.tree.Prop.{Prop}
use Rattle.ec_prop.specs.Prop.{tree_of}
use Rattle.ec_grounding.specs.Folded.{fixed, numbered, Reading}
use Rattle.ec_grounding.specs.Scope.{scope_of}
use Rattle.ec_grounding.specs.Grounded.{leaf_of, read_by_number, is_effect, group_with, scope_in, settled, effect_scope, reading_of, atom_scope}
use Rattle.ec_grounding.proofs.Groups.{found_group}
use Rattle.ec_grounding.proofs.KnownPredicates.{is_known, known_below}
use Rattle.ec_grounding.proofs.KnownTheory.{group_known}
use Rattle.ec_grounding.proofs.Readings.{reading-effect, reading-other, scope-effect, scope-other}
use Rattle.ec_grounding.proofs.SameReading.{same_scope}
use Rattle.ec_fold.specs.Known.{known_or, leaf_known, read_with}
use Rattle.ec_gather.specs.Scopes.{AreScopes}
use Rattle.ec_ground.specs.Constants.{constant_in, constants_of}
use Rattle.ec_ground.specs.Listed.{scope_at}
use Rattle.ec_ground.proofs.Groups.{effect_in_first, other_not_in_first, other_in_rest, effect_found}

-- ---- no constant is known yet

none_known : (o : Option ℕ) → leaf_known [] o ≡ leaf_of o
none_known None = refl
none_known (Some k) = refl

pub unsettled : (universe : Universe) → read_with universe [] ≡ read_by_number universe
unsettled universe = fun_ext (λ p. fun_ext (λ vs. none_known (number_of universe p vs)))

-- ---- the constants

constant_at : (scopes : List (Option Prop)) (k : ℕ) → slice_index_or (constants_of scopes) k None ≡ constant_in (option_map tree_of (slice_index_or scopes k None))
constant_at [] k = refl
constant_at (s ∷ ss) zero = refl
constant_at (s ∷ ss) (suc k) = constant_at ss k

-- an atom that is known to be its tree's constant is settled
settled_as_known : (t : Option Tree) (k : ℕ) → known_or (constant_in t) k ≡ settled (numbered k) t
settled_as_known None k = refl
settled_as_known (Some always) k = refl
settled_as_known (Some never) k = refl
settled_as_known (Some (literal a s)) k = refl
settled_as_known (Some (all_of ts)) k = refl
settled_as_known (Some (any_of ts)) k = refl

settled_nowhere : (t : Option Tree) → fixed false ≡ settled (fixed false) t
settled_nowhere None = refl
settled_nowhere (Some always) = refl
settled_nowhere (Some never) = refl
settled_nowhere (Some (literal a s)) = refl
settled_nowhere (Some (all_of ts)) = refl
settled_nowhere (Some (any_of ts)) = refl

tree_of-or : (s t : Option Prop) → option_map tree_of (option_or s t) ≡ option_or (option_map tree_of s) (option_map tree_of t)
tree_of-or None t = refl
tree_of-or (Some scope) t = refl

module _ (theory : Theory) (valid : IsValidTheory theory) where
  abbrev universe : Universe
  universe = universe_of theory.signature

  pub places : (k : ℕ) (atom : GroundAtom) → slice_get (all_atoms universe) k ≡ Some atom → number_of universe atom.predicate atom.args ≡ Some k
  places = all_numbered universe (six_predicates theory.signature valid.signature)

  module _ (effects : List (Option Prop)) (gathered : AreScopes universe (read_with universe []) (take 1 theory.groups) effects) where
    abbrev known : List (Option Bool)
    known = constants_of effects

    -- ---- the trees of effect atoms

    effect_tree : (k : ℕ) (atom : GroundAtom) → slice_get (all_atoms universe) k ≡ Some atom → is_effect atom.predicate ≡ true → option_map tree_of (slice_index_or effects k None) ≡ effect_scope theory atom.predicate atom.args
    effect_tree k atom there e =
        gathered.each k atom there
        ∙ (ap (λ (reading : Reading). scope_in universe reading atom.predicate atom.args (group_with (take 1 theory.groups) atom.predicate)) (unsettled universe)
        ∙ ap (scope_in universe (read_by_number universe) atom.predicate atom.args) (effect_in_first atom.predicate theory.groups valid.effects_first e))

    no_tree : (k : ℕ) (atom : GroundAtom) → slice_get (all_atoms universe) k ≡ Some atom → is_effect atom.predicate ≡ false → option_map tree_of (slice_index_or effects k None) ≡ None
    no_tree k atom there e =
        gathered.each k atom there
        ∙ ap (scope_in universe (read_with universe []) atom.predicate atom.args) (other_not_in_first atom.predicate theory.groups valid.effects_first e)

    -- ---- what atoms are read as

    -- an atom with a number
    pub reads_at : (k : ℕ) (atom : GroundAtom) → slice_get (all_atoms universe) k ≡ Some atom → known_or (slice_index_or known k None) k ≡ reading_of theory atom.predicate atom.args
    reads_at k atom there =
        test_cases (known_or (slice_index_or known k None) k ≡ reading_of theory atom.predicate atom.args) (is_effect atom.predicate)
        (λ e. constant k (effect_scope theory atom.predicate atom.args) (effect_tree k atom there e)
        ∙ (settled_as_known (effect_scope theory atom.predicate atom.args) k
        ∙ (ap (λ o. settled (leaf_of o) (effect_scope theory atom.predicate atom.args)) (sym (places k atom there))
        ∙ sym (reading-effect theory atom.predicate atom.args e))))
        (λ e. constant k None (no_tree k atom there e)
        ∙ (ap leaf_of (sym (places k atom there))
        ∙ sym (reading-other theory atom.predicate atom.args e)))
      where
        constant : (k : ℕ) (t : Option Tree) → option_map tree_of (slice_index_or effects k None) ≡ t → known_or (slice_index_or known k None) k ≡ known_or (constant_in t) k
        constant k t e = ap (λ c. known_or c k) (constant_at effects k ∙ ap constant_in e)

    -- an atom without one is False
    nowhere : (p : ℕ) (vs : List ℤ) → number_of universe p vs ≡ None → fixed false ≡ reading_of theory p vs
    nowhere p vs none =
        test_cases (fixed false ≡ reading_of theory p vs) (is_effect p)
        (λ e. settled_nowhere (effect_scope theory p vs) ∙ (ap (λ o. settled (leaf_of o) (effect_scope theory p vs)) (sym none) ∙ sym (reading-effect theory p vs e)))
        (λ e. ap leaf_of (sym none) ∙ sym (reading-other theory p vs e))

    pub reads : (p : ℕ) (vs : List ℤ) → is_known theory.signature p ≡ true → read_with universe known p vs ≡ reading_of theory p vs
    reads p vs low = by_number (number_of universe p vs) refl
      where
        below : p < length universe.predicates
        below = let l = known_below theory.signature p low in omega (arith, l, arguments_length theory.signature.predicates)

        by_number : (o : Option ℕ) → number_of universe p vs ≡ o → leaf_known known o ≡ reading_of theory p vs
        by_number None e = nowhere p vs e
        by_number (Some k) e = reads_at k (record { predicate = p; args = vs }) (atom_there universe p k vs below e)

    -- ---- the trees of all atoms

    module _ (others : List (Option Prop)) (rest : AreScopes universe (read_with universe known) (drop 1 theory.groups) others) where
      same_trees : (p : ℕ) (vs : List ℤ) (o : Option Group) → group_with theory.groups p ≡ o → scope_in universe (read_with universe known) p vs o ≡ scope_in universe (reading_of theory) p vs o
      same_trees p vs None found = refl
      same_trees p vs (Some group) found =
          let both = found_group p group (IsValidGroup theory.signature) theory.groups valid.groups found in
          ap Some (same_scope (is_known theory.signature) universe (read_with universe known) (reading_of theory) reads p vs any_predicate group.sentences (group_known theory valid group both.0))

      pub tree_at : (k : ℕ) (atom : GroundAtom) → slice_get (all_atoms universe) k ≡ Some atom → scope_at effects others k ≡ atom_scope theory atom.predicate atom.args
      tree_at k atom there =
          tree_of-or (slice_index_or effects k None) (slice_index_or others k None)
          ∙ test_cases (option_or (option_map tree_of (slice_index_or effects k None)) (option_map tree_of (slice_index_or others k None)) ≡ atom_scope theory atom.predicate atom.args) (is_effect atom.predicate)
          (λ e. effect_found (option_or (option_map tree_of (slice_index_or effects k None)) (option_map tree_of (slice_index_or others k None)) ≡ atom_scope theory atom.predicate atom.args) theory.groups atom.predicate valid.effects_first e
          (λ group found.
          let tree = scope_of universe (read_by_number universe) group.sentences atom.predicate atom.args in
          let is : effect_scope theory atom.predicate atom.args ≡ Some tree = ap (scope_in universe (read_by_number universe) atom.predicate atom.args) found in
          ap (λ t. option_or t (option_map tree_of (slice_index_or others k None))) (effect_tree k atom there e ∙ is)
          ∙ (sym is ∙ sym (scope-effect theory atom.predicate atom.args e))))
          (λ e.
          ap (λ t. option_or t (option_map tree_of (slice_index_or others k None))) (no_tree k atom there e)
          ∙ (rest.each k atom there
          ∙ (ap (scope_in universe (read_with universe known) atom.predicate atom.args) (other_in_rest atom.predicate theory.groups valid.effects_first e)
          ∙ (same_trees atom.predicate atom.args (group_with theory.groups atom.predicate) refl
          ∙ sym (scope-other theory atom.predicate atom.args e)))))
