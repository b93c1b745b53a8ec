-- What the atoms of a theory are read as, and which trees they have, case by case.
use Rattle.std.proofs.Common.{◌≡◌, ℕ, Bool, true, false, List, ℤ, Option, Some, None, refl, ap, sym, ◌∙◌, if◌then◌else◌}
use Rattle.ec_logic.specs.Universe.{Universe, universe_of}
use Rattle.ec_logic.specs.Theory.{Group, Theory}
use Rattle.ec_logic.proofs.Tests.{test_cases}
use Rattle.ec_folding.specs.Tree.{Tree, always, never, literal, all_of, any_of, true_in}
use Rattle.ec_grounding.specs.Folded.{fixed, Reading}
use Rattle.ec_grounding.specs.Scope.{scope_of}
use Rattle.ec_grounding.specs.Grounded.{leaf_of, read_by_number, is_effect, group_with, scope_in, settled, effect_scope, reading_of, atom_scope}

pub chosen : {A : Type 0} (b : Bool) (x y : A) → b ≡ true → (if b then x else y) ≡ x
chosen true x y e = refl
chosen false x y e = cc

pub rejected : {A : Type 0} (b : Bool) (x y : A) → b ≡ false → (if b then x else y) ≡ y
rejected true x y e = cc
rejected false x y e = refl

-- a constant is that of no number, or that of a tree
pub settled_cases : (C : Type 0) (v : ℕ → Bool) (o : Option ℕ) (t : Option Tree) (b : Bool) → (o ≡ None → b ≡ false → C) → ((tree : Tree) → t ≡ Some tree → true_in v tree ≡ b → C) → settled (leaf_of o) t ≡ fixed b → C
settled_cases C v None t b none some e = let is : b ≡ false = cc in none refl is
settled_cases C v (Some k) None b none some e = absurd cc
settled_cases C v (Some k) (Some always) b none some e = let is : true ≡ b = cc in some always refl is
settled_cases C v (Some k) (Some never) b none some e = let is : false ≡ b = cc in some never refl is
settled_cases C v (Some k) (Some (literal a s)) b none some e = absurd cc
settled_cases C v (Some k) (Some (all_of ts)) b none some e = absurd cc
settled_cases C v (Some k) (Some (any_of ts)) b none some e = absurd cc

pub plain_cases : (C : Type 0) (o : Option ℕ) (b : Bool) → (o ≡ None → b ≡ false → C) → leaf_of o ≡ fixed b → C
plain_cases C None b none e = let is : b ≡ false = cc in none refl is
plain_cases C (Some k) b none e = absurd cc

module _ (theory : Theory) where
  abbrev universe : Universe
  universe = universe_of theory.signature

  module _ (p : ℕ) (vs : List ℤ) where
    pub reading-effect : is_effect p ≡ true → reading_of theory p vs ≡ settled (read_by_number universe p vs) (effect_scope theory p vs)
    reading-effect e = chosen (is_effect p) (settled (read_by_number universe p vs) (effect_scope theory p vs)) (read_by_number universe p vs) e

    pub reading-other : is_effect p ≡ false → reading_of theory p vs ≡ read_by_number universe p vs
    reading-other e = rejected (is_effect p) (settled (read_by_number universe p vs) (effect_scope theory p vs)) (read_by_number universe p vs) e

    pub scope-effect : is_effect p ≡ true → atom_scope theory p vs ≡ effect_scope theory p vs
    scope-effect e = chosen (is_effect p) (effect_scope theory p vs) (scope_in universe (reading_of theory) p vs (group_with theory.groups p)) e

    pub scope-other : is_effect p ≡ false → atom_scope theory p vs ≡ scope_in universe (reading_of theory) p vs (group_with theory.groups p)
    scope-other e = rejected (is_effect p) (effect_scope theory p vs) (scope_in universe (reading_of theory) p vs (group_with theory.groups p)) e

    -- an atom with a tree has a group, and the tree is that of the group's sentences
    pub group_of_scope : (C : Type 0) (reading : Reading) (tree : Tree) → scope_in universe reading p vs (group_with theory.groups p) ≡ Some tree → ((group : Group) → group_with theory.groups p ≡ Some group → scope_of universe reading group.sentences p vs ≡ tree → C) → C
    group_of_scope C reading tree e go = by_group (group_with theory.groups p) refl e
      where
        by_group : (o : Option Group) → group_with theory.groups p ≡ o → scope_in universe reading p vs o ≡ Some tree → C
        by_group None found h = absurd cc
        by_group (Some group) found h = let is : scope_of universe reading group.sentences p vs ≡ tree = cc in go group found is

    pub group_of_atom : (C : Type 0) (tree : Tree) → atom_scope theory p vs ≡ Some tree → ((group : Group) → group_with theory.groups p ≡ Some group → C) → C
    group_of_atom C tree e go = test_cases C (is_effect p)
        (λ t. group_of_scope C (read_by_number universe) tree (sym (scope-effect t) ∙ e) (λ group found is. go group found))
        (λ t. group_of_scope C (reading_of theory) tree (sym (scope-other t) ∙ e) (λ group found is. go group found))

    -- an atom of a group has a tree
    pub scope_there : (C : Type 0) (group : Group) → group_with theory.groups p ≡ Some group → ((tree : Tree) → atom_scope theory p vs ≡ Some tree → C) → C
    scope_there C group found go = test_cases C (is_effect p)
        (λ t. go (scope_of universe (read_by_number universe) group.sentences p vs) (scope-effect t ∙ ap (scope_in universe (read_by_number universe) p vs) found))
        (λ t. go (scope_of universe (reading_of theory) group.sentences p vs) (scope-other t ∙ ap (scope_in universe (reading_of theory) p vs) found))
