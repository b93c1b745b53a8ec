-- The lists that are read off the tables are those of the theory.
use Rattle.std.proofs.Common.{◌≡◌, ℕ, suc, ◌+◌, Bool, true, List, [], ◌∷◌, length, map, All, Option, Some, None, option_map, slice_get, take, drop, refl, ap, ◌∙◌, arith}
use Rattle.std.specs.List.{flat_map, range_with_len, slice_index_or}
use Rattle.std.proofs.lemmas.List.{length-map}
use Rattle.std.proofs.lemmas.List.Elements.{All-head, All-tail}
use Rattle.ec_logic.specs.Tree.{Formula}
use Rattle.ec_logic.specs.Universe.{Universe, universe_of}
use Rattle.ec_logic.specs.Atom.{GroundAtom, all_atoms}
use Rattle.ec_logic.specs.Theory.{Theory}
use Rattle.ec_logic.specs.ValidTheory.{IsValidTheory}
use Rattle.ec_logic.specs.ClauseTree.{only_has}
use Rattle.ec_folding.specs.Tree.{Tree}
use Rattle.ec_folding.specs.Definition.{Definition}
use Rattle.ec_prop.specs.declared.tree.Prop.{Prop}
use Rattle.ec_prop.specs.Prop.{tree_of}
use Rattle.ec_grounding.specs.Folded.{folded}
use Rattle.ec_grounding.specs.Grounded.{reading_of, asserted, sentence_trees, variable_of, variables, atom_scope, definition_of, definitions}
use Rattle.ec_grounding.proofs.KnownPredicates.{is_known}
use Rattle.ec_grounding.proofs.KnownTheory.{asserted_known}
use Rattle.ec_grounding.proofs.SameReading.{same_folded}
use Rattle.ec_fold.specs.Known.{known_or, read_with}
use Rattle.ec_gather.specs.Scopes.{AreScopes}
use Rattle.ec_ground.specs.Constants.{constant_in, constants_of}
use Rattle.ec_ground.specs.Listed.{variable_if, listed_variables, scope_at, definition_if, listed_definitions}
use Rattle.ec_ground.proofs.Readings.{reads_at, reads, tree_at}

-- ---- lists by place

-- what is listed by the places of a list is what is listed by its items
by_place : {X A : Type 0} (f : X → List A) (made : ℕ → List A) (low : ℕ) (xs : List X) → ((k : ℕ) (x : X) → slice_get xs k ≡ Some x → made (low + k) ≡ f x) → flat_map made (range_with_len low (length xs)) ≡ flat_map f xs
by_place f made low [] h = refl
by_place f made low (x ∷ xs) h =
    let start : low ≡ low + 0 = omega arith in
    let first : made low ≡ f x = ap made start ∙ h 0 x refl in
    let rest = by_place f made (low + 1) xs (λ k y e. let next : low + 1 + k ≡ low + suc k = omega arith in ap made next ∙ h (suc k) y e) in
    rw (first, rest) refl

variable_as_known : (c : Option Bool) (k : ℕ) → variable_if c k ≡ variable_of (known_or c k)
variable_as_known None k = refl
variable_as_known (Some b) k = refl

definition_as_known : (c : Option Bool) (t : Option Tree) (k : ℕ) → definition_if c t k ≡ definition_of (known_or c k) t
definition_as_known None None k = refl
definition_as_known None (Some tree) k = refl
definition_as_known (Some b) None k = refl
definition_as_known (Some b) (Some tree) k = refl

-- each atom has a place among the constants
pub constants_count : (scopes : List (Option Prop)) → length (constants_of scopes) ≡ length scopes
constants_count scopes = length-map scopes (λ scope. constant_in (option_map tree_of scope))

module _ (theory : Theory) (valid : IsValidTheory theory) where
  abbrev universe : Universe
  universe = universe_of theory.signature

  module _ (effects : List (Option Prop)) (gathered : AreScopes universe (read_with universe []) (take 1 theory.groups) effects) where
    abbrev known : List (Option Bool)
    known = constants_of effects

    known_count : length known ≡ length (all_atoms universe)
    known_count = constants_count effects ∙ gathered.count

    pub variables_listed : listed_variables known ≡ variables theory
    variables_listed =
        let made : ℕ → List ℕ = λ k. variable_if (slice_index_or known k None) k in
        ap (λ n. flat_map made (range_with_len 0 n)) known_count
        ∙ by_place (λ (atom : GroundAtom). variable_of (reading_of theory atom.predicate atom.args)) made 0 (all_atoms universe)
        (λ k atom there.
        let none_more : 0 + k ≡ k = omega arith in
        ap made none_more ∙ (variable_as_known (slice_index_or known k None) k ∙ ap variable_of (reads_at theory valid effects gathered k atom there)))

    -- ---- sentences

    same_trees : (fs : List Formula) → All (λ f. only_has (is_known theory.signature) f ≡ true) fs → map (folded universe (read_with universe known) [] true) fs ≡ map (folded universe (reading_of theory) [] true) fs
    same_trees [] h = refl
    same_trees (f ∷ fs) h =
        let first = same_folded (is_known theory.signature) universe (read_with universe known) (reading_of theory) (reads theory valid effects gathered) [] true f (All-head (λ f. only_has (is_known theory.signature) f ≡ true) f fs h) in
        let rest = same_trees fs (All-tail (λ f. only_has (is_known theory.signature) f ≡ true) f fs h) in
        rw (first, rest) refl

    pub sentences_folded : map (folded universe (read_with universe known) [] true) (asserted theory) ≡ sentence_trees theory
    sentences_folded = same_trees (asserted theory) (asserted_known theory valid)

    module _ (others : List (Option Prop)) (rest : AreScopes universe (read_with universe known) (drop 1 theory.groups) others) where
      pub definitions_listed : listed_definitions known effects others ≡ definitions theory
      definitions_listed =
          let made : ℕ → List Definition = λ k. definition_if (slice_index_or known k None) (scope_at effects others k) k in
          ap (λ n. flat_map made (range_with_len 0 n)) known_count
          ∙ by_place (λ (atom : GroundAtom). definition_of (reading_of theory atom.predicate atom.args) (atom_scope theory atom.predicate atom.args)) made 0 (all_atoms universe)
          (λ k atom there.
          let none_more : 0 + k ≡ k = omega arith in
          ap made none_more ∙ (definition_as_known (slice_index_or known k None) (scope_at effects others k) k
          ∙ (ap (λ leaf. definition_of leaf (scope_at effects others k)) (reads_at theory valid effects gathered k atom there)
          ∙ ap (definition_of (reading_of theory atom.predicate atom.args)) (tree_at theory valid effects gathered others rest k atom there))))
