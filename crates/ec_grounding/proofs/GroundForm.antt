-- What a valid theory is grounded to is well formed.
use Rattle.std.proofs.Common.{◌≡◌, ℕ, zero, suc, ◌+◌, ◌-◌, ◌<◌, ◌≤◌, ◌==◌, true, false, List, [], ◌∷◌, ◌++◌, length, get_or, ℤ, All, Contains, Option, Some, None, option_map, slice_get, refl, ap, sym, subst, ◌∙◌, arith}
use Rattle.std.specs.List.{list_all, list_any, flat_map, range_with_len}
use Rattle.std.proofs.lemmas.Bool.Decides.{nat_tests}
use Rattle.std.proofs.lemmas.Grind.{flat_map-append}
use Rattle.std.proofs.lemmas.List.Elements.{All-nil, All-cons, All-head, All-append, All-map, All-weaker}
use Rattle.std.proofs.lemmas.Option.{slice_get_within}
use Rattle.ec_logic.specs.Tree.{Formula}
use Rattle.ec_logic.specs.Universe.{Universe, universe_of, row_of, tuple_rank}
use Rattle.ec_logic.specs.Signature.{built_in, holds_at, released_at, happens}
use Rattle.ec_logic.specs.Atom.{GroundAtom, atom_at, atoms_of, visible_atoms, all_atoms, number_of, atoms_before, predicates_in_order, visible_predicates, declared, tuples_of}
use Rattle.ec_logic.specs.Theory.{Group, Theory, is_in_group}
use Rattle.ec_logic.specs.ClauseTree.{any_predicate, only_has}
use Rattle.ec_logic.specs.Paths.{paths}
use Rattle.ec_logic.specs.ValidTheory.{IsValidTheory, IsValidGroup, BeginsWithEffects, effect_predicates}
use Rattle.ec_logic.proofs.Tests.{test_cases}
use Rattle.ec_logic.proofs.Extents.{arguments_length}
use Rattle.ec_folding.specs.Tree.{Tree, always, never, literal, all_of, any_of, EachAtom}
use Rattle.ec_folding.specs.Definition.{Definition}
use Rattle.ec_folding.specs.Constants.{is_constant_at_top_only}
use Rattle.ec_grounding.specs.Folded.{Leaf, fixed, numbered, folded}
use Rattle.ec_grounding.specs.Scope.{scope_of}
use Rattle.ec_grounding.specs.Grounded.{leaf_of, read_by_number, is_effect, group_with, settled, effect_scope, reading_of, asserted, sentence_trees, variable_of, variables, atom_scope, definition_of, definitions}
use Rattle.ec_grounding.specs.WellFormed.{AreNumbered, defined_atoms, HasVariable, visible_count, IsWellFormed}
use Rattle.ec_grounding.proofs.AtomsListed.{all_left, all_right, all_joined, all_parted, each_atom}
use Rattle.ec_grounding.proofs.FoldedAtoms.{each_folded, each_scope}
use Rattle.ec_grounding.proofs.FoldedConstants.{is_constant_at_top_only-folded, is_constant_at_top_only-scope_of}
use Rattle.ec_grounding.proofs.Groups.{found_group}
use Rattle.ec_grounding.proofs.GroundModels.{effect_same}
use Rattle.ec_grounding.proofs.KnownTheory.{asserted_known, group_known}
use Rattle.ec_grounding.proofs.KnownPredicates.{is_known, known_below}
use Rattle.ec_grounding.proofs.ListedLemmas.{all_by_place, all_at, all_contained, all_joined_each, all_of_map, Rises, rises_weaker, increasing}
use Rattle.ec_grounding.proofs.Readings.{reading-effect, reading-other, scope-effect, scope-other, group_of_scope, scope_there}
use Rattle.ec_grounding.proofs.SameReading.{has_such_bodies, sentence_bodies}

settled_number : (o : Option ℕ) (t : Option Tree) (k : ℕ) → settled (leaf_of o) t ≡ numbered k → o ≡ Some k
settled_number None t k e = absurd cc
settled_number (Some j) None k e = cc
settled_number (Some j) (Some always) k e = absurd cc
settled_number (Some j) (Some never) k e = absurd cc
settled_number (Some j) (Some (literal a s)) k e = cc
settled_number (Some j) (Some (all_of ts)) k e = cc
settled_number (Some j) (Some (any_of ts)) k e = cc

plain_number : (o : Option ℕ) (k : ℕ) → leaf_of o ≡ numbered k → o ≡ Some k
plain_number None k e = absurd cc
plain_number (Some j) k e = cc

-- the group of the effect predicates is there
effects_there : (C : Type 0) (groups : List Group) (p : ℕ) → BeginsWithEffects groups → is_effect p ≡ true → ((group : Group) → group_with groups p ≡ Some group → C) → C
effects_there C [] p b e go = absurd b
effects_there C (x ∷ xs) p b e go = let here : is_in_group x p ≡ true = ap (list_any (λ q. q == p)) b ∙ e in go x (rw here refl)

-- a visible predicate is no effect predicate
none_of_declared : (from n : ℕ) → 6 ≤ from → All (λ p. is_effect p ≡ false) (range_with_len from n)
none_of_declared from zero l = All-nil (λ p. is_effect p ≡ false)
none_of_declared from (suc n) l = All-cons (λ p. is_effect p ≡ false) from (range_with_len (from + 1) n) (grind (arith, nat_tests, l)) (none_of_declared (from + 1) n (omega (arith, l)))

module _ (theory : Theory) where
  abbrev universe : Universe
  universe = universe_of theory.signature

  numbered_is : (p k : ℕ) (vs : List ℤ) → reading_of theory p vs ≡ numbered k → number_of universe p vs ≡ Some k
  numbered_is p k vs e = test_cases (number_of universe p vs ≡ Some k) (is_effect p)
      (λ t. settled_number (number_of universe p vs) (effect_scope theory p vs) k (sym (reading-effect theory p vs t) ∙ e))
      (λ t. plain_number (number_of universe p vs) k (sym (reading-other theory p vs t) ∙ e))

  abbrev variable_at : GroundAtom → List ℕ
  variable_at atom = variable_of (reading_of theory atom.predicate atom.args)

  abbrev definition_at : GroundAtom → List Definition
  definition_at atom = definition_of (reading_of theory atom.predicate atom.args) (atom_scope theory atom.predicate atom.args)

  each_variable : All (λ atom. All (HasVariable theory) (variable_at atom)) (all_atoms universe)
  each_variable = all_parted (HasVariable theory) variable_at (all_atoms universe) (all_contained (variables theory))

  -- an atom that is read as a literal has its variable
  has_variable : (p k : ℕ) (vs : List ℤ) → is_known theory.signature p ≡ true → reading_of theory p vs ≡ numbered k → HasVariable theory k
  has_variable p k vs known e = by_rank (tuple_rank universe (row_of universe.predicates p) vs) refl (numbered_is p k vs e)
    where
      by_rank : (o : Option ℕ) → tuple_rank universe (row_of universe.predicates p) vs ≡ o → option_map (λ j. atoms_before universe (predicates_in_order universe) p + j) o ≡ Some k → HasVariable theory k
      by_rank None h g = absurd cc
      by_rank (Some j) h g =
          let low = known_below theory.signature p known in
          let within : p < length universe.predicates = omega (arith, low, arguments_length theory.signature.predicates) in
          let here = each_atom universe (λ atom. All (HasVariable theory) (variable_at atom)) each_variable p vs j within h in
          let A : Leaf → Type 0 = λ leaf. All (HasVariable theory) (variable_of leaf) in
          All-head (HasVariable theory) k [] (subst A e here)

  module _ (valid : IsValidTheory theory) where
    -- ---- sentences

    abbrev tree_of : Formula → Tree
    tree_of f = folded universe (reading_of theory) [] true f

    sentence_atoms : All (EachAtom (HasVariable theory)) (sentence_trees theory)
    sentence_atoms = All-map (EachAtom (HasVariable theory)) tree_of (asserted theory)
        (All-weaker (λ f. only_has (is_known theory.signature) f ≡ true) (λ f. EachAtom (HasVariable theory) (tree_of f))
        (each_folded (HasVariable theory) (is_known theory.signature) universe (reading_of theory) has_variable [] true) (asserted theory) (asserted_known theory valid))

    -- ---- trees of atoms

    group_bodies : (group : Group) → IsValidGroup theory.signature group → list_all (has_such_bodies (is_known theory.signature)) (flat_map paths group.sentences) ≡ true
    group_bodies group h = sentence_bodies (is_known theory.signature) any_predicate group.sentences (group_known theory valid group h)

    scope_atoms_of : (p : ℕ) (vs : List ℤ) (group : Group) → group_with theory.groups p ≡ Some group → EachAtom (HasVariable theory) (scope_of universe (reading_of theory) group.sentences p vs)
    scope_atoms_of p vs group found =
        let both = found_group p group (IsValidGroup theory.signature) theory.groups valid.groups found in
        each_scope (HasVariable theory) (is_known theory.signature) universe (reading_of theory) has_variable p vs group.sentences (group_bodies group both.0)

    scope_atoms_at : (p : ℕ) (vs : List ℤ) (tree : Tree) → atom_scope theory p vs ≡ Some tree → EachAtom (HasVariable theory) tree
    scope_atoms_at p vs tree e = test_cases (EachAtom (HasVariable theory) tree) (is_effect p)
        (λ t. group_of_scope theory p vs (EachAtom (HasVariable theory) tree) (read_by_number universe) tree (sym (scope-effect theory p vs t) ∙ e)
        (λ group found same.
        let is = effect_same theory valid (reading_of theory) (λ q us o. sym (reading-other theory q us o)) p vs group t found in
        subst (EachAtom (HasVariable theory)) (sym is ∙ same) (scope_atoms_of p vs group found)))
        (λ t. group_of_scope theory p vs (EachAtom (HasVariable theory) tree) (reading_of theory) tree (sym (scope-other theory p vs t) ∙ e)
        (λ group found same. subst (EachAtom (HasVariable theory)) same (scope_atoms_of p vs group found)))

    -- a fact of the definition of each atom
    of_definition : (P : Definition → Type 0) (leaf : Leaf) (o : Option Tree) → ((k : ℕ) (tree : Tree) → leaf ≡ numbered k → o ≡ Some tree → P (record { atom = k; scope = tree })) → All P (definition_of leaf o)
    of_definition P (fixed b) o go = All-nil P
    of_definition P (numbered k) None go = All-nil P
    of_definition P (numbered k) (Some tree) go = All-cons P (record { atom = k; scope = tree }) [] (go k tree refl refl) (All-nil P)

    scope_atoms : All (λ (d : Definition). EachAtom (HasVariable theory) d.scope) (definitions theory)
    scope_atoms = all_joined (λ (d : Definition). EachAtom (HasVariable theory) d.scope) definition_at
        (λ atom. of_definition (λ (d : Definition). EachAtom (HasVariable theory) d.scope) (reading_of theory atom.predicate atom.args) (atom_scope theory atom.predicate atom.args)
        (λ k tree e h. scope_atoms_at atom.predicate atom.args tree h)) (all_atoms universe)

    scope_constant : (p : ℕ) (vs : List ℤ) (tree : Tree) → atom_scope theory p vs ≡ Some tree → is_constant_at_top_only tree ≡ true
    scope_constant p vs tree e = test_cases (is_constant_at_top_only tree ≡ true) (is_effect p)
        (λ t. group_of_scope theory p vs (is_constant_at_top_only tree ≡ true) (read_by_number universe) tree (sym (scope-effect theory p vs t) ∙ e)
        (λ group found same. sym (ap is_constant_at_top_only same) ∙ is_constant_at_top_only-scope_of universe (read_by_number universe) p vs group.sentences))
        (λ t. group_of_scope theory p vs (is_constant_at_top_only tree ≡ true) (reading_of theory) tree (sym (scope-other theory p vs t) ∙ e)
        (λ group found same. sym (ap is_constant_at_top_only same) ∙ is_constant_at_top_only-scope_of universe (reading_of theory) p vs group.sentences))

    scope_constants : All (λ (d : Definition). is_constant_at_top_only d.scope ≡ true) (definitions theory)
    scope_constants = all_joined (λ (d : Definition). is_constant_at_top_only d.scope ≡ true) definition_at
        (λ atom. of_definition (λ (d : Definition). is_constant_at_top_only d.scope ≡ true) (reading_of theory atom.predicate atom.args) (atom_scope theory atom.predicate atom.args)
        (λ k tree e h. scope_constant atom.predicate atom.args tree h)) (all_atoms universe)

    sentence_constants : All (λ t. is_constant_at_top_only t ≡ true) (sentence_trees theory)
    sentence_constants = All-map (λ t. is_constant_at_top_only t ≡ true) tree_of (asserted theory) (λ k d l. is_constant_at_top_only-folded universe (reading_of theory) [] true (get_or (asserted theory) k d))

    -- ---- defined atoms have variables

    defined_here : (leaf : Leaf) (o : Option Tree) → All (HasVariable theory) (variable_of leaf) → All (λ (d : Definition). HasVariable theory d.atom) (definition_of leaf o)
    defined_here leaf o h = of_definition (λ (d : Definition). HasVariable theory d.atom) leaf o
        (λ k tree e g. let A : Leaf → Type 0 = λ x. All (HasVariable theory) (variable_of x) in All-head (HasVariable theory) k [] (subst A e h))

    defined : All (HasVariable theory) (defined_atoms theory)
    defined = All-map (HasVariable theory) (λ (d : Definition). d.atom) (definitions theory)
        (all_joined_each (λ (d : Definition). HasVariable theory d.atom) definition_at (all_atoms universe)
        (All-weaker (λ atom. All (HasVariable theory) (variable_at atom)) (λ atom. All (λ (d : Definition). HasVariable theory d.atom) (definition_at atom))
        (λ atom h. defined_here (reading_of theory atom.predicate atom.args) (atom_scope theory atom.predicate atom.args) h) (all_atoms universe) each_variable))

    -- ---- numbers by places

    module _ (places : AreNumbered universe) where
      rising : (low : ℕ) (atoms : List GroundAtom) → ((k : ℕ) (atom : GroundAtom) → slice_get atoms k ≡ Some atom → number_of universe atom.predicate atom.args ≡ Some (low + k)) → Rises low (flat_map variable_at atoms)
      rising low [] h = tt
      rising low (x ∷ xs) h = with_first (reading_of theory x.predicate x.args) refl (rising (suc low) xs (λ k atom e. let next : low + suc k ≡ suc low + k = omega arith in rw (← next) (h (suc k) atom e)))
        where
          with_first : (leaf : Leaf) → reading_of theory x.predicate x.args ≡ leaf → Rises (suc low) (flat_map variable_at xs) → Rises low (variable_of leaf ++ flat_map variable_at xs)
          with_first (fixed b) e rest = rises_weaker low (suc low) (flat_map variable_at xs) (omega arith) rest
          with_first (numbered k) e rest =
              let number = numbered_is x.predicate k x.args e in
              let place = h 0 x refl in
              let zero_more : low + 0 ≡ low = omega arith in
              let here : number_of universe x.predicate x.args ≡ Some low = rw zero_more at place in
              let same : low ≡ k = cc in
              let A : ℕ → Type 0 = λ n. Rises low (n ∷ flat_map variable_at xs) in
              subst A same (omega arith, rest)

      rises : Rises 0 (variables theory)
      rises = rising 0 (all_atoms universe) (λ k atom e. let none_more : 0 + k ≡ k = omega arith in rw none_more (places k atom e))

      abbrev effect_atoms : List GroundAtom
      effect_atoms = flat_map (atoms_of universe) effect_predicates

      parts : all_atoms universe ≡ visible_atoms universe ++ effect_atoms
      parts = flat_map-append (atoms_of universe) (visible_predicates universe) effect_predicates

      -- each atom of some predicates is of one of them
      of_predicates : (P : ℕ → Type 0) (qs : List ℕ) → All P qs → All (λ (atom : GroundAtom). P atom.predicate) (flat_map (atoms_of universe) qs)
      of_predicates P qs h = all_joined_each (λ (atom : GroundAtom). P atom.predicate) (atoms_of universe) qs
          (All-weaker P (λ q. All (λ (atom : GroundAtom). P atom.predicate) (atoms_of universe q))
          (λ q here. All-map (λ (atom : GroundAtom). P atom.predicate) (atom_at universe q) (range_with_len 0 (tuples_of universe q)) (λ k d l. here)) qs h)

      visible_others : All (λ (atom : GroundAtom). is_effect atom.predicate ≡ false) (visible_atoms universe)
      visible_others =
          let P : ℕ → Type 0 = λ p. is_effect p ≡ false in
          of_predicates P (visible_predicates universe)
          (All-cons P holds_at (released_at ∷ happens ∷ declared universe) refl
          (All-cons P released_at (happens ∷ declared universe) refl
          (All-cons P happens (declared universe) refl (none_of_declared built_in (length universe.predicates - built_in) (omega arith)))))

      effects_are : All (λ (atom : GroundAtom). is_effect atom.predicate ≡ true) effect_atoms
      effects_are =
          let P : ℕ → Type 0 = λ p. is_effect p ≡ true in
          of_predicates P effect_predicates (All-cons P 3 (4 ∷ 5 ∷ []) refl (All-cons P 4 (5 ∷ []) refl (All-cons P 5 [] refl (All-nil P))))

      in_front : (xs ys : List GroundAtom) (k : ℕ) (x : GroundAtom) → slice_get xs k ≡ Some x → slice_get (xs ++ ys) k ≡ Some x
      in_front [] ys k x e = absurd cc
      in_front (y ∷ xs) ys zero x e = e
      in_front (y ∷ xs) ys (suc k) x e = in_front xs ys k x e

      visible_number : (k : ℕ) (atom : GroundAtom) → slice_get (visible_atoms universe) k ≡ Some atom → number_of universe atom.predicate atom.args ≡ Some k
      visible_number k atom e = places k atom (ap (λ xs. slice_get xs k) parts ∙ in_front (visible_atoms universe) effect_atoms k atom e)

      -- ---- all visible atoms have variables

      some_at : {X : Type 0} (xs : List X) (k : ℕ) → k < length xs → (x : X) × (slice_get xs k ≡ Some x)
      some_at [] k h = absurd (omega (arith, h))
      some_at (x ∷ xs) zero h = (x, refl)
      some_at (x ∷ xs) (suc k) h = some_at xs k (omega (arith, h))

      visible : (a : ℕ) → a < visible_count theory → HasVariable theory a
      visible a l =
          let there = some_at (visible_atoms universe) a l in
          let atom = there.0 in
          let other = all_at (λ (x : GroundAtom). is_effect x.predicate ≡ false) (visible_atoms universe) visible_others a atom there.1 in
          let read : reading_of theory atom.predicate atom.args ≡ numbered a = reading-other theory atom.predicate atom.args other ∙ ap leaf_of (visible_number a atom there.1) in
          let H : GroundAtom → Type 0 = λ x. All (HasVariable theory) (variable_at x) in
          let front = all_left H (visible_atoms universe) effect_atoms (subst (All H) parts each_variable) in
          let here = all_at H (visible_atoms universe) front a atom there.1 in
          let A : Leaf → Type 0 = λ leaf. All (HasVariable theory) (variable_of leaf) in
          All-head (HasVariable theory) a [] (subst A read here)

      -- ---- all others have definitions

      abbrev IsDefined : ℕ → Type 0
      IsDefined a = visible_count theory ≤ a → Contains (defined_atoms theory) a

      of_variable : (P : ℕ → Type 0) (leaf : Leaf) → ((k : ℕ) → leaf ≡ numbered k → P k) → All P (variable_of leaf)
      of_variable P (fixed b) go = All-nil P
      of_variable P (numbered k) go = All-cons P k [] (go k refl) (All-nil P)

      visible_defined : All (λ atom. All IsDefined (variable_at atom)) (visible_atoms universe)
      visible_defined = all_by_place (λ atom. All IsDefined (variable_at atom)) (visible_atoms universe)
          (λ i atom e. of_variable IsDefined (reading_of theory atom.predicate atom.args)
          (λ k r far.
          let number = numbered_is atom.predicate k atom.args r in
          let place = visible_number i atom e in
          let same : i ≡ k = cc in
          let low = slice_get_within (visible_atoms universe) i atom e in
          absurd (omega (arith, far, low, same))))

      each_definition : All (λ atom. All (λ (d : Definition). Contains (defined_atoms theory) d.atom) (definition_at atom)) (all_atoms universe)
      each_definition = all_parted (λ (d : Definition). Contains (defined_atoms theory) d.atom) definition_at (all_atoms universe)
          (all_of_map (Contains (defined_atoms theory)) (λ (d : Definition). d.atom) (definitions theory) (all_contained (defined_atoms theory)))

      effect_defined : (atom : GroundAtom) → is_effect atom.predicate ≡ true → All (λ (d : Definition). Contains (defined_atoms theory) d.atom) (definition_at atom) → All IsDefined (variable_at atom)
      effect_defined atom e h = of_variable IsDefined (reading_of theory atom.predicate atom.args)
          (λ k r far. effects_there (Contains (defined_atoms theory) k) theory.groups atom.predicate valid.effects_first e
          (λ group found. scope_there theory atom.predicate atom.args (Contains (defined_atoms theory) k) group found
          (λ tree there.
          let A : Leaf → Type 0 = λ leaf. All (λ (d : Definition). Contains (defined_atoms theory) d.atom) (definition_of leaf (atom_scope theory atom.predicate atom.args)) in
          let B : Option Tree → Type 0 = λ o. All (λ (d : Definition). Contains (defined_atoms theory) d.atom) (definition_of (numbered k) o) in
          All-head (λ (d : Definition). Contains (defined_atoms theory) d.atom) (record { atom = k; scope = tree }) [] (subst B there (subst A r h)))))

      both_facts : (xs : List GroundAtom) → All (λ (atom : GroundAtom). is_effect atom.predicate ≡ true) xs → All (λ atom. All (λ (d : Definition). Contains (defined_atoms theory) d.atom) (definition_at atom)) xs → All (λ atom. All IsDefined (variable_at atom)) xs
      both_facts xs h g k d l = effect_defined (get_or xs k d) (h k d l) (g k d l)

      others_defined : All IsDefined (variables theory)
      others_defined =
          let H : GroundAtom → Type 0 = λ atom. All (λ (d : Definition). Contains (defined_atoms theory) d.atom) (definition_at atom) in
          let J : GroundAtom → Type 0 = λ atom. All IsDefined (variable_at atom) in
          let behind = all_right H (visible_atoms universe) effect_atoms (subst (All H) parts each_definition) in
          let whole = All-append J (visible_atoms universe) effect_atoms visible_defined (both_facts effect_atoms effects_are behind) in
          all_joined_each IsDefined variable_at (all_atoms universe) (subst (All J) (sym parts) whole)

      pub well_formed : IsWellFormed theory
      well_formed = record {
        rises = increasing 0 (variables theory) rises;
        visible = visible;
        sentence_atoms = sentence_atoms;
        scope_atoms = scope_atoms;
        defined = defined;
        others_defined = others_defined;
        sentence_constants = sentence_constants;
        scope_constants = scope_constants;
      }
