-- The theories that tests build are grounded.
use Rattle.std.proofs.Common.{◌≡◌, ℕ, zero, suc, ◌<◌, ◌≤◌, true, List, [], ◌∷◌, map, refl, sym, ap, subst, arith}
use Rattle.std.specs.Prelude.{All, Contains}
use Rattle.std.specs.List.Sorted.{IsStrictlyIncreasing}
use Rattle.std.proofs.lemmas.List.Elements.{All-nil, All-cons}
use Rattle.ec_folding.specs.Tree.{Tree, always, never, literal, all_of, any_of, Trees, no_trees, tree, as_trees, EachAtom, EachAtomOf, nodes_of}
use Rattle.ec_folding.specs.Constants.{has_no_constant, is_constant_at_top_only}
use Rattle.ec_folding.specs.Definition.{Definition, scope_nodes}
use Rattle.ec_prop.specs.Grounded.{IsGrounded, sentences_of, definitions_of}
use Rattle.ec_prop.specs.declared.ground.Grounded.{Grounded}
use Rattle.prop_tables.specs.Sample.{IsSample}

-- the atoms 0, 1 and 2
abbrev pub three : List ℕ
three = 0 ∷ 1 ∷ 2 ∷ []

three_rise : IsStrictlyIncreasing three
three_rise zero h = omega arith
three_rise (suc zero) h = omega arith
three_rise (suc (suc k)) h = absurd (omega (arith, h))

three_there : (a : ℕ) → a < 3 → Contains three a
three_there zero h = (0, omega arith, refl)
three_there (suc zero) h = (1, omega arith, refl)
three_there (suc (suc zero)) h = (2, omega arith, refl)
three_there (suc (suc (suc a))) h = absurd (omega (arith, h))

mutual
  atoms_there : (t : Tree) → EachAtom (λ a. a < 3) t → EachAtom (Contains three) t
  atoms_there always h = tt
  atoms_there never h = tt
  atoms_there (literal a sign) h = three_there a h
  atoms_there (all_of ts) h = atoms_there_each ts h
  atoms_there (any_of ts) h = atoms_there_each ts h

  atoms_there_each : (ts : Trees) → EachAtomOf (λ a. a < 3) ts → EachAtomOf (Contains three) ts
  atoms_there_each no_trees h = tt
  atoms_there_each (tree t ts) h = (atoms_there t h.0, atoms_there_each ts h.1)

top_only : (t : Tree) → has_no_constant t ≡ true → is_constant_at_top_only t ≡ true
top_only always h = refl
top_only never h = refl
top_only (literal a sign) h = refl
top_only (all_of ts) h = h
top_only (any_of ts) h = h

no_others : (others : List ℕ) → All (λ a. 3 ≤ a → Contains others a) three
no_others others zero d h = λ le. absurd (omega (arith, le))
no_others others (suc zero) d h = λ le. absurd (omega (arith, le))
no_others others (suc (suc zero)) d h = λ le. absurd (omega (arith, le))
no_others others (suc (suc (suc k))) d h = absurd (omega (arith, h))

pub sampled : (g : Grounded) (t : Tree) → IsSample 4000 t → sentences_of g ≡ t ∷ [] → definitions_of g.definitions.items ≡ [] → g.variables.items ≡ three → IsGrounded g 3
sampled g t h sentences definitions variables = record {
  rises = subst IsStrictlyIncreasing (sym variables) three_rise;
  visible_atoms = λ a lt. subst (λ (vs : List ℕ). Contains vs a) (sym variables) (three_there a lt);
  sentence_atoms = subst (λ (ts : List Tree). All (EachAtom (Contains g.variables.items)) ts) (sym sentences)
      (subst (λ (vs : List ℕ). All (EachAtom (Contains vs)) (t ∷ [])) (sym variables) (All-cons (EachAtom (Contains three)) t [] (atoms_there t h.atoms) (All-nil (EachAtom (Contains three)))));
  scope_atoms = subst (λ (ds : List Definition). All (EachAtom (Contains g.variables.items)) (map (λ (d : Definition). d.scope) ds)) (sym definitions) (All-nil (EachAtom (Contains g.variables.items)));
  defined_atoms = subst (λ (ds : List Definition). All (Contains g.variables.items) (map (λ (d : Definition). d.atom) ds)) (sym definitions) (All-nil (Contains g.variables.items));
  others_defined = subst (λ (vs : List ℕ). All (λ a. 3 ≤ a → Contains (map (λ (d : Definition). d.atom) (definitions_of g.definitions.items)) a) vs) (sym variables) (no_others (map (λ (d : Definition). d.atom) (definitions_of g.definitions.items)));
  sentence_constants = subst (λ (ts : List Tree). All (λ t. is_constant_at_top_only t ≡ true) ts) (sym sentences) (All-cons (λ t. is_constant_at_top_only t ≡ true) t [] (top_only t h.no_constant) (All-nil (λ t. is_constant_at_top_only t ≡ true)));
  scope_constants = subst (λ (ds : List Definition). All (λ t. is_constant_at_top_only t ≡ true) (map (λ (d : Definition). d.scope) ds)) (sym definitions) (All-nil (λ t. is_constant_at_top_only t ≡ true));
  few_nodes = omega (arith, h.few_nodes, ap (λ (ts : List Tree). nodes_of (as_trees ts)) sentences, ap scope_nodes definitions);
  few_visible = omega arith;
}
