-- What has the lists of a valid theory that isn't too heavy is grounded.
use Rattle.std.proofs.Common.{◌≡◌, ℕ, ◌+◌, ◌^◌, ◌<◌, ◌≤◌, true, List, map, All, Contains, sym, subst, arith}
use Rattle.std.specs.List.Sorted.{IsStrictlyIncreasing}
use Rattle.std.proofs.lemmas.List.Elements.{All-map}
use Rattle.ec_logic.specs.Theory.{Theory}
use Rattle.ec_logic.specs.ValidTheory.{IsValidTheory}
use Rattle.ec_folding.specs.Tree.{Tree, as_trees, EachAtom, nodes_of}
use Rattle.ec_folding.specs.Constants.{is_constant_at_top_only}
use Rattle.ec_folding.specs.Definition.{Definition, scope_nodes}
use Rattle.ec_prop.specs.declared.ground.Grounded.{Grounded}
use Rattle.ec_prop.specs.Grounded.{IsGrounded, sentences_of, definitions_of}
use Rattle.ec_grounding.specs.Grounded.{sentence_trees, definitions, variables}
use Rattle.ec_grounding.specs.WellFormed.{visible_count}
use Rattle.ec_grounding.proofs.GroundForm.{well_formed}
use Rattle.ec_nodes.proofs.GroundNodes.{few_nodes}
use Rattle.ec_weight.specs.Weight.{weight_of}
use Rattle.ec_ground.proofs.Readings.{places}

-- a grounded theory by its lists
record HasForm (sentences : List Tree) (defined : List Definition) (numbers : List ℕ) (visible : ℕ) : Type 0 where
  pub rises : IsStrictlyIncreasing numbers
  pub visible_atoms : (a : ℕ) → a < visible → Contains numbers a
  pub sentence_atoms : All (EachAtom (Contains numbers)) sentences
  pub scope_atoms : All (λ (d : Definition). EachAtom (Contains numbers) d.scope) defined
  pub defined_atoms : All (Contains numbers) (map (λ (d : Definition). d.atom) defined)
  pub others_defined : All (λ a. visible ≤ a → Contains (map (λ (d : Definition). d.atom) defined) a) numbers
  pub sentence_constants : All (λ t. is_constant_at_top_only t ≡ true) sentences
  pub scope_constants : All (λ (d : Definition). is_constant_at_top_only d.scope ≡ true) defined
  pub few_nodes : nodes_of (as_trees sentences) + scope_nodes defined ≤ 2 ^ 27

module _ (theory : Theory) (valid : IsValidTheory theory) (light : weight_of theory ≤ 4000000) (few : visible_count theory ≤ 262144) where
  theory_form : HasForm (sentence_trees theory) (definitions theory) (variables theory) (visible_count theory)
  theory_form =
      let form = well_formed theory valid (places theory valid) in
      let nodes = few_nodes theory valid.signature (places theory valid) in
      record {
        rises = form.rises;
        visible_atoms = form.visible;
        sentence_atoms = form.sentence_atoms;
        scope_atoms = form.scope_atoms;
        defined_atoms = form.defined;
        others_defined = form.others_defined;
        sentence_constants = form.sentence_constants;
        scope_constants = form.scope_constants;
        few_nodes = omega (arith, nodes, light, few);
      }

  pub is_grounded : (g : Grounded) → sentences_of g ≡ sentence_trees theory → definitions_of g.definitions.items ≡ definitions theory → g.variables.items ≡ variables theory → IsGrounded g (visible_count theory)
  is_grounded g s d v =
      let P : List Tree → Type 0 = λ ts. HasForm ts (definitions theory) (variables theory) (visible_count theory) in
      let Q : List Definition → Type 0 = λ ds. HasForm (sentences_of g) ds (variables theory) (visible_count theory) in
      let R : List ℕ → Type 0 = λ ns. HasForm (sentences_of g) (definitions_of g.definitions.items) ns (visible_count theory) in
      let form = subst R (sym v) (subst Q (sym d) (subst P (sym s) theory_form)) in
      record {
        rises = form.rises;
        visible_atoms = form.visible_atoms;
        sentence_atoms = form.sentence_atoms;
        scope_atoms = All-map (EachAtom (Contains g.variables.items)) (λ (d : Definition). d.scope) (definitions_of g.definitions.items) form.scope_atoms;
        defined_atoms = form.defined_atoms;
        others_defined = form.others_defined;
        sentence_constants = form.sentence_constants;
        scope_constants = All-map (λ t. is_constant_at_top_only t ≡ true) (λ (d : Definition). d.scope) (definitions_of g.definitions.items) form.scope_constants;
        few_nodes = form.few_nodes;
        few_visible = few;
      }
