use Rattle.std.proofs.Common.{◌≡◌, ◌∙◌, ◌++◌, ◌≤◌, ℕ, Bool, true, List, [], All, Option, map, length, ap, sym, subst}
use Rattle.std.proofs.lemmas.List.Elements.{All-take, All-drop}
use Rattle.std.specs.List.{AllPairs}
use Rattle.ec_logic.specs.Atom.{visible_atoms}
use Rattle.ec_logic.specs.Axiom.{dec_axioms, release_axioms}
use Rattle.ec_logic.specs.Signature.{Signature}
use Rattle.ec_logic.specs.Theory as logic
use Rattle.ec_logic.specs.Universe.{universe_of}
use Rattle.ec_logic.specs.ValidTheory.{IsValidGroup, AreDisjoint, AreValidSentences}
use Rattle.ec_theory.specs.declared.theory.Sentence.{Sentence}
use Rattle.ec_theory.specs.Theories as theories
use Rattle.ec_theory.specs.Theories.{group_of, theory_of}
use Rattle.ec_prop.specs.declared.tree.Prop.{Prop}
use Rattle.ec_grounding.specs.Folded.{folded}
use Rattle.ec_fold.specs.Known.{read_with}
use Rattle.ec_ground.specs.Constants.{constants_of}
use Rattle.ec_ground.specs.Listed.{listed_variables, listed_definitions}
use Rattle.ec_ground.proofs.Gathered.{first_group, other_groups, of_first, of_others}
use Rattle.ec_ground.proofs.Lists.{variables_listed, sentences_folded, definitions_listed, constants_count}
use Rattle.ec_ground.proofs.Parts.{pairs_of_first, pairs_of_rest}
use Rattle.ec_ground.proofs.grounding.grounded.Goals as goal

-- ---- the groups

pub scopes-requires-clause-valid : goal.scopes-requires-clause-valid
scopes-requires-clause-valid c =
    let signature = c.args.theory.now.signature in
    let groups = c.args.theory.now.groups.items in
    let P : List logic.Group → Type 0 = All (IsValidGroup signature) in
    subst P (sym (first_group c.deref.result.now groups c.deref.ensures.value)) (All-take (IsValidGroup signature) 1 (map group_of groups) c.requires.valid.groups)

pub scopes-requires-clause-disjoint : goal.scopes-requires-clause-disjoint
scopes-requires-clause-disjoint c =
    let groups = c.args.theory.now.groups.items in
    let P : List logic.Group → Type 0 = AllPairs AreDisjoint in
    subst P (sym (first_group c.deref.result.now groups c.deref.ensures.value)) (pairs_of_first AreDisjoint (map group_of groups))

pub scopes-requires-2-clause-valid : goal.scopes-requires-2-clause-valid
scopes-requires-2-clause-valid c =
    let signature = c.args.theory.now.signature in
    let groups = c.args.theory.now.groups.items in
    let P : List logic.Group → Type 0 = All (IsValidGroup signature) in
    subst P (sym (other_groups c.deref-4.result.now groups c.deref-4.ensures.value)) (All-drop (IsValidGroup signature) 1 (map group_of groups) c.requires.valid.groups)

pub scopes-requires-2-clause-disjoint : goal.scopes-requires-2-clause-disjoint
scopes-requires-2-clause-disjoint c =
    let groups = c.args.theory.now.groups.items in
    let P : List logic.Group → Type 0 = AllPairs AreDisjoint in
    subst P (sym (other_groups c.deref-4.result.now groups c.deref-4.ensures.value)) (pairs_of_rest AreDisjoint (map group_of groups) c.requires.valid.disjoint)

-- ---- the sentences

pub asserted_trees-requires-clause-sentences : goal.asserted_trees-requires-clause-sentences
asserted_trees-requires-clause-sentences c =
    let P : List Sentence → Type 0 = λ ss. AreValidSentences c.args.theory.now.signature (theories.sentence_trees ss) in
    subst P (sym c.deref-5.ensures.value) c.requires.valid.remaining

-- ---- the tables

pub list_definitions-requires-clause-effects : goal.list_definitions-requires-clause-effects
list_definitions-requires-clause-effects c =
    let effects = c.in_ok-effects.effects.items in
    let known = c.deref-7.ensures.value ∙ (c.in_ok-known.ensures ∙ ap constants_of c.deref-2.ensures.value) in
    ap length c.deref_mut.ensures.value ∙ (sym (constants_count effects) ∙ ap length (sym known))

pub list_definitions-requires-clause-others : goal.list_definitions-requires-clause-others
list_definitions-requires-clause-others c =
    let effects = c.in_ok-effects.effects.items in
    let known = c.deref-7.ensures.value ∙ (c.in_ok-known.ensures ∙ ap constants_of c.deref-2.ensures.value) in
    ap length c.deref_mut-2.ensures.value ∙ (c.in_ok-others.ensures.scopes.count ∙ (sym c.in_ok-effects.ensures.scopes.count ∙ (sym (constants_count effects) ∙ ap length (sym known))))

-- ---- the lists

pub returns-clause-variables : goal.returns-clause-variables
returns-clause-variables c =
    let universe = universe_of c.args.theory.now.signature in
    let effects = c.in_ok-effects.effects.items in
    let gathered = of_first c.deref.result.now c.args.theory.now.groups.items c.deref.ensures.value universe effects (read_with universe []) c.in_ok-effects.ensures.scopes in
    let known = c.in_ok-known.ensures ∙ ap constants_of c.deref-2.ensures.value in
    c.in_ok-variables.ensures ∙ (ap listed_variables (c.deref-6.ensures.value ∙ known) ∙ variables_listed (theory_of c.args.theory.now) c.requires.valid effects gathered)

pub returns-clause-sentences : goal.returns-clause-sentences
returns-clause-sentences c =
    let signature = c.args.theory.now.signature in
    let universe = universe_of signature in
    let effects = c.in_ok-effects.effects.items in
    let gathered = of_first c.deref.result.now c.args.theory.now.groups.items c.deref.ensures.value universe effects (read_with universe []) c.in_ok-effects.ensures.scopes in
    let known = c.in_ok-known.ensures ∙ ap constants_of c.deref-2.ensures.value in
    c.in_ok-sentences.ensures.trees
    ∙ (ap (λ (ss : List Sentence). map (folded universe (read_with universe c.deref-3.result.now) [] true) (theories.sentence_trees ss ++ dec_axioms ++ release_axioms signature)) c.deref-5.ensures.value
    ∙ (ap (λ (ks : List (Option Bool)). map (folded universe (read_with universe ks) [] true) (theories.sentence_trees c.args.theory.now.remaining.items ++ dec_axioms ++ release_axioms signature)) (c.deref-3.ensures.value ∙ known)
    ∙ sentences_folded (theory_of c.args.theory.now) c.requires.valid effects gathered))

pub returns-clause-definitions : goal.returns-clause-definitions
returns-clause-definitions c =
    let universe = universe_of c.args.theory.now.signature in
    let groups = c.args.theory.now.groups.items in
    let effects = c.in_ok-effects.effects.items in
    let others = c.in_ok-others.others.items in
    let gathered = of_first c.deref.result.now groups c.deref.ensures.value universe effects (read_with universe []) c.in_ok-effects.ensures.scopes in
    let known : c.in_ok-known.known.items ≡ constants_of effects = c.in_ok-known.ensures ∙ ap constants_of c.deref-2.ensures.value in
    let rest = of_others c.deref-4.result.now groups c.deref-4.ensures.value universe others c.deref-3.result.now (constants_of effects) (c.deref-3.ensures.value ∙ known) c.in_ok-others.ensures.scopes in
    c.in_ok-definitions.ensures
    ∙ (ap (λ (ks : List (Option Bool)). listed_definitions ks c.deref_mut.result.now c.deref_mut-2.result.now) (c.deref-7.ensures.value ∙ known)
    ∙ (ap (λ (es : List (Option Prop)). listed_definitions (constants_of effects) es c.deref_mut-2.result.now) c.deref_mut.ensures.value
    ∙ (ap (listed_definitions (constants_of effects) effects) c.deref_mut-2.ensures.value
    ∙ definitions_listed (theory_of c.args.theory.now) c.requires.valid effects gathered others rest)))

-- the visible atoms are few, since they are numbered
pub returns-clause-few : goal.returns-clause-few
returns-clause-few c =
    let P : Signature → Type 0 = λ signature. length (visible_atoms (universe_of signature)) ≤ 262144 in
    let Q : ℕ → Type 0 = λ count. count ≤ 262144 in
    subst P c.requires.of (subst Q c.visible.ensures.count c.visible.ensures.few)
