use Rattle.std.proofs.Common.{◌≡◌, List, length, arith, ap, ◌∙◌, refl}
use Rattle.std.specs.Prelude.{Contains}
use Rattle.ec_folding.specs.Tree.{EachAtom, as_trees}
use Rattle.ec_folding.specs.Definition.{Definition}
use Rattle.ec_naming.proofs.Numbering.{variable_of-low, variable_of-visible}
use Rattle.ec_naming.proofs.Extending.{has_one_extension}
use Rattle.ec_naming.specs.Listing.{names_taken_asserting_each, names_taken_defining_each}
use Rattle.ec_prop.specs.declared.tree.Prop.{Prop}
use Rattle.ec_prop.specs.declared.ground.Defined.{Defined}
use Rattle.ec_prop.specs.Prop.{trees_of}
use Rattle.ec_prop.specs.Grounded.{sentences_of, definitions_of}
use Rattle.ec_encode.specs.Cnf.{variable_in, first_name}
use Rattle.ec_encode.proofs.Limits.{each_atom, All-from_map, names_fit, atoms_fit, variables_fit, raw_clauses_fit, clauses_fit}
use Rattle.ec_encode.proofs.list.encode.Goals as goal

pub overflow_cast-atoms : goal.overflow_cast-atoms
overflow_cast-atoms c = omega (arith, c.len-atoms.ensures, atoms_fit c.args.grounded.now c.args.visible c.requires)

pub names_taken_asserting_each-requires : goal.names_taken_asserting_each-requires
names_taken_asserting_each-requires c = rw c.deref.ensures.value (omega (arith, names_fit c.args.grounded.now c.args.visible c.requires))

pub names_taken_defining_each-requires : goal.names_taken_defining_each-requires
names_taken_defining_each-requires c = rw c.deref-2.ensures.value (omega (arith, names_fit c.args.grounded.now c.args.visible c.requires))

pub overflow_add-taken : goal.overflow_add-taken
overflow_add-taken c =
    let g = c.args.grounded.now in
    let atoms : c.len-atoms.result ≡ length g.variables.items = omega (arith, c.len-atoms.ensures) in
    let asserting : c.names_taken_asserting_each.result ≡ names_taken_asserting_each (as_trees (sentences_of g)) = c.names_taken_asserting_each.ensures ∙ ap (λ (ps : List Prop). names_taken_asserting_each (as_trees (trees_of ps))) c.deref.ensures.value in
    let defining : c.names_taken_defining_each.result ≡ names_taken_defining_each (definitions_of g.definitions.items) = c.names_taken_defining_each.ensures ∙ ap (λ (ds : List Defined). names_taken_defining_each (definitions_of ds)) c.deref-2.ensures.value in
    omega (arith, atoms, asserting, defining, names_fit g c.args.visible c.requires, atoms_fit g c.args.visible c.requires)

pub overflow_add-atoms : goal.overflow_add-atoms
overflow_add-atoms c =
    let g = c.args.grounded.now in
    let atoms : c.len-atoms.result ≡ length g.variables.items = omega (arith, c.len-atoms.ensures) in
    let asserting : c.names_taken_asserting_each.result ≡ names_taken_asserting_each (as_trees (sentences_of g)) = c.names_taken_asserting_each.ensures ∙ ap (λ (ps : List Prop). names_taken_asserting_each (as_trees (trees_of ps))) c.deref.ensures.value in
    let defining : c.names_taken_defining_each.result ≡ names_taken_defining_each (definitions_of g.definitions.items) = c.names_taken_defining_each.ensures ∙ ap (λ (ds : List Defined). names_taken_defining_each (definitions_of ds)) c.deref-2.ensures.value in
    omega (arith, atoms, asserting, defining, names_fit g c.args.visible c.requires, atoms_fit g c.args.visible c.requires)

pub overflow_add-atoms-2 : goal.overflow_add-atoms-2
overflow_add-atoms-2 c =
    let g = c.args.grounded.now in
    let atoms : c.len-atoms.result ≡ length g.variables.items = omega (arith, c.len-atoms.ensures) in
    let asserting : c.names_taken_asserting_each.result ≡ names_taken_asserting_each (as_trees (sentences_of g)) = c.names_taken_asserting_each.ensures ∙ ap (λ (ps : List Prop). names_taken_asserting_each (as_trees (trees_of ps))) c.deref.ensures.value in
    let defining : c.names_taken_defining_each.result ≡ names_taken_defining_each (definitions_of g.definitions.items) = c.names_taken_defining_each.ensures ∙ ap (λ (ds : List Defined). names_taken_defining_each (definitions_of ds)) c.deref-2.ensures.value in
    omega (arith, atoms, asserting, defining, names_fit g c.args.visible c.requires, atoms_fit g c.args.visible c.requires)

pub new-requires : goal.new-requires
new-requires c =
    let g = c.args.grounded.now in
    let atoms : c.len-atoms.result ≡ length g.variables.items = omega (arith, c.len-atoms.ensures) in
    let asserting : c.names_taken_asserting_each.result ≡ names_taken_asserting_each (as_trees (sentences_of g)) = c.names_taken_asserting_each.ensures ∙ ap (λ (ps : List Prop). names_taken_asserting_each (as_trees (trees_of ps))) c.deref.ensures.value in
    let defining : c.names_taken_defining_each.result ≡ names_taken_defining_each (definitions_of g.definitions.items) = c.names_taken_defining_each.ensures ∙ ap (λ (ds : List Defined). names_taken_defining_each (definitions_of ds)) c.deref-2.ensures.value in
    omega (arith, atoms, asserting, defining, names_fit g c.args.visible c.requires, atoms_fit g c.args.visible c.requires)

pub returns-in_err-names-clause-visible_atoms : goal.returns-in_err-names-clause-visible_atoms
returns-in_err-names-clause-visible_atoms c = variable_of-visible c.args.grounded.now.variables.items c.args.visible c.requires.rises c.requires.visible_atoms

pub returns-in_err-names-clause-one_extension : goal.returns-in_err-names-clause-one_extension
returns-in_err-names-clause-one_extension c =
    let g = c.args.grounded.now in
    has_one_extension (variable_in g) (first_name g) (sentences_of g) (definitions_of g.definitions.items) (variable_of-low g.variables.items (first_name g) refl)

pub add_whole-requires-clause-atoms : goal.add_whole-requires-clause-atoms
add_whole-requires-clause-atoms c =
    let g = c.args.grounded.now in
    rw (c.deref-3.ensures.value, c.deref-4.ensures.value) (each_atom (Contains g.variables.items) (sentences_of g) c.requires.sentence_atoms)

pub add_whole-requires-clause-scopes : goal.add_whole-requires-clause-scopes
add_whole-requires-clause-scopes c =
    let g = c.args.grounded.now in
    rw (c.deref-3.ensures.value, c.deref-5.ensures.value) (All-from_map (EachAtom (Contains g.variables.items)) (λ (d : Definition). d.scope) (definitions_of g.definitions.items) c.requires.scope_atoms)

pub add_whole-requires-clause-defined : goal.add_whole-requires-clause-defined
add_whole-requires-clause-defined c =
    let g = c.args.grounded.now in
    rw (c.deref-3.ensures.value, c.deref-5.ensures.value) (All-from_map (Contains g.variables.items) (λ (d : Definition). d.atom) (definitions_of g.definitions.items) c.requires.defined_atoms)

pub add_whole-requires-clause-few : goal.add_whole-requires-clause-few
add_whole-requires-clause-few c =
    let atoms : c.len-atoms.result ≡ length c.args.grounded.now.variables.items = omega (arith, c.len-atoms.ensures) in
    rw (c.in_ok-names.ensures.clauses, c.in_ok-names.ensures.next, c.deref-3.ensures.value, c.deref-4.ensures.value, c.deref-5.ensures.value, atoms)
    (omega (arith, raw_clauses_fit c.args.grounded.now c.args.visible c.requires))

pub returns-in_err-add_whole-clause-visible_atoms : goal.returns-in_err-add_whole-clause-visible_atoms
returns-in_err-add_whole-clause-visible_atoms c = variable_of-visible c.args.grounded.now.variables.items c.args.visible c.requires.rises c.requires.visible_atoms

pub returns-in_err-add_whole-clause-one_extension : goal.returns-in_err-add_whole-clause-one_extension
returns-in_err-add_whole-clause-one_extension c =
    let g = c.args.grounded.now in
    has_one_extension (variable_in g) (first_name g) (sentences_of g) (definitions_of g.definitions.items) (variable_of-low g.variables.items (first_name g) refl)

pub returns-clause-visible_atoms : goal.returns-clause-visible_atoms
returns-clause-visible_atoms c = variable_of-visible c.args.grounded.now.variables.items c.args.visible c.requires.rises c.requires.visible_atoms

pub returns-clause-few_variables : goal.returns-clause-few_variables
returns-clause-few_variables c =
    let g = c.args.grounded.now in
    let atoms : c.len-atoms.result ≡ length g.variables.items = omega (arith, c.len-atoms.ensures) in
    let asserting : c.names_taken_asserting_each.result ≡ names_taken_asserting_each (as_trees (sentences_of g)) = c.names_taken_asserting_each.ensures ∙ ap (λ (ps : List Prop). names_taken_asserting_each (as_trees (trees_of ps))) c.deref.ensures.value in
    let defining : c.names_taken_defining_each.result ≡ names_taken_defining_each (definitions_of g.definitions.items) = c.names_taken_defining_each.ensures ∙ ap (λ (ds : List Defined). names_taken_defining_each (definitions_of ds)) c.deref-2.ensures.value in
    omega (arith, atoms, asserting, defining, c.into_clauses.ensures.variables, c.in_ok-add_whole.ensures.variables, c.in_ok-names.ensures.variables, variables_fit g c.args.visible c.requires)

pub returns-clause-few_clauses : goal.returns-clause-few_clauses
returns-clause-few_clauses c =
    let g = c.args.grounded.now in
    let atoms : c.len-atoms.result ≡ length g.variables.items = omega (arith, c.len-atoms.ensures) in
    rw (c.into_clauses.ensures.clauses, c.in_ok-add_whole.ensures.clauses, c.in_ok-names.ensures.clauses, c.in_ok-names.ensures.next, c.deref-3.ensures.value, c.deref-4.ensures.value, c.deref-5.ensures.value, atoms)
    (clauses_fit g c.args.visible c.requires)

pub returns-clause-one_extension : goal.returns-clause-one_extension
returns-clause-one_extension c =
    let g = c.args.grounded.now in
    has_one_extension (variable_in g) (first_name g) (sentences_of g) (definitions_of g.definitions.items) (variable_of-low g.variables.items (first_name g) refl)
