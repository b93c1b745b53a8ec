use Rattle.std.proofs.Common.{◌≡◌, ◌∙◌, ◌+◌, ◌∷◌, ◌++◌, ap, sym, drop, arith}
use Rattle.std.proofs.lemmas.List.{drop_more}
use Rattle.ec_prop.specs.Prop.{tree_of}
use Rattle.ec_clause.specs.Literal.{Literal}
use Rattle.ec_prop.specs.declared.ground.Defined.{Defined}
use Rattle.ec_prop.specs.Grounded.{definition_of, definitions_of}
use Rattle.ec_naming.specs.Listing.{defining}
use Rattle.ec_naming.specs.Tidy.{tidied}
use Rattle.ec_naming.specs.Variables.{variable_of}
use Rattle.ec_folding.specs.Tree.{EachAtom}
use Rattle.std.specs.Prelude.{Contains}
use Rattle.ec_naming.proofs.Adding.{defined_step, defined_few, defined_counts, All-at}
use Rattle.ec_encode.proofs.names.Names.define_each.Goals as goal

pub loop-definition-preserved : goal.loop-definition-preserved
loop-definition-preserved c =
    let atoms = c.args.atoms.now in
    let i = c.loop-definition.definition-index in
    let x = c.definition-item.result in
    let d = definition_of x in
    let ds = definitions_of (drop (i + 1) c.args.definitions.now) in
    let rest = definitions_of (drop i c.args.definitions.now) in
    let is : rest ≡ d ∷ ds = ap definitions_of (drop_more c.args.definitions.now i x c.loop-definition-test.true ∙ ap (λ (y : Defined). y ∷ drop (i + 1) c.args.definitions.now) (sym c.definition-item.is)) in
    let next = c.in_ok-define.ensures.next in
    let n = c.loop-definition.self.next in
    let m = c.define.new.self.next in
    let steps = defined_counts atoms n m d ds rest is next in
    let clauses = c.in_ok-define.ensures.clauses ∙ ap (λ (l : Literal). c.loop-definition.self.clauses ++ tidied (defining (variable_of atoms) n l (tree_of x.scope))) c.atom_literal-lit.ensures in
    record {
      low = omega (arith, next, c.loop-definition.invariant.low);
      high = omega (arith, steps, c.loop-definition.invariant.high, c.define.ensures.variables);
      few = defined_few atoms n m d ds rest is next 4294967295 c.loop-definition.self.clauses c.define.new.self.clauses clauses c.loop-definition.invariant.few;
      variables = c.define.ensures.variables ∙ c.loop-definition.invariant.variables;
      next = sym steps ∙ c.loop-definition.invariant.next;
      clauses = defined_step atoms n m d ds rest is next c.loop-definition.self.clauses c.define.new.self.clauses _ clauses c.loop-definition.invariant.clauses;
    }

pub atom_literal-lit-requires-clause-atom : goal.atom_literal-lit-requires-clause-atom
atom_literal-lit-requires-clause-atom c = All-at (λ d. Contains c.args.atoms.now d.atom) definition_of c.args.definitions.now c.definition-item.result c.loop-definition.definition-index c.requires.«defined» c.loop-definition-test.true c.definition-item.is

pub define-requires-clause-atoms : goal.define-requires-clause-atoms
define-requires-clause-atoms c = All-at (λ d. EachAtom (Contains c.args.atoms.now) d.scope) definition_of c.args.definitions.now c.definition-item.result c.loop-definition.definition-index c.requires.scopes c.loop-definition-test.true c.definition-item.is
