use Rattle.std.proofs.Common.{◌≡◌, ◌∙◌, ◌<◌, length, Bool, List, sym, subst, arith}
use Rattle.ec_logic.specs.Universe.{universe_of}
use Rattle.ec_logic.specs.Value.{values}
use Rattle.ec_logic.specs.Atom.{structure_of}
use Rattle.ec_logic.specs.Marks.{Joins, is_tuple}
use Rattle.ec_logic.proofs.Extents.{arguments_length}
use Rattle.ec_logic.proofs.MarkedBits.{joins_set, joins_outside_domains}
use Rattle.ec_theory.specs.View.{term_trees}
use Rattle.ec_values.proofs.AtomLemmas.{number_below}
use Rattle.ec_eval.proofs.marking.mark_atom.Goals as goal

pub set_mark-requires : goal.set_mark-requires
set_mark-requires c =
    let universe = universe_of c.args.signature.now in
    let known : c.args.predicate < length universe.predicates = omega (arith, c.requires.known, arguments_length c.args.signature.now.predicates) in
    omega (arith, c.requires.all, number_below universe c.args.predicate (values universe c.args.env.now (term_trees c.args.args.now)) c.in-Some.atom known c.in-Some.ensures)

pub returns-in-Some-clause-marks : goal.returns-in-Some-clause-marks
returns-in-Some-clause-marks c =
    let universe = universe_of c.args.signature.now in
    let us = values universe c.args.env.now (term_trees c.args.args.now) in
    let known : c.args.predicate < length universe.predicates = omega (arith, c.requires.known, arguments_length c.args.signature.now.predicates) in
    let room : c.in-Some.atom < length c.args.marks.now = omega (arith, c.requires.all, number_below universe c.args.predicate us c.in-Some.atom known c.in-Some.ensures) in
    let P : List Bool → Type 0 = λ bits. Joins universe (is_tuple c.args.predicate us) (structure_of universe c.args.marks.now) (structure_of universe bits) in
    subst P (sym c.set_mark.ensures) (joins_set universe c.args.marks.now c.args.predicate us c.in-Some.atom known (sym c.in-Some.ensures) room)

pub returns-in-None-clause-marks : goal.returns-in-None-clause-marks
returns-in-None-clause-marks c =
    let universe = universe_of c.args.signature.now in
    joins_outside_domains universe c.args.marks.now c.args.predicate (values universe c.args.env.now (term_trees c.args.args.now)) (sym c.in-None.ensures)
