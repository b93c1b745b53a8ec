use Rattle.std.proofs.Common.{map}
use Rattle.ec_logic.specs.Universe.{universe_of}
use Rattle.ec_logic.specs.Atom.{structure_of}
use Rattle.ec_logic.specs.ValidTheory.{IsValidGroup}
use Rattle.ec_theory.specs.Theories.{group_of}
use Rattle.ec_minimal.proofs.FirstLemmas.{item_at, fact_at, next_minimal}
use Rattle.ec_minimal.proofs.untrue.first_unminimal_group.Goals as goal

pub is_group_minimal-requires-clause-valid : goal.is_group_minimal-requires-clause-valid
is_group_minimal-requires-clause-valid c =
    let group = c.index-groups-place.result in
    let at = item_at group_of c.args.groups.now c.loop-place.place group c.loop-place-test.true c.index-groups-place.is in
    fact_at (IsValidGroup c.args.signature.now) (map group_of c.args.groups.now) c.loop-place.place (group_of group) c.requires.valid at

pub returns-then-not-branch : goal.returns-then-not-branch
returns-then-not-branch c =
    let group = c.index-groups-place.result in
    record {
      before = c.loop-place.invariant;
      group = group_of group;
      there = item_at group_of c.args.groups.now c.loop-place.place group c.loop-place-test.true c.index-groups-place.is;
      untrue = λ minimal. let told = c.in_ok-is_group_minimal.ensures.1 minimal in let not_told = c.if-not-branch.true in cc;
    }

pub loop-place-preserved : goal.loop-place-preserved
loop-place-preserved c =
    let universe = universe_of c.args.signature.now in
    let group = c.index-groups-place.result in
    let at = item_at group_of c.args.groups.now c.loop-place.place group c.loop-place-test.true c.index-groups-place.is in
    next_minimal universe (structure_of universe c.args.structure.now) (map group_of c.args.groups.now) c.loop-place.place (group_of group) at (c.in_ok-is_group_minimal.ensures.0 c.if-not-branch.false) c.loop-place.invariant
