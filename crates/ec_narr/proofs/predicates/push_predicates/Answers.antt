use Rattle.std.proofs.Common.{◌++◌, ◌∙◌, length, ap, arith}
use Rattle.std.specs.List.{flat_map}
use Rattle.ec_logic.specs.Atom.{atoms_of, declared, structure_of, visible_atoms}
use Rattle.ec_logic.specs.Narrative.{atom_line}
use Rattle.ec_logic.specs.Signature.{Signature}
use Rattle.ec_logic.specs.Universe.{universe_of}
use Rattle.ec_narr.proofs.PredicateLemmas.{item_at, next_atom, last_atom}
use Rattle.ec_narr.proofs.predicates.push_predicates.Goals as goal

pub push_atom_line-requires-clause-within : goal.push_atom_line-requires-clause-within
push_atom_line-requires-clause-within c =
    let count = c.visible-index-end.ensures.count ∙ ap (λ (s : Signature). length (visible_atoms (universe_of s))) c.requires.same in
    let low = c.loop-index-test.true in
    omega (arith, count, low)

pub loop-index-preserved : goal.loop-index-preserved
loop-index-preserved c =
    let count = c.visible-index-end.ensures.count ∙ ap (λ (s : Signature). length (visible_atoms (universe_of s))) c.requires.same in
    let low = c.loop-index-test.true in
    let lines = atom_line c.args.signature.now (structure_of (universe_of c.args.signature.now) c.args.truth.now) in
    let atom = item_at (visible_atoms (universe_of c.args.signature.now)) c.loop-index.index (omega (arith, count, low)) in
    next_atom lines (visible_atoms (universe_of c.args.signature.now)) c.loop-index.index atom.0 c.loop-index.out.items c.push_atom_line.new.out.items (c.args.out.now.items ++ flat_map lines (flat_map (atoms_of (universe_of c.args.signature.now)) (declared (universe_of c.args.signature.now))))
    atom.1 c.loop-index.invariant (c.in_ok-push_atom_line.ensures atom.0 atom.1)

pub returns : goal.returns
returns c =
    let count = c.visible-index-end.ensures.count ∙ ap (λ (s : Signature). length (visible_atoms (universe_of s))) c.requires.same in
    let past = c.loop-index-test.false in
    let lines = atom_line c.args.signature.now (structure_of (universe_of c.args.signature.now) c.args.truth.now) in
    last_atom lines (visible_atoms (universe_of c.args.signature.now)) c.loop-index.index c.loop-index.out.items (c.args.out.now.items ++ flat_map lines (flat_map (atoms_of (universe_of c.args.signature.now)) (declared (universe_of c.args.signature.now)))) (omega (arith, count, past)) c.loop-index.invariant
