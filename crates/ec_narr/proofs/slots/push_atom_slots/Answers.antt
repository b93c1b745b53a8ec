use Rattle.std.proofs.Common.{◌++◌, ◌∙◌, length, map, ap, arith}
use Rattle.std.specs.List.{flat_map}
use Rattle.ec_listing.specs.Slots.{atom_slot}
use Rattle.ec_logic.specs.Atom.{atoms_of, declared, visible_atoms}
use Rattle.ec_logic.specs.Signature.{Signature}
use Rattle.ec_logic.specs.Universe.{universe_of}
use Rattle.ec_narr.specs.Slots.{slots_view}
use Rattle.ec_narr.proofs.PredicateLemmas.{item_at}
use Rattle.ec_narr.proofs.SlotLemmas.{pushed, next_atom_slot, last_atom_slot}
use Rattle.ec_narr.proofs.slots.push_atom_slots.Goals as goal

pub atom_slot-requires-clause-within : goal.atom_slot-requires-clause-within
atom_slot-requires-clause-within c =
    let count = c.visible-index-end.ensures.count ∙ ap (λ (s : Signature). length (visible_atoms (universe_of s))) c.requires.same in
    let low = c.loop-index-test.true in
    omega (arith, count, low)

pub loop-index-preserved : goal.loop-index-preserved
loop-index-preserved c =
    let count = c.visible-index-end.ensures.count ∙ ap (λ (s : Signature). length (visible_atoms (universe_of s))) c.requires.same in
    let low = c.loop-index-test.true in
    let slot = atom_slot c.args.signature.now in
    let atom = item_at (visible_atoms (universe_of c.args.signature.now)) c.loop-index.index (omega (arith, count, low)) in
    next_atom_slot slot (visible_atoms (universe_of c.args.signature.now)) c.loop-index.index atom.0 (slots_view c.loop-index.out.items) (slots_view c.push.new.self.items) (slots_view c.args.out.now.items ++ map slot (flat_map (atoms_of (universe_of c.args.signature.now)) (declared (universe_of c.args.signature.now))))
    atom.1 c.loop-index.invariant (pushed c.loop-index.out.items c.push.new.self.items c.in_ok-slot.slot (slot atom.0) c.in_ok-push.ensures.items (c.in_ok-slot.ensures atom.0 atom.1))

pub returns : goal.returns
returns c =
    let count = c.visible-index-end.ensures.count ∙ ap (λ (s : Signature). length (visible_atoms (universe_of s))) c.requires.same in
    let past = c.loop-index-test.false in
    let slot = atom_slot c.args.signature.now in
    last_atom_slot slot (visible_atoms (universe_of c.args.signature.now)) c.loop-index.index (slots_view c.loop-index.out.items) (slots_view c.args.out.now.items ++ map slot (flat_map (atoms_of (universe_of c.args.signature.now)) (declared (universe_of c.args.signature.now)))) (omega (arith, count, past)) c.loop-index.invariant
