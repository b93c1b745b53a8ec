use Rattle.ec_narr.proofs.SlotLemmas.{atom_slot_is}
use Rattle.ec_narr.proofs.places.atom_slot.Goals as goal

pub returns : goal.returns
returns c = λ atom at. atom_slot_is c.args.signature.now c.args.index atom c.in_ok-text.text.items c.requires.valid at (c.in_ok-text.ensures atom at)
