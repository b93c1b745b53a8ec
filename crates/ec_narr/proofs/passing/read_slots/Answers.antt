use Rattle.std.proofs.Common.{length, arith}
use Rattle.ec_narr.proofs.PassingLemmas.{slot_within, slot_passed, slot_stops}
use Rattle.ec_narr.proofs.passing.read_slots.Goals as goal

pub pass-requires : goal.pass-requires
pass-requires c =
    let l = c.loop-slot in
    slot_within (length c.args.truth.now) c.args.slots.now l.truth c.args.bytes.now l.rest.now l.slot-index c.slot-item.result (omega arith) c.slot-item.is c.requires l.invariant

pub loop-slot-preserved : goal.loop-slot-preserved
loop-slot-preserved c =
    let l = c.loop-slot in
    slot_passed (length c.args.truth.now) c.args.slots.now l.truth c.args.bytes.now l.rest.now l.slot-index c.slot-item.result (omega arith) c.slot-item.is c.requires l.invariant c.pass.new.truth c.in-Some.behind.now c.in-Some.ensures

pub returns-in-None : goal.returns-in-None
returns-in-None c =
    let l = c.loop-slot in
    slot_stops (length c.args.truth.now) c.args.slots.now l.truth c.args.bytes.now l.rest.now l.slot-index c.slot-item.result (omega arith) c.slot-item.is l.invariant c.pass.new.truth c.in-None.ensures
