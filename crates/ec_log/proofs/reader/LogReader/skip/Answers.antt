use Rattle.std.proofs.Common.{arith}
use Rattle.ec_log.proofs.Collected.{skipped_view, held_length}
use Rattle.ec_log.proofs.reader.LogReader.skip.Goals as goal

pub returns : goal.returns
returns c =
    let r = c.self.inside in
    let len = held_length r.buffer.items r.place r.start r.end c.args.self.now c.self.view_is c.self.invariant.2 c.self.invariant.3 in
    skipped_view r.buffer.items r.place r.start r.end c.args.count c.args.self.now c.self.view_is (omega (arith, c.requires.held))
