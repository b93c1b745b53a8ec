use Rattle.std.proofs.Common.{length, subst}
use Rattle.ec_narr.specs.Reading.{IsJuncture}
use Rattle.ec_narr.proofs.NextLemmas.{ended, gone_past, neither_stands, nothing_left, something_left}
use Rattle.ec_narr.proofs.reading.Reader.next.Goals as goal

pub returns-then-is_empty-clause-next : goal.returns-then-is_empty-clause-next
returns-then-is_empty-clause-next c = λ signature reader.
    let last = subst (IsJuncture (length c.args.models.now) c.args.bytes.now) c.in-Last.is c.in_ok-ending.ensures in
    ended signature c.args.models.now c.args.bytes.now c.in-Last.rest.now c.in-Last.ending last (nothing_left c.in-Last.rest.now c.is_empty.result c.is_empty.ensures c.if-is_empty.true)

pub returns-else-is_empty-clause-next : goal.returns-else-is_empty-clause-next
returns-else-is_empty-clause-next c = λ signature reader.
    let last = subst (IsJuncture (length c.args.models.now) c.args.bytes.now) c.in-Last.is c.in_ok-ending.ensures in
    gone_past signature c.args.models.now c.args.bytes.now c.in-Last.rest.now c.in-Last.ending last (something_left c.in-Last.rest.now c.is_empty.result c.is_empty.ensures c.if-is_empty.false)

pub returns-in-Neither-clause-next : goal.returns-in-Neither-clause-next
returns-in-Neither-clause-next c = λ signature reader.
    let place = subst (IsJuncture (length c.args.models.now) c.args.bytes.now) c.in-Neither.is c.in_ok-ending.ensures in
    neither_stands signature c.args.models.now c.args.bytes.now place.0 place.1
