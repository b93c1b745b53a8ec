use Rattle.ec_edge.proofs.Prefixes.{AppendsHeldPrefix-append}
use Rattle.ec_log.proofs.append.append_line.Goals as goal

pub returns-in-Err-Failed-clause-part : goal.returns-in-Err-Failed-clause-part
returns-in-Err-Failed-clause-part g c = λ told.
    let e = c.in-Err-Failed.ensures in
    AppendsHeldPrefix-append c.in-Err-Failed.field-0 _ _ _ e.never_absent (e.part told) (λ is. e.memory is c.args.name.now)

pub returns-in-Err-Memory-clause-part : goal.returns-in-Err-Memory-clause-part
returns-in-Err-Memory-clause-part g c = λ told.
    let e = c.in-Err-Memory.ensures in
    AppendsHeldPrefix-append c.in-Err-Memory.field-0 _ _ _ e.never_absent (e.part told) (λ is. e.memory is c.args.name.now)
