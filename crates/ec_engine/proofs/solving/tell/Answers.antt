use Rattle.std.proofs.Common.{Err, ap}
use Rattle.ec_edge.specs.Causes.{Rose}
use Rattle.ec_logic.specs.Listing.{list_text}
use Rattle.ec_theory.specs.Theories.{theory_of}
use Rattle.ec_engine.specs.Solve.{IsSolveDue}
use Rattle.ec_listing.specs.Endings.{list_ending}
use Rattle.ec_engine.specs.declared.solving.SolveEnd.TheVariants as end
use Rattle.ec_engine.proofs.Endings.{by_unit, solve_ends}
use Rattle.ec_engine.proofs.Searching.{done_due, whole_put, write_failed, write_lacked}
use Rattle.ec_engine.proofs.solving.tell.Goals as goal

pub returns-in-Ok-clause-put : goal.returns-in-Ok-clause-put
returns-in-Ok-clause-put g c = λ told held file bounds before solvable found.
    let truths = c.args.found.now.truths.items in
    let ending = c.args.found.now.ending in
    let theory = theory_of c.args.accepted.now.theory in
    let written = g.F.Files.held c.write.new.files c.args.log.now in
    let due : IsSolveDue held file c.args.log.now bounds (end.Done ending) (list_text theory.signature truths (list_ending ending)) written
    = done_due held file c.args.log.now bounds theory truths ending c.args.found.now.log written solvable found (c.in-Ok.ensures.ok told) in
    rw c.done.ensures (solve_ends held file c.args.log.now bounds _ _ _ written (Rose (g.F.Files.failed_starts c.args.files.now) (g.F.Files.failed_starts c.write.new.files)) (list_text theory.signature truths (list_ending ending)) (λ (_ : Unit {0}). end.Done ending) tt c.put_list-put.result
    due (by_unit c.put_list-put.result) (rw c.deref.ensures.value at c.put_list-put.ensures.ok) (rw c.deref.ensures.value at c.put_list-put.ensures.part))

pub returns-in-Ok-clause-completes : goal.returns-in-Ok-clause-completes
returns-in-Ok-clause-completes g c = λ complete. rw c.done.ensures (whole_put c.args.found.now.ending c.put_list-put.result complete)

pub returns-in-Err-Failed-clause-put : goal.returns-in-Err-Failed-clause-put
returns-in-Err-Failed-clause-put g c = λ told held file bounds before solvable found.
    write_failed held file c.args.log.now bounds _ _ (theory_of c.args.accepted.now.theory) c.args.found.now.truths.items c.args.found.now.ending c.args.found.now.log
    _ _ (g.F.Files.held c.write.new.files c.args.log.now) solvable found (λ later. later.1 told) (c.in-Err-Failed.ensures.part (ap Err c.in-Err-Failed.field-0-is))

pub returns-in-Err-Memory-clause-put : goal.returns-in-Err-Memory-clause-put
returns-in-Err-Memory-clause-put g c = λ told held file bounds before solvable found.
    write_lacked held file c.args.log.now bounds (Rose (g.F.Files.failed_starts c.args.files.now) (g.F.Files.failed_starts c.write.new.files)) (theory_of c.args.accepted.now.theory) c.args.found.now.truths.items c.args.found.now.ending c.args.found.now.log
    _ _ (g.F.Files.held c.args.files.now) (g.F.Files.held c.write.new.files) solvable found before (c.in-Err-Memory.ensures.memory told (ap Err c.in-Err-Memory.field-0-is))
