use Rattle.std.proofs.Common.{inl}
use Rattle.ec_theory.specs.Theories.{theory_of}
use Rattle.ec_solve.proofs.FoundLaws.{ending_writable, notes_writable, numbers_writable}
use Rattle.ec_engine.proofs.Searching.{completes_found, few_truths, nothing_done}
use Rattle.ec_engine.proofs.solving.search_accepted.Goals as goal

pub tell-requires-clause-few : goal.tell-requires-clause-few
tell-requires-clause-few g c = few_truths (theory_of c.args.accepted.now.theory) c.args.bounds c.in-Ok.found.truths.items c.in-Ok.found.ending c.in-Ok.found.log c.requires.bounds.few_models c.in-Ok.ensures

pub tell-requires-clause-notes : goal.tell-requires-clause-notes
tell-requires-clause-notes g c = notes_writable (theory_of c.args.accepted.now.theory) c.args.bounds c.in-Ok.found.truths.items c.in-Ok.found.ending c.in-Ok.found.log c.in-Ok.ensures

pub tell-requires-clause-limit : goal.tell-requires-clause-limit
tell-requires-clause-limit g c = ending_writable (theory_of c.args.accepted.now.theory) c.args.bounds c.in-Ok.found.truths.items c.in-Ok.found.ending c.in-Ok.found.log c.requires.bounds.one_model c.requires.bounds.one_conflict c.in-Ok.ensures

pub tell-requires-clause-few_notes : goal.tell-requires-clause-few_notes
tell-requires-clause-few_notes g c = numbers_writable (theory_of c.args.accepted.now.theory) c.args.bounds c.in-Ok.found.truths.items c.in-Ok.found.ending c.in-Ok.found.log c.in-Ok.ensures

pub returns-in-Ok-clause-put : goal.returns-in-Ok-clause-put
returns-in-Ok-clause-put g c = λ told held file before solvable. c.tell.ensures.put told held file c.args.bounds before solvable c.in-Ok.ensures

pub returns-in-Ok-clause-completes : goal.returns-in-Ok-clause-completes
returns-in-Ok-clause-completes g c = λ can.
    c.tell.ensures.completes (completes_found (theory_of c.args.accepted.now.theory) c.args.bounds c.in-Ok.found.truths.items c.in-Ok.found.ending c.in-Ok.found.log c.in-Ok.ensures can)

pub returns-in-Err-clause-put : goal.returns-in-Err-clause-put
returns-in-Err-clause-put g c = λ told held file before solvable. inl (nothing_done held file c.args.log.now c.args.bounds _ _ _ (before c.args.log.now))
