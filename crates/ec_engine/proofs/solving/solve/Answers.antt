use Rattle.std.proofs.Common.{ℕ, ◌∙◌, refl, subst, IsTrue}
use Rattle.ec_edge.specs.Causes.{Rose}
use Rattle.ec_theory.specs.Theories.{theory_of}
use Rattle.ec_engine.specs.Solve.{unaccepted}
use Rattle.ec_engine.specs.declared.solving.SolveEnd.TheVariants as end
use Rattle.ec_engine.proofs.Endings.{solve_ends, solve_weaker}
use Rattle.ec_engine.proofs.Searching.{completes_accepted, none_accepted}
use Rattle.ec_engine.proofs.solving.solve.Goals as goal

pub returns-in-Ok-clause-put : goal.returns-in-Ok-clause-put
returns-in-Ok-clause-put g c = λ told.
    let held = g.F.Files.held c.args.files.now in
    let now : IsTrue (g.F.Files.tells c.accept.new.files) = rw c.in-Ok.ensures.tells told in
    solve_weaker held c.args.file.now c.args.log.now c.args.bounds _ _ _ _ _ _ (subst (λ (n : ℕ). Rose n (g.F.Files.failed_starts c.solve_accepted.new.files)) c.in-Ok.ensures.failed_starts) c.solve_accepted.result
    (c.solve_accepted.ensures.put now held c.in-Ok.ensures.stays (c.in-Ok.ensures.accepted told) (c.in-Ok.ensures.files told))

pub returns-in-Ok-clause-absent : goal.returns-in-Ok-clause-absent
returns-in-Ok-clause-absent g c = λ r is one. absurd (c.solve_accepted.ensures.present r is one)

pub returns-in-Ok-clause-others : goal.returns-in-Ok-clause-others
returns-in-Ok-clause-others g c = λ other apart. c.solve_accepted.ensures.others other apart ∙ c.in-Ok.ensures.stays other

pub returns-in-Ok-clause-completes : goal.returns-in-Ok-clause-completes
returns-in-Ok-clause-completes g c = λ told theory solvable can.
    completes_accepted (g.F.Files.held c.args.files.now) c.args.file.now c.args.log.now c.args.bounds (theory_of c.in-Ok.accepted.theory) theory c.in-Ok.accepted.files.items c.solve_accepted.result c.solve_accepted.ensures.completes
    (c.in-Ok.ensures.accepted told) (c.in-Ok.ensures.files told) solvable can

pub returns-in-Err-Refused-clause-put : goal.returns-in-Err-Refused-clause-put
returns-in-Err-Refused-clause-put g c = λ told.
    rw c.refused.ensures (solve_ends (g.F.Files.held c.args.files.now) c.args.file.now c.args.log.now c.args.bounds _ _ _ _ _ _ end.Refused c.in-Err-Refused.refusal c.refuse.result
    (unaccepted (rw c.in-Err-Refused.field-0-is at c.in-Err-Refused.ensures.accepted told), refl, c.in-Err-Refused.ensures.stays c.args.log.now)
    (rw c.in-Err-Refused.field-0-is at c.refuse.ensures.same) (rw c.in-Err-Refused.field-0-is at c.refuse.ensures.ok) (rw c.in-Err-Refused.field-0-is at c.refuse.ensures.part))

pub returns-in-Err-Refused-clause-completes : goal.returns-in-Err-Refused-clause-completes
returns-in-Err-Refused-clause-completes g c = λ told theory solvable can.
    absurd (none_accepted (g.F.Files.held c.args.files.now) c.args.file.now c.args.log.now c.args.bounds c.in-Err-Refused.refusal theory (rw c.in-Err-Refused.field-0-is at c.in-Err-Refused.ensures.accepted told) solvable)
