use Rattle.std.proofs.Common.{◌≡◌, sym, subst, ap, ◌∙◌, Some}
use Rattle.ec_edge.specs.Causes.{Rose}
use Rattle.ec_command.specs.declared.status.Status.{Status}
use Rattle.ec_command.specs.declared.words.Job.{Job}
use Rattle.ec_command.specs.declared.words.Job.TheVariants as job
use Rattle.ec_command.specs.Words.{job_of}
use Rattle.ec_command.specs.Run.{IsRun, IsWholeAnswer}
use Rattle.ec_command.proofs.Runs.{check_run, check_refused_end, renamed_check, list_run, list_refused_end, show_run, show_refused_end, solve_run, solve_refused_end, sample_does, one_job, renamed, whole_job, no_search}
use Rattle.ec_command.proofs.call.do_job.Goals as goal

pub returns-in-List-clause-put : goal.returns-in-List-clause-put
returns-in-List-clause-put g c = λ told words asked.
    let file : job_of words ≡ Some (job.List c.text.result.now) = asked ∙ ap Some (c.in-List.is ∙ ap job.List (sym c.text.ensures)) in
    subst (λ (s : Status). IsRun words (g.F.Files.held c.args.files.now) (g.F.Files.held c.list.new.files) (g.O.Sink.tells c.args.out.now) (g.O.Sink.bytes c.args.out.now) (g.O.Sink.bytes c.list.new.out) (Rose (g.F.Files.failed_starts c.args.files.now) (g.F.Files.failed_starts c.list.new.files)) s) (sym c.list_status.ensures)
    (list_run words (g.F.Files.held c.args.files.now) (g.F.Files.held c.list.new.files) (g.O.Sink.tells c.args.out.now) (Rose (g.F.Files.failed_starts c.args.files.now) (g.F.Files.failed_starts c.list.new.files)) c.text.result.now file (g.O.Sink.bytes c.args.out.now) (g.O.Sink.bytes c.list.new.out) c.list.result (c.list.ensures.put told))

pub returns-in-List-clause-refused : goal.returns-in-List-clause-refused
returns-in-List-clause-refused g c = λ is.
    let w = list_refused_end c.list.result (sym c.list_status.ensures ∙ is) in
    record { refusal = w.0; put = λ shown. c.list.ensures.line shown w.0 w.1; absent = c.list.ensures.absent w.0 w.1 }

pub returns-in-Show-clause-put : goal.returns-in-Show-clause-put
returns-in-Show-clause-put g c = λ told words asked.
    let file : job_of words ≡ Some (job.Show c.text-in-Show.result.now) = asked ∙ ap Some (c.in-Show.is ∙ ap job.Show (sym c.text-in-Show.ensures)) in
    subst (λ (s : Status). IsRun words (g.F.Files.held c.args.files.now) (g.F.Files.held c.show.new.files) (g.O.Sink.tells c.args.out.now) (g.O.Sink.bytes c.args.out.now) (g.O.Sink.bytes c.show.new.out) (Rose (g.F.Files.failed_starts c.args.files.now) (g.F.Files.failed_starts c.show.new.files)) s) (sym c.show_status.ensures)
    (show_run words (g.F.Files.held c.args.files.now) (g.F.Files.held c.show.new.files) (g.O.Sink.tells c.args.out.now) (Rose (g.F.Files.failed_starts c.args.files.now) (g.F.Files.failed_starts c.show.new.files)) c.text-in-Show.result.now file (g.O.Sink.bytes c.args.out.now) (g.O.Sink.bytes c.show.new.out) c.show.result (c.show.ensures.put told))

pub returns-in-Show-clause-refused : goal.returns-in-Show-clause-refused
returns-in-Show-clause-refused g c = λ is.
    let w = show_refused_end c.show.result (sym c.show_status.ensures ∙ is) in
    record { refusal = w.0; put = λ shown. c.show.ensures.line shown w.0 w.1; absent = c.show.ensures.absent w.0 w.1 }

pub returns-in-Solve-clause-put : goal.returns-in-Solve-clause-put
returns-in-Solve-clause-put g c = λ told words asked.
    let is : job_of words ≡ Some (job.Solve c.text-in-Solve.result.now c.text-in-Solve-2.result.now c.in-Solve.bounds) = asked ∙ ap Some (renamed c.args.job.now _ _ _ _ c.in-Solve.bounds c.in-Solve.is c.text-in-Solve.ensures c.text-in-Solve-2.ensures) in
    subst (λ (s : Status). IsRun words (g.F.Files.held c.args.files.now) (g.F.Files.held c.solve-end.new.files) (g.O.Sink.tells c.args.out.now) (g.O.Sink.bytes c.args.out.now) (g.O.Sink.bytes c.solve-end.new.out) (Rose (g.F.Files.failed_starts c.args.files.now) (g.F.Files.failed_starts c.solve-end.new.files)) s) (sym c.solve_status.ensures)
    (solve_run words (g.F.Files.held c.args.files.now) (g.F.Files.held c.solve-end.new.files) (g.O.Sink.tells c.args.out.now) (Rose (g.F.Files.failed_starts c.args.files.now) (g.F.Files.failed_starts c.solve-end.new.files)) c.text-in-Solve.result.now c.text-in-Solve-2.result.now c.in-Solve.bounds is (g.O.Sink.bytes c.args.out.now) (g.O.Sink.bytes c.solve-end.new.out) c.solve-end.result (c.solve-end.ensures.put told))

pub returns-in-Solve-clause-refused : goal.returns-in-Solve-clause-refused
returns-in-Solve-clause-refused g c = λ is.
    let w = solve_refused_end c.solve-end.result (sym c.solve_status.ensures ∙ is) in
    record { refusal = w.0; put = λ shown. c.solve-end.ensures.line shown w.0 w.1; absent = c.solve-end.ensures.absent w.0 w.1 }

pub returns-in-Solve-clause-completes : goal.returns-in-Solve-clause-completes
returns-in-Solve-clause-completes g c = λ told words is. record {
  whole = λ file log bounds theory other solvable can.
      let asked : c.args.job.now ≡ job.Solve file log bounds = one_job (job_of words) c.args.job.now (job.Solve file log bounds) is other in
      let names : job.Solve c.text-in-Solve.result.now c.text-in-Solve-2.result.now c.in-Solve.bounds ≡ job.Solve file log bounds = sym (renamed c.args.job.now _ _ _ _ c.in-Solve.bounds c.in-Solve.is c.text-in-Solve.ensures c.text-in-Solve-2.ensures) ∙ asked in
      subst (λ (s : Status). IsWholeAnswer s) (sym c.solve_status.ensures)
      (whole_job (g.F.Files.held c.args.files.now) c.text-in-Solve.result.now c.text-in-Solve-2.result.now c.in-Solve.bounds file log bounds theory c.solve-end.result names (c.solve-end.ensures.completes told) solvable can);
}

pub returns-in-Check-clause-put : goal.returns-in-Check-clause-put
returns-in-Check-clause-put g c = λ told words asked.
    let is : job_of words ≡ Some (job.Check c.text-in-Check.result.now c.text-in-Check-2.result.now c.text-in-Check-3.result.now) = asked ∙ ap Some (renamed_check c.args.job.now _ _ _ _ _ _ c.in-Check.is c.text-in-Check.ensures c.text-in-Check-2.ensures c.text-in-Check-3.ensures) in
    subst (λ (s : Status). IsRun words (g.F.Files.held c.args.files.now) (g.F.Files.held c.check-end.new.files) (g.O.Sink.tells c.args.out.now) (g.O.Sink.bytes c.args.out.now) (g.O.Sink.bytes c.check-end.new.out) (Rose (g.F.Files.failed_starts c.args.files.now) (g.F.Files.failed_starts c.check-end.new.files)) s) (sym c.check_status.ensures)
    (check_run words (g.F.Files.held c.args.files.now) (g.F.Files.held c.check-end.new.files) (g.O.Sink.tells c.args.out.now) (Rose (g.F.Files.failed_starts c.args.files.now) (g.F.Files.failed_starts c.check-end.new.files)) c.text-in-Check.result.now c.text-in-Check-2.result.now c.text-in-Check-3.result.now is (g.O.Sink.bytes c.args.out.now) (g.O.Sink.bytes c.check-end.new.out) c.check-end.result (c.check-end.ensures.put told))

pub returns-in-Check-clause-refused : goal.returns-in-Check-clause-refused
returns-in-Check-clause-refused g c = λ is.
    let w = check_refused_end c.check-end.result (sym c.check_status.ensures ∙ is) in
    record { refusal = w.0; put = λ shown. c.check-end.ensures.line shown w.0 w.1; absent = c.check-end.ensures.absent w.0 w.1 }

pub returns-in-Check-clause-completes : goal.returns-in-Check-clause-completes
returns-in-Check-clause-completes g c = λ told words is. no_search words (g.F.Files.held c.args.files.now) c.check_status.result (Some c.args.job.now) is (rw c.in-Check.is (λ p. p))

pub returns-in-List-clause-completes : goal.returns-in-List-clause-completes
returns-in-List-clause-completes g c = λ told words is. no_search words (g.F.Files.held c.args.files.now) c.list_status.result (Some c.args.job.now) is (rw c.in-List.is (λ p. p))

pub returns-in-Show-clause-completes : goal.returns-in-Show-clause-completes
returns-in-Show-clause-completes g c = λ told words is. no_search words (g.F.Files.held c.args.files.now) c.show_status.result (Some c.args.job.now) is (rw c.in-Show.is (λ p. p))

pub returns-in-Sample-clause-put : goal.returns-in-Sample-clause-put
returns-in-Sample-clause-put g c = λ told words asked.
    sample_does words (g.F.Files.held c.args.files.now) (g.F.Files.held c.sample_run.new.files) (g.O.Sink.tells c.args.out.now) (Rose (g.F.Files.failed_starts c.args.files.now) (g.F.Files.failed_starts c.sample_run.new.files)) c.in-Sample.n (asked ∙ ap Some c.in-Sample.is) (g.O.Sink.bytes c.args.out.now) (g.O.Sink.bytes c.sample_run.new.out) c.sample_run.result (c.sample_run.ensures.put told)

pub returns-in-Sample-clause-completes : goal.returns-in-Sample-clause-completes
returns-in-Sample-clause-completes g c = λ told words is. no_search words (g.F.Files.held c.args.files.now) c.sample_run.result (Some c.args.job.now) is (rw c.in-Sample.is (λ p. p))
