use Rattle.std.proofs.Common.{inl, refl, subst, sym}
use Rattle.ec_edge.specs.Causes.{Rose}
use Rattle.ec_command.specs.SampleRun.{IsSampleRun}
use Rattle.ec_command.specs.Stages.{IsStop}
use Rattle.ec_command.specs.declared.making.Stop.{Stop}
use Rattle.ec_command.specs.declared.status.Status.{Status}
use Rattle.ec_command.proofs.Sampled.{reports}
use Rattle.ec_command.proofs.sampling.sample_run.Goals as goal

pub returns-in-Ok-clause-put : goal.returns-in-Ok-clause-put
returns-in-Ok-clause-put g c = λ told.
    subst (λ (s : Status). IsSampleRun c.args.n (g.F.Files.held c.args.files.now) (g.F.Files.held c.work.new.files) (g.O.Sink.tells c.args.out.now) (g.O.Sink.bytes c.args.out.now) (g.O.Sink.bytes c.put_report-put.new.out)
    (Rose (g.F.Files.failed_starts c.args.files.now) (g.F.Files.failed_starts c.work.new.files)) s) (sym c.reported.ensures)
    (reports c.args.n (g.F.Files.held c.args.files.now) (g.F.Files.held c.work.new.files) c.in-Ok.sampled (c.in-Ok.ensures.put told) (g.O.Sink.tells c.args.out.now) (g.O.Sink.bytes c.args.out.now) (g.O.Sink.bytes c.put_report-put.new.out)
    (Rose (g.F.Files.failed_starts c.args.files.now) (g.F.Files.failed_starts c.work.new.files)) c.put_report-put.result c.put_report-put.ensures.ok c.put_report-put.ensures.part)

pub returns-in-Err-Files-clause-put : goal.returns-in-Err-Files-clause-put
returns-in-Err-Files-clause-put g c = λ told. record {
  same = λ shown. refl;
  stops = subst (λ (why : Stop). IsStop c.args.n (g.F.Files.held c.args.files.now) (g.F.Files.held c.work.new.files) (Rose (g.F.Files.failed_starts c.args.files.now) (g.F.Files.failed_starts c.work.new.files)) why) c.in-Err-Files.field-0-is (c.in-Err-Files.ensures.put told);
}

pub returns-in-Err-Memory-clause-put : goal.returns-in-Err-Memory-clause-put
returns-in-Err-Memory-clause-put g c = λ told. inl (record {
  same = λ shown. refl;
  stops = subst (λ (why : Stop). IsStop c.args.n (g.F.Files.held c.args.files.now) (g.F.Files.held c.work.new.files) (Rose (g.F.Files.failed_starts c.args.files.now) (g.F.Files.failed_starts c.work.new.files)) why) c.in-Err-Memory.field-0-is (c.in-Err-Memory.ensures.put told);
})
