use Rattle.std.proofs.Common.{map, None, refl}
use Rattle.std.specs.String.{string_bytes}
use Rattle.ec_edge.specs.Causes.{Rose}
use Rattle.ec_command.proofs.Runs.{no_job_run, no_search}
use Rattle.ec_command.proofs.call.run.Goals as goal

pub returns-in-Err-Usage-clause-put : goal.returns-in-Err-Usage-clause-put
returns-in-Err-Usage-clause-put g c = λ told.
    no_job_run (map string_bytes c.args.words.now) (g.F.Files.held c.args.files.now) (g.O.Sink.tells c.args.out.now) (g.O.Sink.bytes c.args.out.now) (g.O.Sink.bytes c.usage.new.out)
    (Rose (g.F.Files.failed_starts c.args.files.now) (g.F.Files.failed_starts c.args.files.now)) c.usage.result (rw c.in-Err-Usage.field-0-is at c.in-Err-Usage.ensures.job) c.usage.ensures.put

pub returns-in-Err-Usage-clause-completes : goal.returns-in-Err-Usage-clause-completes
returns-in-Err-Usage-clause-completes g c = λ told.
    no_search (map string_bytes c.args.words.now) (g.F.Files.held c.args.files.now) c.usage.result None (rw c.in-Err-Usage.field-0-is at c.in-Err-Usage.ensures.job) (λ p. p)

pub returns-in-Err-Memory-clause-completes : goal.returns-in-Err-Memory-clause-completes
returns-in-Err-Memory-clause-completes g c = λ told. record { whole = λ file log bounds theory asked solvable can. tt }
