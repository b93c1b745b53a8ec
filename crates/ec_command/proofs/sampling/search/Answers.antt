use Rattle.ec_edge.specs.Causes.{Rose}
use Rattle.ec_command.proofs.Sampled.{searched, search_stops, search_stops_memory, search_unrefused}
use Rattle.ec_command.proofs.sampling.search.Goals as goal

pub returns-in-Done-clause-put : goal.returns-in-Done-clause-put
returns-in-Done-clause-put g c = λ told n held starts low steps made.
    searched n steps held (g.F.Files.held c.args.files.now) (g.F.Files.held c.solve.new.files) made c.solve.ensures.others c.default_bounds.result c.default_bounds.ensures.is
    (Rose (g.F.Files.failed_starts c.args.files.now) (g.F.Files.failed_starts c.solve.new.files)) c.in-Done.ending c.solve.new.out (rw c.new-list.ensures at (c.in-Done.ensures.put told))

pub returns-in-Refused-clause-put : goal.returns-in-Refused-clause-put
returns-in-Refused-clause-put g c = λ told n held starts low steps made.
    search_unrefused n steps held (g.F.Files.held c.args.files.now) (g.F.Files.held c.solve.new.files) made c.solve.ensures.others c.default_bounds.result c.default_bounds.ensures.is
    (Rose (g.F.Files.failed_starts c.args.files.now) (g.F.Files.failed_starts c.solve.new.files)) c.in-Refused.refusal c.solve.new.out (rw c.new-list.ensures at (c.in-Refused.ensures.put told))

pub returns-in-Files-clause-put : goal.returns-in-Files-clause-put
returns-in-Files-clause-put g c = λ told n held starts low steps made.
    search_stops n steps held (g.F.Files.held c.args.files.now) (g.F.Files.held c.solve.new.files) made c.solve.ensures.others c.default_bounds.result c.default_bounds.ensures.is
    starts (g.F.Files.failed_starts c.args.files.now) (g.F.Files.failed_starts c.solve.new.files) c.solve.new.out low (rw c.new-list.ensures at (c.in-Files.ensures.put told))

pub returns-in-Memory-clause-put : goal.returns-in-Memory-clause-put
returns-in-Memory-clause-put g c = λ told n held starts low steps made.
    search_stops_memory n steps held (g.F.Files.held c.args.files.now) (g.F.Files.held c.solve.new.files) made c.solve.ensures.others c.default_bounds.result c.default_bounds.ensures.is
    (Rose (g.F.Files.failed_starts c.args.files.now) (g.F.Files.failed_starts c.solve.new.files)) c.solve.new.out (rw c.new-list.ensures at (c.in-Memory.ensures.put told))
