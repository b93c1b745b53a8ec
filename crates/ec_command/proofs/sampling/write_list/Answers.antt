use Rattle.ec_command.proofs.Sampled.{list_written}
use Rattle.ec_command.proofs.sampling.write_list.Goals as goal

pub returns-clause-put : goal.returns-clause-put
returns-clause-put g c = λ told n held starts low steps solved.
    list_written n steps held (g.F.Files.held c.args.files.now) (g.F.Files.held c.write_text.new.files) c.args.solved.now.ending c.args.solved.now.list solved c.write_text.ensures.others
    starts (g.F.Files.failed_starts c.args.files.now) (g.F.Files.failed_starts c.write_text.new.files) low c.write_text.result
    (rw c.bytes.ensures at (c.write_text.ensures.ok told)) c.write_text.ensures.never_refused
    (rw c.bytes.ensures at (c.write_text.ensures.left told)) (rw c.bytes.ensures at (c.write_text.ensures.left_memory told))
