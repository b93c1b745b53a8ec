use Rattle.std.proofs.Common.{Err, ap, rules}
use Rattle.ec_log.proofs.LinesApart.{no_derived}
use Rattle.ec_log.proofs.read.read_derived.Goals as goal

pub returns-in-Err-read_hints : goal.returns-in-Err-read_hints
returns-in-Err-read_hints c = no_derived c.in-Err-read_hints.fault c.args.text.now c.in-Ok.rest.now c.read_literals.new.lits.items (search rules) (search rules) (λ is. c.in-Err-read_hints.ensures.form (ap Err is))
