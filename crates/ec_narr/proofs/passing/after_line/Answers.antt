use Rattle.ec_narr.proofs.PassingLemmas.{ended_behind}
use Rattle.ec_narr.proofs.passing.after_line.Goals as goal

pub returns-in-Some : goal.returns-in-Some
returns-in-Some c = ended_behind c.args.bytes.now c.args.text.now c.in-Some.behind.now c.after_prefix-in-Some.result c.in-Some.ensures c.after_prefix-in-Some.ensures
