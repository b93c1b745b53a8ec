use Rattle.ec_narr.proofs.PassingLemmas.{line_behind}
use Rattle.ec_narr.proofs.passing.after_signed_line.Goals as goal

pub returns-in-Some : goal.returns-in-Some
returns-in-Some c = line_behind c.args.bytes.now c.args.sign.now c.args.text.now c.in-Some.behind.now c.after_line.result c.in-Some.ensures c.after_line.ensures
