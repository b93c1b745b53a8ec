use Rattle.ec_parse.proofs.Turns.{statements_one}
use Rattle.ec_parse.proofs.statements.one_reading.Goals as goal

pub returns : goal.returns
returns c = λ tokens r s d e. statements_one d e
