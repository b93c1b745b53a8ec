use Rattle.ec_lex.proofs.One.{lexes_one}
use Rattle.ec_lex.proofs.lexer.one_reading.Goals as goal

pub returns : goal.returns
returns c = λ bytes r s d e. lexes_one d e
