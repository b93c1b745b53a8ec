use Rattle.ec_load.specs.Refusals.{refused, in_file, hexadecimal}
use Rattle.ec_load.specs.Opening as says
use Rattle.ec_load.specs.Answers.{LexesTo, tokens_of}
use Rattle.ec_load.proofs.Refusing.{answers_refused}
use Rattle.ec_load.proofs.opening.lexed.Goals as goal

pub returns-in-Err-BadByte-clause-says : goal.returns-in-Err-BadByte-clause-says
returns-in-Err-BadByte-clause-says c =
    answers_refused tokens_of (LexesTo c.args.file.now c.args.bytes.now) (refused 2 (in_file c.args.file.now c.in-Err-BadByte.line) (hexadecimal c.in-Err-BadByte.byte)) c.bad_byte.result c.bad_byte.ensures (says.bad_byte (rw c.in-Err-BadByte.field-0-is at c.in-Err-BadByte.ensures.reading))

pub returns-in-Err-TooLarge-clause-says : goal.returns-in-Err-TooLarge-clause-says
returns-in-Err-TooLarge-clause-says c =
    answers_refused tokens_of (LexesTo c.args.file.now c.args.bytes.now) (refused 5 (in_file c.args.file.now c.in-Err-TooLarge.line) c.in-Err-TooLarge.word) c.refused.result c.refused.ensures (says.too_large (rw c.in-Err-TooLarge.field-0-is at c.in-Err-TooLarge.ensures.reading))
