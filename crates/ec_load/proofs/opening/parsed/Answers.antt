use Rattle.std.proofs.Common.{codes}
use Rattle.ec_load.specs.Refusals.{refused, in_file}
use Rattle.ec_load.specs.Opening as says
use Rattle.ec_load.specs.Answers.{SpellTo, statements_of}
use Rattle.ec_load.proofs.Refusing.{answers_refused}
use Rattle.ec_load.proofs.opening.parsed.Goals as goal

pub returns-in-Err-Syntax-clause-says : goal.returns-in-Err-Syntax-clause-says
returns-in-Err-Syntax-clause-says c =
    answers_refused statements_of (SpellTo c.args.file.now c.args.tokens.now) (refused 5 (in_file c.args.file.now c.in-Err-Syntax.line) c.in-Err-Syntax.word) c.refused.result c.refused.ensures (λ bytes l. says.outside c.args.tokens.now l (rw c.in-Err-Syntax.field-0-is at c.in-Err-Syntax.ensures))

pub returns-in-Err-Deep-clause-says : goal.returns-in-Err-Deep-clause-says
returns-in-Err-Deep-clause-says c =
    answers_refused statements_of (SpellTo c.args.file.now c.args.tokens.now) (refused 15 (in_file c.args.file.now c.in-Err-Deep.line) (codes "depth")) c.deep.result c.deep.ensures (λ bytes l. says.deep c.args.tokens.now l (rw c.in-Err-Deep.field-0-is at c.in-Err-Deep.ensures))
