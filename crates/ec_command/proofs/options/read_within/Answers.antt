use Rattle.std.proofs.Common.{arith, rules, sym}
use Rattle.ec_command.proofs.Numbers.{number_some, number_out}
use Rattle.ec_command.proofs.options.read_within.Goals as goal

pub returns-then-number-most-clause-is : goal.returns-then-number-most-clause-is
returns-then-number-most-clause-is c = sym (number_some c.args.most c.in_ok-number.number c.args.word.now (search rules) (search rules) (omega arith) (omega arith))

pub returns-else-number-ge1-clause-is : goal.returns-else-number-ge1-clause-is
returns-else-number-ge1-clause-is c = sym (number_out c.args.most c.in_ok-number.number c.args.word.now (search rules) (search rules) (λ low high. omega (arith, c.else-number-ge1.either)))
