use Rattle.std.proofs.Common.{rules, arith}
use Rattle.ec_log.proofs.Texts.{outside}
use Rattle.ec_log.proofs.numbers.read_within.Goals as goal

pub returns-then-n-low : goal.returns-then-n-low
returns-then-n-low c = λ m low high is.
    outside _ c.in-Some.n m c.args.low c.args.high c.in-Some.ensures.some (omega arith) (omega arith) (λ above below. omega arith) low high is

pub returns-then-n-high : goal.returns-then-n-high
returns-then-n-high c = λ m low high is.
    outside _ c.in-Some.n m c.args.low c.args.high c.in-Some.ensures.some (search rules) (omega arith) (λ above below. omega arith) low high is
