use Rattle.std.proofs.Common.{◌∙◌}
use Rattle.ec_edge.proofs.Printed.{digits_are_text, digits_parse, digits_print_back}
use Rattle.ec_edge.proofs.numbers.read_number.Goals as goal

pub returns-in_default-clause-none : goal.returns-in_default-clause-none
returns-in_default-clause-none c = λ n small is. c.in_default.ensures.cases.0 (digits_are_text _ n small is)

pub returns-in_default-parse-clause-none : goal.returns-in_default-parse-clause-none
returns-in_default-parse-clause-none c = λ n small is. digits_parse _ _ n small is c.in-Ok.ensures.cases.0 c.in_default-parse.ensures.value.0

pub returns-else-eq-clause-none : goal.returns-else-eq-clause-none
returns-else-eq-clause-none c =
    λ n small is. digits_print_back _ _ _ n _ _ small is c.in-Ok.ensures.cases.0 c.in-Ok-parse.ensures.value.0 (c.as_bytes.ensures.value ∙ c.format.ensures.text) c.eq.ensures c.if-eq.false
