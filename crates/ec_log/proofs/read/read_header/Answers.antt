use Rattle.ec_log.proofs.LinesApart.{no_header-uncut, no_header-variables, no_header-clauses}
use Rattle.ec_log.proofs.read.read_header.Goals as goal

pub returns-in_default : goal.returns-in_default
returns-in_default c = no_header-uncut _ c.in_default.ensures.exact

pub returns-in_default-read_within : goal.returns-in_default-read_within
returns-in_default-read_within c = no_header-variables _ c.in-Some.variables.now c.in-Some.clauses.now c.in-Some.ensures.exact c.in_default-read_within.ensures

pub returns-in_default-read_within-2 : goal.returns-in_default-read_within-2
returns-in_default-read_within-2 c = no_header-clauses _ c.in-Some.variables.now c.in-Some.clauses.now c.in-Some.ensures.exact c.in_default-read_within-2.ensures
