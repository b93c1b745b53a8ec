use Rattle.std.proofs.Common.{◌≤◌, ◌-◌, length, drop}
use Rattle.ec_parse.proofs.Turns.{Cut}
use Rattle.ec_parse.proofs.statements.statements.Given as goal

abbrev pub invariant-statements : goal.invariant-statements
invariant-statements l = Cut l.tokens (drop l.place l.tokens) l.found.items × (l.place ≤ length l.tokens)

abbrev pub decreases-statements : goal.decreases-statements
decreases-statements l = length l.tokens - l.place
