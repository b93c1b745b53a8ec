use Rattle.ec_parse.specs.Lines.{constants}
use Rattle.ec_parse.proofs.line.line.Goals as goal

pub returns-in_ok-sort-in-Lower : goal.returns-in_ok-sort-in-Lower
returns-in_ok-sort-in-Lower c = rw (c.in-Some.ensures, c.in-Lower.is, c.in_ok-sort-in-Lower.ensures) (constants c.in_ok-names-in-Lower.ensures)
