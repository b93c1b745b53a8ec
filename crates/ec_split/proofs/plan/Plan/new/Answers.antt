use Rattle.std.proofs.Common.{rules}
use Rattle.ec_split.proofs.TableLemmas.{start_tabled}
use Rattle.ec_split.proofs.plan.Plan.new.Goals as goal

pub returns-clause-tabled : goal.returns-clause-tabled
returns-clause-tabled c = start_tabled c.args.predicates _ c.requires (search rules) (search rules) (search rules) (search rules)
