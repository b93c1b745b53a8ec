use Rattle.bench_clauses.proofs.Alike.{grounded}
use Rattle.bench_clauses.proofs.theory.theory.Goals as goal

pub returns : goal.returns
returns c = grounded _ c.args.count c.requires c.in_ok-sentences.ensures c.new.ensures.items c.in_ok-atoms.ensures
