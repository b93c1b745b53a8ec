use Rattle.ec_split.proofs.TableLemmas.{added_at}
use Rattle.ec_split.proofs.plan.Plan.add.Goals as goal

pub returns-clause-groups : goal.returns-clause-groups
returns-clause-groups c = added_at c.args.place c.args.p c.args.self.now.made.items c.index_mut.result.now c.push.new.self c.requires.below c.index_mut.ensures.value c.in_ok-push.ensures.items
