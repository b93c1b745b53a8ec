use Rattle.ec_split.proofs.DealLemmas.{dealt_into}
use Rattle.ec_split.proofs.shares.Shares.add.Goals as goal

pub returns-clause-groups : goal.returns-clause-groups
returns-clause-groups c = dealt_into c.args.place c.args.sentence c.args.self.now.groups.items c.index_mut.result.now c.push.new.self c.requires c.index_mut.ensures.value c.in_ok-push.ensures.items
