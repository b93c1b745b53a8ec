use Rattle.std.proofs.Common.{◌≡◌, None, length}
use Rattle.std.specs.Vec.Iter.{into_iter_items}
use Rattle.ec_split.specs.Dealt.{parts_in}
use Rattle.ec_split.specs.Plan.{groups_in}
use Rattle.ec_split.specs.Split.{filled_from, first_refusal, sentences_at}
use Rattle.ec_split.proofs.shares.shares_of.Given as goal

abbrev pub invariant-loop-one : goal.invariant-loop-one
invariant-loop-one l = record {
  fault : first_refusal l.names.keys (groups_in l.plan) (into_iter_items l.one-iterator) ≡ first_refusal l.names.keys (groups_in l.plan) l.fn.labelled.items;
  remaining : l.shares.remaining.items ≡ sentences_at (groups_in l.plan) None l.yielded;
  groups : parts_in l.shares ≡ filled_from l.names.keys (groups_in l.plan) l.yielded 0 (groups_in l.plan);
  count : length l.plan.made.items ≡ length l.shares.groups.items;
}
