use Rattle.std.proofs.Common.{◌≡◌, ◌≤◌, ◌+◌, drop, length}
use Rattle.ec_split.specs.Groups.{groups_from, groups_of}
use Rattle.ec_split.specs.Plan.{groups_in, IsTabled}
use Rattle.ec_split.proofs.plan.plan_of.Given as goal

abbrev pub invariant-loop-statement : goal.invariant-loop-statement
invariant-loop-statement l = record {
  tabled : IsTabled (length l.names.keys) l.plan;
  rest : groups_from l.names.keys (groups_in l.plan) (drop l.statement-index l.wanted) ≡ groups_of l.names.keys l.wanted;
  few : length l.plan.made.items ≤ l.statement-index + 1;
}
