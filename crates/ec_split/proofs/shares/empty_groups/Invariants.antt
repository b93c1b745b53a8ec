use Rattle.std.proofs.Common.{◌≡◌, ◌++◌, drop, map}
use Rattle.ec_split.specs.Dealt.{empty_parts}
use Rattle.ec_split.specs.Parts.{group_parts}
use Rattle.ec_split.specs.Plan.{made_of}
use Rattle.ec_split.proofs.shares.empty_groups.Given as goal

abbrev pub invariant-loop-group : goal.invariant-loop-group
invariant-loop-group l = map group_parts l.groups.items ++ map (empty_parts l.names.keys) (map made_of (drop l.group-index l.made)) ≡ map (empty_parts l.names.keys) (map made_of l.made)
