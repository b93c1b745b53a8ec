use Rattle.std.proofs.Common.{ℕ, leb, rules}
use Rattle.std.proofs.lemmas.List.Sorted.{IsPartitionPoint-from_clause, IsPartitionedBy-leb}
use Rattle.ec_atom.proofs.applications.count_at_most.Goals as goal

pub returns-clause-count : goal.returns-clause-count
returns-clause-count c = IsPartitionPoint-from_clause (λ n. leb n c.args.bound) c.args.numbers.now c.partition_point.result c.partition_point.ensures.partitioned (IsPartitionedBy-leb (λ (n : ℕ). n) c.args.numbers.now c.args.bound c.requires) (λ a r f' k. search rules)
