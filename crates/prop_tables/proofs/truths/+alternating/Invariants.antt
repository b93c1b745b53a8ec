use Rattle.prop_tables.proofs.truths.+alternating.Given as goal

abbrev pub decreases-alternating : goal.decreases-alternating
decreases-alternating l = l.depth
