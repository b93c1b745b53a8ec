use Rattle.prop_tables.proofs.encodings.+alternating.Given as goal

abbrev pub decreases-alternating : goal.decreases-alternating
decreases-alternating l = l.depth
