use Rattle.ec_minimal.proofs.judge.is_minimal.Goals as goal

pub verdict-requires : goal.verdict-requires
verdict-requires c = record { judge = c.in_ok-judge.ensures; of = c.requires.of; valid = c.requires.valid; all = c.requires.all }

pub returns-clause-verdict : goal.returns-clause-verdict
returns-clause-verdict c = c.verdict.ensures.verdict

pub returns-clause-minimal : goal.returns-clause-minimal
returns-clause-minimal c = c.verdict.ensures.minimal
