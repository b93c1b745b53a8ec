use Rattle.ec_log.proofs.EndingWords.{no_ending}
use Rattle.ec_log.proofs.endings.read_ending.Goals as goal

pub returns : goal.returns
returns c = λ e fits is. no_ending _ c.in_default.ensures c.in_default-after_prefix.ensures c.in_default-after_prefix-2.ensures e fits is
