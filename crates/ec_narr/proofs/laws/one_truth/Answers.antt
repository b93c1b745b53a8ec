use Rattle.ec_listing.proofs.Narratives.{one_narrative}
use Rattle.ec_listing.proofs.ToldBySlots.{told_by_slots}
use Rattle.ec_narr.proofs.laws.one_truth.Goals as goal

pub returns : goal.returns
returns c = λ signature number other truth found valid fits fits' is. one_narrative signature (told_by_slots signature valid) number other truth found fits fits' is
