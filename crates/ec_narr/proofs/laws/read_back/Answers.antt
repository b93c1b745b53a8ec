use Rattle.ec_listing.proofs.ListTexts.{text_is_read}
use Rattle.ec_listing.proofs.ToldBySlots.{told_by_slots}
use Rattle.ec_narr.proofs.laws.read_back.Goals as goal

pub returns : goal.returns
returns c = λ signature truths ending valid fits rising right. text_is_read signature (told_by_slots signature valid) truths ending fits rising right
