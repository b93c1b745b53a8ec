use Rattle.std.proofs.Common.{[]}
use Rattle.ec_listing.proofs.OneReading.{one_answer}
use Rattle.ec_listing.proofs.ToldBySlots.{told_by_slots}
use Rattle.ec_narr.proofs.laws.one_list.Goals as goal

pub returns : goal.returns
returns c = λ signature bytes a b valid read read'. one_answer signature (told_by_slots signature valid) [] 1 bytes a b read read'
