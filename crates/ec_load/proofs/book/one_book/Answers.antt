use Rattle.ec_load.proofs.One.{loads_one}
use Rattle.ec_load.proofs.book.one_book.Goals as goal

pub returns : goal.returns
returns c = λ held root r s d e. loads_one d e
