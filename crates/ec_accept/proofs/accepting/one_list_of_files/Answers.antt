use Rattle.ec_accept.proofs.One.{files_one}
use Rattle.ec_accept.proofs.accepting.one_list_of_files.Goals as goal

pub returns : goal.returns
returns c = λ held root files others d e. files_one held root d e
