-- The exit status of each status.
use Rattle.std.specs.Prelude.{ℕ}
use Rattle.ec_command.specs.declared.status.Status.{Status}
use Rattle.ec_command.specs.declared.status.Status.TheVariants as status

abbrev pub status_number : Status → ℕ
status_number status.Complete = 0
status_number status.Limit = 1
status_number status.Refused = 2
status_number status.No = 3
status_number status.FilesFault = 4
status_number status.OutFault = 5
status_number status.Usage = 6
status_number status.NoMemory = 7
