-- The status of a command's end.
use Rattle.ec_clause.specs.declared.ending.Ending.TheVariants.{Complete, Models, Conflicts}
use Rattle.ec_engine.specs.declared.checking.CheckEnd.{CheckEnd}
use Rattle.ec_engine.specs.declared.checking.CheckEnd.TheVariants as check
use Rattle.ec_engine.specs.declared.listing.ListEnd.{ListEnd}
use Rattle.ec_engine.specs.declared.listing.ListEnd.TheVariants as list
use Rattle.ec_engine.specs.declared.showing.ShowEnd.{ShowEnd}
use Rattle.ec_engine.specs.declared.showing.ShowEnd.TheVariants as show
use Rattle.ec_engine.specs.declared.solving.SolveEnd.{SolveEnd}
use Rattle.ec_engine.specs.declared.solving.SolveEnd.TheVariants as solve
use Rattle.ec_command.specs.declared.status.Status.{Status}
use Rattle.ec_command.specs.declared.status.Status.TheVariants as status

abbrev pub list_status : ListEnd → Status
list_status (list.Complete count) = status.Complete
list_status (list.Refused refusal) = status.Refused
list_status list.Files = status.FilesFault
list_status list.Out = status.OutFault
list_status list.Memory = status.NoMemory

abbrev pub solve_status : SolveEnd → Status
solve_status (solve.Done (Complete count)) = status.Complete
solve_status (solve.Done (Models most)) = status.Limit
solve_status (solve.Done (Conflicts most)) = status.Limit
solve_status (solve.Refused refusal) = status.Refused
solve_status solve.Files = status.FilesFault
solve_status solve.Out = status.OutFault
solve_status solve.Memory = status.NoMemory

abbrev pub check_status : CheckEnd → Status
check_status (check.Yes (Complete count)) = status.Complete
check_status (check.Yes (Models most)) = status.Limit
check_status (check.Yes (Conflicts most)) = status.Limit
check_status (check.No why) = status.No
check_status (check.Refused refusal) = status.Refused
check_status check.Files = status.FilesFault
check_status check.Out = status.OutFault
check_status check.Memory = status.NoMemory

abbrev pub show_status : ShowEnd → Status
show_status (show.Shown counts) = status.Complete
show_status (show.Refused refusal) = status.Refused
show_status show.Files = status.FilesFault
show_status show.Out = status.OutFault
show_status show.Memory = status.NoMemory
