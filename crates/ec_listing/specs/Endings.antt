-- The end of a list that the end of a search is.
use Rattle.ec_logic.specs.Listing as listing
use Rattle.ec_clause.specs.declared.ending.Ending.{Ending}
use Rattle.ec_clause.specs.declared.ending.Ending.TheVariants.{Complete, Models, Conflicts}

abbrev pub list_ending : Ending → listing.Ending
list_ending (Complete n) = listing.complete n
list_ending (Models n) = listing.models n
list_ending (Conflicts n) = listing.conflicts n
