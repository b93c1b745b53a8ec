-- The words of an ending.
use Rattle.std.proofs.Common.{◌≡◌, refl}
use Rattle.ec_clause.specs.declared.ending.Ending.{Ending}
use Rattle.ec_clause.specs.declared.ending.Ending.TheVariants.{Complete, Models, Conflicts}
use Rattle.ec_log.specs.Ending as log
use Rattle.ec_logic.specs.Listing as listing
use Rattle.ec_listing.specs.Endings.{list_ending}

-- a log has them as a list does
pub same_words : (ending : Ending) → log.ending_text ending ≡ listing.ending_text (list_ending ending)
same_words (Complete n) = refl
same_words (Models n) = refl
same_words (Conflicts n) = refl
