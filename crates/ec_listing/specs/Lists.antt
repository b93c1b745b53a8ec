-- The text of a list whose truths need not be those of a theory.
use Rattle.std.specs.Prelude.{◌≡◌, ℕ, Bool, List, length}
use Rattle.std.specs.List.{AllByRecursion}
use Rattle.ec_logic.specs.Signature.{Signature}
use Rattle.ec_logic.specs.Listing.{Ending, list_text, IsRising}
use Rattle.ec_listing.specs.Reading.{IsFitting, HasNumber}

-- Bytes are the text of the list of these truths, which fit and rise, with this ending, which has the right number.
pub record IsListText (signature : Signature) (bytes : List ℕ) (truths : List (List Bool)) (ending : Ending) : Type 0 where
  pub is : bytes ≡ list_text signature truths ending
  pub fit : AllByRecursion (IsFitting signature) truths
  pub rise : IsRising truths
  pub number : HasNumber (length truths) ending
