-- How many constants each sort has.
use Rattle.std.specs.Prelude.{ℕ, ◌≡◌, ◌<◌, Bool, true, false, List, length, get_or}
use Rattle.ec_logic.specs.Signature.{Signature}
use Rattle.ec_logic.specs.Extent.{passing}
use Rattle.ec_logic.specs.Universe.{is_constant_in}

abbrev pub one_if : Bool → ℕ
one_if true = 1
one_if false = 0

-- For each sort, how many of the first constants are of it or of one of its subsorts.
pub record AreCounts (signature : Signature) (constants : ℕ) (counts : List ℕ) : Type 0 where
  pub each_sort : length counts ≡ length signature.sorts
  pub counted : (s : ℕ) → s < length signature.sorts → get_or counts s 0 ≡ passing (is_constant_in signature s) 0 constants
