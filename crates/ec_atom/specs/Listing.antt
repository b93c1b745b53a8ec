-- Which constants are values of a sort, and their places among them.
use Rattle.std.specs.Prelude.{ℕ, ℤ, ◌≡◌, ◌<◌, ◌^◌, ◌≤ℤ◌, neg_ℤ, pos, Bool, true, false, List, length, map, filter, Option, Some, None, slice_get, if◌then◌else◌}
use Rattle.std.specs.List.{range_with_len}
use Rattle.ec_logic.specs.Extent.{passing}
use Rattle.ec_logic.specs.Valid.{range_limit}

abbrev pub is_place : Option (Option ℕ) → Bool
is_place None = false
is_place (Some None) = false
is_place (Some (Some place)) = true

-- whether a constant has a place
abbrev pub has_place : List (Option ℕ) → ℕ → Bool
has_place places constant = is_place (slice_get places constant)

-- the place of a constant among those that pass a test, if it passes
abbrev pub place_if : (ℕ → Bool) → ℕ → Option ℕ
place_if test k = if test k then Some (passing test 0 k) else None

-- Each constant that has a place has that among those that have one, and these are listed.
pub record ListsConstants (places : List (Option ℕ)) (constants : List ℕ) : Type 0 where
  pub few : length places < 2 ^ 31
  pub places_are : places ≡ map (place_if (has_place places)) (range_with_len 0 (length places))
  pub constants_are : constants ≡ filter (has_place places) (range_with_len 0 (length places))

pub record IsSmallRange (least : ℤ) (size : ℕ) : Type 0 where
  pub low : neg_ℤ (pos range_limit) ≤ℤ least
  pub high : least ≤ℤ pos range_limit
  pub few : size < 2 ^ 32
