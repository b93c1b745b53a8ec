-- The values of a sort as a table that finds them by place, and their places.
use Rattle.std.specs.Prelude.{◌<◌, ◌^◌, true, length}
use Rattle.ec_logic.specs.Extent.{Extent, numbers, members}
use Rattle.ec_atom.specs.declared.table.Values.{Values}
use Rattle.ec_atom.specs.declared.table.Values.TheVariants.{Numbers, Places, Constants}
use Rattle.ec_atom.specs.Listing.{has_place, IsSmallRange, ListsConstants}

abbrev pub extent_of_values : Values → Extent
extent_of_values (Numbers least size) = numbers least size
extent_of_values (Places size) = members size (λ k. true)
extent_of_values (Constants places constants) = members (length places.items) (has_place places.items)

abbrev pub IsTable : Values → Type 0
IsTable (Numbers least size) = IsSmallRange least size
IsTable (Places size) = size < 2 ^ 62
IsTable (Constants places constants) = ListsConstants places.items constants.items
