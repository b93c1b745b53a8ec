-- The numbers of the refusals.
use Rattle.std.specs.Prelude.{ℕ}
use Rattle.ec_walk.specs.declared.fault.Code.{Code}
use Rattle.ec_walk.specs.declared.fault.Code.TheVariants.{UnknownSort, NoRange, UnknownName, ArgumentCount, Misfit, OutOfRange, Arithmetic, Binders}

abbrev pub number_of : Code → ℕ
number_of UnknownSort = 6
number_of NoRange = 8
number_of UnknownName = 9
number_of ArgumentCount = 11
number_of Misfit = 12
number_of OutOfRange = 13
number_of Arithmetic = 14
number_of Binders = 15
