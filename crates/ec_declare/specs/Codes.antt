-- The numbers of refusals.
use Rattle.std.specs.Prelude.{ℕ}
use Rattle.ec_declare.specs.declared.fault.Code.{Code}
use Rattle.ec_declare.specs.declared.fault.Code.TheVariants.{UnknownSort, OtherMeaning, NoRange, UnknownName, Misfit, LeftOut}

abbrev pub number_of : Code → ℕ
number_of UnknownSort = 6
number_of OtherMeaning = 7
number_of NoRange = 8
number_of UnknownName = 9
number_of Misfit = 12
number_of LeftOut = 22
