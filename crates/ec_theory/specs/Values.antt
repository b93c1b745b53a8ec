-- The numbers that values stand for.
use Rattle.std.specs.Prelude.{ℤ, List, map}
use Rattle.ec_theory.specs.declared.value.Value.{Value}

abbrev pub numbers_of : List Value → List ℤ
numbers_of values = map (λ (value : Value). value.0) values
