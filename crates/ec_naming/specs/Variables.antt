-- The variables of atoms.
use Rattle.std.specs.Prelude.{ℕ, ◌+◌, ◌==◌, List, position}
use Rattle.std.specs.Option.{option_map_or}

-- the variable of an atom by the list of the atoms that have one: its place, from 1 on; 0 for none
abbrev pub variable_of : List ℕ → ℕ → ℕ
variable_of atoms a = option_map_or (λ i. i + 1) (position (λ b. b == a) atoms) 0
