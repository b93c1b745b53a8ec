-- A structure whose effects follow from the rest.
use Rattle.std.specs.Prelude.{List, [], ◌∷◌}
use Rattle.ec_logic.specs.Universe.{universe_of}
use Rattle.ec_logic.specs.Truth.{Structure}
use Rattle.ec_logic.specs.Theory.{Group, Theory}
use Rattle.ec_logic.specs.Completed.{filled}

-- the structure in which the atoms of the effect predicates are those that the theory's first group supports, and all else is as before
abbrev pub with_effects : Theory → Structure → Structure
with_effects theory m = by_first theory.groups
  where
    by_first : List Group → Structure
    by_first [] = m
    by_first (group ∷ groups) = filled (universe_of theory.signature) group m
