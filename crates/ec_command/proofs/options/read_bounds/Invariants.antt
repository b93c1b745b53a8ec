use Rattle.std.proofs.Common.{◌≡◌, ◌≤◌, map, ℕ, List, Option, length}
use Rattle.std.specs.Prelude.{IfSome}
use Rattle.std.specs.String.{string_bytes}
use Rattle.ec_command.specs.Words.{bounds_of}
use Rattle.ec_command.proofs.Pairs.{bounds_after}
use Rattle.ec_command.proofs.options.read_bounds.Given as goal

pub record IsRead (models conflicts : Option ℕ) (rest options : List (List ℕ)) : Type 0 where
  pub left : bounds_after models conflicts rest ≡ bounds_of options
  pub models_fit : IfSome models (λ n. (1 ≤ n) × (n ≤ 10000))
  pub conflicts_fit : IfSome conflicts (λ n. (1 ≤ n) × (n ≤ 2000000000))

abbrev pub invariant-options : goal.invariant-options
invariant-options l = IsRead l.models l.conflicts (map string_bytes l.rest) (map string_bytes l.options)

abbrev pub decreases-options : goal.decreases-options
decreases-options l = length l.rest
