-- Theories: the sentences of a file, those of each group apart.
use Rattle.std.specs.Prelude.{ℕ, ◌==◌, Bool, List, []}
use Rattle.std.specs.List.{list_all, list_any}
use Rattle.ec_logic.specs.Tree.{Formula}
use Rattle.ec_logic.specs.Signature.{Signature}
use Rattle.ec_logic.specs.Universe.{Universe}
use Rattle.ec_logic.specs.Truth.{Structure, truth}

-- A group's predicates are circumscribed together in the group's own sentences.
pub record Group : Type 0 where
  pub predicates : List ℕ
  pub sentences : List Formula

-- All sentences are closed. The group of the effect predicates stands first.
pub record Theory : Type 0 where
  pub signature : Signature
  pub remaining : List Formula
  pub groups : List Group

abbrev pub is_in_group : Group → ℕ → Bool
is_in_group group p = list_any (λ q. q == p) group.predicates

-- whether all of these sentences are true
abbrev pub all_hold : Universe → Structure → List Formula → Bool
all_hold universe m sentences = list_all (truth universe m []) sentences
