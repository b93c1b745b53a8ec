-- Parts of a narrative's text.
use Rattle.std.specs.Prelude.{ℕ, zero, suc, codes, ℤ, Bool, is_some, List, [], ◌++◌}
use Rattle.ec_logic.specs.Extent.{rank}
use Rattle.ec_logic.specs.Narrative.{integer_text}
use Rattle.ec_logic.specs.Signature.{time_sort}
use Rattle.ec_logic.specs.Universe.{Universe, extent_at}

-- what parts a value from the one before it
abbrev pub separator : ℕ → List ℕ
separator zero = []
separator (suc k) = codes ", "

-- whether a number is a time
abbrev pub is_time : Universe → ℤ → Bool
is_time universe t = is_some (rank (extent_at universe time_sort) t)

-- the end of what tells of a time
abbrev pub at_time : ℤ → List ℕ
at_time t = codes ", " ++ integer_text t ++ codes ")."
