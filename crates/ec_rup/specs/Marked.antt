-- which variables of a partial truth have a value
use Rattle.std.specs.Prelude.{◌≡◌, ℕ, ◌<◌, ◌⊎◌, List, None, length, All, Contains, slice_index_or}
use Rattle.ec_clause.specs.Truth.{Truth}

-- each variable that has a value is marked, and only places of the truth are
pub record AreMarked (p : Truth) (marked : List ℕ) : Type 0 where
  pub each : (v : ℕ) → (slice_index_or p v None ≡ None) ⊎ Contains marked v
  pub within : All (λ v. v < length p) marked
