-- whether each variable has a value
use Rattle.std.specs.Prelude.{◌≡◌, ℕ, ◌≤◌, None, slice_index_or}
use Rattle.ec_clause.specs.Literal.{Literal}
use Rattle.ec_trail.specs.TrailList.{TrailList, truth_of}

-- each variable has a value
abbrev pub IsFull : TrailList → Type 0
IsFull t = (variable : ℕ) → 1 ≤ variable → variable ≤ t.variables → slice_index_or (truth_of t) variable None ≡ None → ⊥

-- the variable of a literal has none
pub record IsOpen (t : TrailList) (l : Literal) : Type 0 where
  pub low : 1 ≤ l.variable
  pub high : l.variable ≤ t.variables
  pub no_value : slice_index_or (truth_of t) l.variable None ≡ None

-- a variable has none
pub record IsFree (t : TrailList) (variable : ℕ) : Type 0 where
  pub low : 1 ≤ variable
  pub high : variable ≤ t.variables
  pub no_value : slice_index_or (truth_of t) variable None ≡ None
