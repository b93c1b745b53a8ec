-- What the clause list of a theory says.
use Rattle.std.specs.Prelude.{◌≡◌, ℕ, ◌≤◌, Bool, List}
use Rattle.ec_logic.specs.Theory.{Theory}
use Rattle.ec_logic.specs.Listing.{IsTruth}
use Rattle.ec_clause.specs.Step.{AllHold}
use Rattle.ec_grounding.specs.WellFormed.{visible_count}
use Rattle.ec_certificate.specs.Shown.{visible_part}
use Rattle.ec_cnf.specs.List.{clauses_of}

-- a truth of all variables that meets the list, and has this visible part
pub record IsExtended (theory : Theory) (truth : List Bool) : Type 0 where
  pub whole : ℕ → Bool
  pub meets : AllHold whole (clauses_of theory)
  pub extends : visible_part (visible_count theory) whole ≡ truth

-- The truths that meet the list are those of the minimal models.
pub record IsListOf (theory : Theory) : Type 0 where
  -- the visible part of a truth that meets the list is the truth of a minimal model
  pub sound : (w : ℕ → Bool) → AllHold w (clauses_of theory) → IsTruth theory (visible_part (visible_count theory) w)
  -- the truth of each minimal model is the visible part of a truth that meets the list
  pub whole : (truth : List Bool) → IsTruth theory truth → IsExtended theory truth
  -- and of one alone
  pub once : (v w : ℕ → Bool) → AllHold v (clauses_of theory) → AllHold w (clauses_of theory) → visible_part (visible_count theory) v ≡ visible_part (visible_count theory) w
      → (i : ℕ) → 1 ≤ i → i ≤ (clauses_of theory).variables → v i ≡ w i
