-- Formulas in whose scopes no more than sixteen variables are bound, where so many are bound outside.
use Rattle.std.specs.Prelude.{ℕ, ◌+◌, ◌≤◌, length}
use Rattle.ec_syntax.specs.Written.{Formula, atom, compare, not, and, or, implies, iff, for_all, exists, Formulas, no_formulas, formula}
use Rattle.ec_walk.specs.Faults.{binder_limit}

abbrev mutual
  pub IsNested : ℕ → Formula → Type 0
  IsNested outside (atom n ts) = Unit {0}
  IsNested outside (compare op a b) = Unit {0}
  IsNested outside (not f) = IsNested outside f
  IsNested outside (and fs) = AreNested outside fs
  IsNested outside (or fs) = AreNested outside fs
  IsNested outside (implies f g) = IsNested outside f × IsNested outside g
  IsNested outside (iff f g) = IsNested outside f × IsNested outside g
  IsNested outside (for_all vs f) = (outside + length vs ≤ binder_limit) × IsNested (outside + length vs) f
  IsNested outside (exists vs f) = (outside + length vs ≤ binder_limit) × IsNested (outside + length vs) f

  pub AreNested : ℕ → Formulas → Type 0
  AreNested outside no_formulas = Unit {0}
  AreNested outside (formula f fs) = IsNested outside f × AreNested outside fs
