-- The first of some truths that is none of a minimal model.
use Rattle.std.specs.Prelude.{◌≡◌, ℕ, ◌+◌, Bool, List, ◌∷◌, ◌++◌, length, Option, Some, None}
use Rattle.std.specs.List.{AllByRecursion}
use Rattle.ec_logic.specs.Theory.{Theory}
use Rattle.ec_logic.specs.Listing.{IsTruth}
use Rattle.ec_grounding.specs.WellFormed.{visible_count}
use Rattle.ec_audit.specs.declared.first.Failing.{Failing}
use Rattle.ec_audit.specs.Untrue.{IsUntrueAt}

-- each truth has a value for each visible atom
abbrev pub AreWhole : Theory → List (List Bool) → Type 0
AreWhole theory truths = AllByRecursion (λ truth. length truth ≡ visible_count theory) truths

-- A truth of this number fails, by the part that is named.
pub record FailsAt (theory : Theory) (truth : List Bool) (number : ℕ) (failing : Failing) : Type 0 where
  pub number_is : failing.number ≡ number
  pub untrue : IsUntrueAt theory truth failing.part

-- A truth fails, and all before it are those of minimal models.
pub record IsFirstFailing (theory : Theory) (truths : List (List Bool)) (failing : Failing) : Type 0 where
  pub before : List (List Bool)
  pub truth : List Bool
  pub after : List (List Bool)
  pub parts : truths ≡ before ++ truth ∷ after
  pub passed : AllByRecursion (IsTruth theory) before
  pub fails : FailsAt theory truth (length before + 1) failing

-- None where each truth is that of a minimal model, else the first that isn't.
abbrev pub TellsFirst : Theory → List (List Bool) → Option Failing → Type 0
TellsFirst theory truths None = AllByRecursion (IsTruth theory) truths
TellsFirst theory truths (Some failing) = IsFirstFailing theory truths failing
