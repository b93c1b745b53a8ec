-- what a heap of variables keeps
use Rattle.std.specs.Prelude.{◌≡◌, ℕ, ◌+◌, ◌≤◌, ◌<◌, ◌^◌, List, length, All}

-- variables in range, with room for all of them, and a place and an activity for each
pub record IsHeaped (variables capacity : ℕ) (heap places activity : List ℕ) : Type 0 where
  pub small : variables < 2 ^ 31
  pub room : variables ≤ capacity
  pub few : length heap ≤ variables
  pub each : All (λ v. (1 ≤ v) × (v ≤ variables)) heap
  pub table : length places ≡ variables + 1
  pub scores : length activity ≡ variables + 1
