-- whether a search can go on
use Rattle.std.specs.Prelude.{◌≡◌, ℕ, ◌+◌, Bool, List, length, nat_eq, ◌||◌}
use Rattle.std.specs.Bool.{OnTrue}
use Rattle.ec_clause.specs.Literal.{Literal}
use Rattle.ec_clause.specs.ClauseList.{ClauseList}
use Rattle.ec_trail.specs.TrailList.{TrailList}
use Rattle.ec_unit.specs.Settling.{ShortHoldAtZero}
use Rattle.ec_unit.specs.declared.watch.Settled.{Settled}
use Rattle.ec_unit.specs.declared.watch.Settled.TheVariants.{Quiet, Conflict}
use Rattle.ec_unit.specs.Watching.{Watched, Watches, Agrees}
use Rattle.ec_sat.specs.Reasons.{IsSearching}
use Rattle.ec_sat.specs.declared.known.Known.{Known}

-- the front of the trail was seen when it was settled last; and short clauses hold at level 0, where that is said
pub record IsKnown (c : ClauseList) (t : TrailList) (seen : List Literal) (k : Known) : Type 0 where
  pub front : Agrees seen t.entries k.front
  pub short : OnTrue k.short (ShortHoldAtZero c t.entries)

-- whether short clauses are known to hold at level 0, after a trail of this level was settled
abbrev pub short_after : Bool → Settled → ℕ → Bool
short_after short Quiet level = short || nat_eq level 0
short_after short (Conflict number) level = short

-- a search that can go on: all clauses are watched over, and order and marks are for the trail's variables
pub record IsReady (list : ClauseList) (trail : TrailList) (watch : Watched) (order : ℕ) (marks : List Bool) (k : Known) : Type 0 where
  pub searching : IsSearching list trail
  pub watched : Watches list watch
  pub ordered : order ≡ trail.variables
  pub marked : length marks ≡ trail.variables + 1
  pub known : IsKnown list trail watch.seen k
