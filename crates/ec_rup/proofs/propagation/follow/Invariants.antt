use Rattle.std.proofs.Common.{◌≡◌, length}
use Rattle.ec_rup.proofs.Following.{IsFollowed}
use Rattle.ec_rup.proofs.propagation.follow.Given as goal

abbrev pub invariant-loop-at : goal.invariant-loop-at
invariant-loop-at l = IsFollowed l.clauses l.hints l.initial.assumed l.assumed l.at × (length l.assumed ≡ length l.initial.assumed)
