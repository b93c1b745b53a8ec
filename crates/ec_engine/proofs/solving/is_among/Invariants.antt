use Rattle.std.proofs.Common.{◌≢◌, ℕ, ◌<◌, List, get_or}
use Rattle.ec_engine.proofs.solving.is_among.Given as goal

abbrev pub invariant-loop-name : goal.invariant-loop-name
invariant-loop-name l = (k : ℕ) (d : List ℕ) → k < l.name-index → get_or l.files k d ≢ l.file
