use Rattle.std.proofs.Common.{ℕ, ◌<◌, get_or}
use Rattle.ec_logic.specs.Universe.{universe_of}
use Rattle.ec_minimal.specs.Agrees.{Agrees}
use Rattle.ec_minimal.proofs.group.agree_on_all.Given as goal

abbrev pub invariant-loop-predicate : goal.invariant-loop-predicate
invariant-loop-predicate l = (i : ℕ) → i < l.predicate-index → Agrees (universe_of l.signature) l.a l.b (get_or l.predicates i 0)
